-- The words of a renamed file: each block of the original is renamed there, and its words are read.
use Rattle.std.specs.Prelude.{◌≡◌, ℕ, zero, suc, ◌+◌, ◌*◌, ◌<◌, List, length}
use Rattle.std.specs.List.{Contains}
use Rattle.std.specs.FinSet as finite
use Rattle.std.specs.Ordering.{nat_cmp}
use Rattle.std.proofs.Common.{refl, sym, ◌∙◌, subst, arith}
use Rattle.ci_isa.specs.declared.instruction.Insn.{Insn}
use Rattle.ci_isa.specs.declared.instruction.Insn.TheVariants.{Cput, Cread, Illegal, Unit}
use Rattle.ci_isa.specs.Sequences.{nth_insn}
use Rattle.ci_isa.specs.Table.{IsInsnAt, IsWordOf, Reads}
use Rattle.ci_elf.specs.Executables.{Executable, text_word}
use Rattle.ci_block.specs.Blocks.{IsBlockAt}
use Rattle.ci_block.specs.declared.blocks.Block.{Block}
use Rattle.ci_live.specs.Sets.{Sets, after_block}
use Rattle.ci_rename.specs.InStep.{ArePlain}
use Rattle.ci_rename.specs.OtherRegisters.{ComputeAlike, with_operands, with_result}
use Rattle.ci_rename.specs.RenamedFiles.{AreRenamedAt, IsRenamedAt, IsRenamedFile, more, none}
use Rattle.ci_rename.specs.Steps.{IsPlainInsn}
use Rattle.ci_rename.proofs.RenamedBlocks.{renamed_alike, stays_plain}
use Rattle.ci_runs.specs.ChangedFiles.{IsChangedFile}
use Rattle.ci_runs.proofs.ChangedFiles as files

-- ---- words

-- what the plain table has at a word is plain
at_word_plain : (word : ℕ) (insn : Insn) → IsInsnAt word insn → IsPlainInsn insn
at_word_plain word (Unit number rd rs1 rs2 rs3) is = absurd is.1
at_word_plain word (Cread rd index) is = absurd is.1
at_word_plain word (Cput rs1 rs2) is = absurd is.1
at_word_plain word insn is = (refl, refl, refl)

-- a word that spells a plain instruction reads as it, if a bare word has no row
spelt_reads : (word : ℕ) (insn : Insn) → IsPlainInsn insn → IsWordOf word insn
    → ((bare : ℕ) → insn ≡ Illegal bare → (other : Insn) → ¬ Reads bare other) → IsInsnAt word insn
spelt_reads word (Illegal bare) plain is no_row = (sym is.1, λ other row. no_row bare refl other (subst (λ w. Reads w other) is.1 row))
spelt_reads word (Unit number rd rs1 rs2 rs3) plain is no_row = let never = plain.0 in cc
spelt_reads word (Cread rd index) plain is no_row = let never = plain.1 in cc
spelt_reads word (Cput rs1 rs2) plain is no_row = let never = plain.2 in cc
spelt_reads word insn plain is no_row = is

-- a bare word has no registers
bare_stays : (insn : Insn) (operand : ℕ → ℕ) (result bare : ℕ) → with_result result (with_operands operand insn) ≡ Illegal bare → insn ≡ Illegal bare
bare_stays (Illegal word) operand result bare same = same
bare_stays insn operand result bare same = cc

module _ (old new : Executable) (live : Sets) (values changed : ℕ) (is : IsRenamedFile old new live values changed) where
  -- the renamed file differs from the original in the text alone
  abbrev pub changed_is : IsChangedFile old new live
  changed_is = record {
    targets = is.targets;
    named = is.named;
    blocks = is.blocks;
    old_bytes = is.old_bytes;
    old_is = is.old_is;
    analysis = is.analysis;
    new_is = is.new_is;
    text_alone = is.text_alone;
  }

  -- ---- a block

  module _ (block : Block) (there : Contains is.blocks block) where
    abbrev insns : List Insn
    insns = block.insns.items

    abbrev live_out : finite.FinSet nat_cmp
    live_out = after_block live block.leader

    at_leader_of : IsBlockAt old is.analysis.leaders block
    at_leader_of = files.at_leader_of old new live changed_is block there

    pub renamed : (count : ℕ) × IsRenamedAt live new block count
    renamed = find is.blocks is.each is.renamed there
      where
        find : (blocks : List Block) (all : List ℕ) → AreRenamedAt live new blocks all → Contains blocks block → (count : ℕ) × IsRenamedAt live new block count
        find _ _ none (k, within, same) = absurd (omega arith)
        find _ _ (more first blocks count all here rest) (zero, within, same) =
            (count, subst (λ b. IsRenamedAt live new b count) same here)
        find _ _ (more first blocks count all here rest) (suc k, within, same) = find blocks all rest (k, omega arith, same)

    abbrev pub after_it : List Insn
    after_it = renamed.1.insns

    -- ---- words

    abbrev word : ℕ → ℕ
    word k = text_word old (block.leader + 4 * k)

    pub reads : (k : ℕ) → k < length insns → IsInsnAt (word k) (nth_insn insns k)
    reads = files.reads old new live changed_is block there

    pub are_plain : ArePlain insns
    are_plain k below = at_word_plain (word k) (nth_insn insns k) (reads k below)

    pub computes : ComputeAlike live_out insns after_it
    computes = renamed_alike live_out insns after_it renamed.0 are_plain renamed.1.renamed

    pub new_reads : (k : ℕ) → k < length after_it → IsInsnAt (text_word new (block.leader + 4 * k)) (nth_insn after_it k)
    new_reads k below =
        let within : k < length insns = omega (arith, computes.same_length) in
        let other = computes.each k within in
        spelt_reads (text_word new (block.leader + 4 * k)) (nth_insn after_it k) (stays_plain live_out insns after_it are_plain computes k below)
        (renamed.1.words k below)
        (λ bare same.
        let was : nth_insn insns k ≡ Illegal bare = bare_stays (nth_insn insns k) other.operand other.result bare (sym other.is ∙ same) in
        let at : IsInsnAt (word k) (Illegal bare) = subst (IsInsnAt (word k)) was (reads k within) in
        λ insn row. at.1 insn (subst (λ w. Reads w insn) at.0 row))
