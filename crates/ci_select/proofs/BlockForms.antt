-- A block of a file is a block that can be folded.
use Rattle.std.proofs.Common.{◌≡◌, ℕ, ◌+◌, ◌-◌, ◌*◌, ◌<◌, true, false, List, length, sym, subst, inl, inr, arith}
use Rattle.std.proofs.lemmas.Bool.{cases_Bool, cases_lt}
use Rattle.ci_isa.specs.declared.instruction.Insn.{Insn}
use Rattle.ci_isa.specs.declared.instruction.Insn.TheVariants.{Ebreak}
use Rattle.ci_isa.specs.Effects.{ends_block}
use Rattle.ci_isa.specs.Sequences.{nth_insn}
use Rattle.ci_isa.specs.Table.{IsInsnAt, IsWellFormed}
use Rattle.ci_isa.proofs.WellFormed.{fields_fit, well_formed}
use Rattle.ci_elf.specs.Executables.{Executable, text_word}
use Rattle.ci_machine.specs.Words.{AreBytes}
use Rattle.ci_block.specs.declared.blocks.Block.{Block}
use Rattle.ci_block.specs.Blocks.{IsBlockAt, size_of}
use Rattle.ci_block.proofs.BlockWords.{block_is_spelt}
use Rattle.ci_rewrite.specs.Blocks.{AllFieldsFit, AreActionsOf, IsBlock}
use Rattle.ci_dfg.proofs.PlainLists.{plain_are_bundled}

-- instructions whose fields fit have words
pub words_of : (insns : List Insn) → AllFieldsFit insns → (k : ℕ) → k < length insns → IsWellFormed (nth_insn insns k)
words_of insns fit k below = well_formed (nth_insn insns k) (fit k below)

module _ {image : Executable} {leaders : List ℕ} {block : Block} (bytes : AreBytes image.bytes) (is : IsBlockAt image leaders block) where
  pub fields_of_block : AllFieldsFit block.insns.items
  fields_of_block k below =
      fields_fit (nth_insn block.insns.items k) (text_word image (block.leader + 4 * k), block_is_spelt bytes is k below)

  -- its actions are all of its instructions but a terminator
  actions_of : (n : ℕ) × AreActionsOf block.insns.items n
  actions_of = elim (cases_Bool (ends_block (nth_insn block.insns.items (size_of block - 1)))) [
    | inl ends ↦ (
      size_of block - 1,
      record {
        within = omega arith;
        most = omega arith;
        act = λ k below. is.one_terminator k (omega (arith, is.some)) Ebreak;
        end = λ k from below. let last : size_of block - 1 ≡ k = omega arith in
            subst (λ j. ends_block (nth_insn block.insns.items j) ≡ true) last ends;
      },
    )
    | inr acts ↦ (
      size_of block,
      record {
        within = omega arith;
        most = omega arith;
        act = λ k below. elim (cases_lt (k + 1) (size_of block)) [
          | inl inner ↦ is.one_terminator k inner Ebreak
          | inr last ↦ let same : size_of block - 1 ≡ k = omega arith in
              subst (λ j. ends_block (nth_insn block.insns.items j) ≡ false) same acts
        ];
        end = λ k from below. absurd (omega arith);
      },
    )
  ]

  -- the word of instruction k reads as it in the plain table
  abbrev word : ℕ → ℕ
  word k = text_word image (block.leader + 4 * k)

  reads : (k : ℕ) → k < length block.insns.items → IsInsnAt (word k) (nth_insn block.insns.items k)
  reads k below = (is.insns k Ebreak below).reads

  pub block_can_be_folded : (n : ℕ) × IsBlock block.insns.items n
  block_can_be_folded = (
    actions_of.0,
    record {
      actions = actions_of.1;
      few = is.at_most;
      fit = fields_of_block;
      bundled = plain_are_bundled word block.insns.items reads;
    },
  )
