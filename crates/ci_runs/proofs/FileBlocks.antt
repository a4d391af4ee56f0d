-- A folded file: what holds of both files, of their listed leaders, and of a block and what is folded of it.
use Rattle.std.specs.Prelude.{◌≡◌, ℕ, ◌+◌, ◌-◌, ◌*◌, ◌^◌, ◌<◌, ◌&&◌, ◌⊎◌, true, false, pos, ◌+ℤ◌, List, length}
use Rattle.std.specs.List.{Contains}
use Rattle.std.specs.FinSet as finite
use Rattle.std.specs.Ordering.{nat_cmp}
use Rattle.std.proofs.Common.{refl, sym, ap, ◌∙◌, subst, arith, inl, inr}
use Rattle.std.proofs.lemmas.Bool.{cases_Bool, cases_lt}
use Rattle.std.proofs.lemmas.List.{get_or_default}
use Rattle.ci_isa.specs.declared.instruction.Insn.{Insn}
use Rattle.ci_isa.specs.declared.instruction.Insn.TheVariants.{Ebreak, Illegal}
use Rattle.ci_isa.specs.Effects.{ends_block}
use Rattle.ci_isa.specs.FieldBounds.{FieldsFit}
use Rattle.ci_isa.specs.Sequences.{nth_insn, ReadFirst, Write}
use Rattle.ci_isa.specs.Table.{IsInsnAt, IsWordOf}
use Rattle.ci_isa.proofs.RowCompleteness.{plain_well_formed}
use Rattle.ci_isa.proofs.WellFormed.{fields_fit}
use Rattle.ci_elf.specs.Executables.{text_word}
use Rattle.ci_lat.specs.Latencies.{Latencies as Table}
use Rattle.ci_block.specs.declared.blocks.Block.{Block}
use Rattle.ci_block.specs.Blocks.{IsBlockAt, size_of}
use Rattle.ci_live.specs.Sets.{after_block, at_leader}
use Rattle.ci_live.proofs.RegisterLaws.{live_are_registers}
use Rattle.ci_machine.specs.Blocks.{StandAt}
use Rattle.ci_machine.specs.Extended.{IsExtended, IsInsnWith, latencies_with}
use Rattle.ci_machine.specs.Programs.{Program, in_text, loaded_program, opening}
use Rattle.ci_machine.specs.Runs.{Latencies}
use Rattle.ci_machine.specs.Steps.{Meaning}
use Rattle.ci_machine.proofs.ExtendedMeaning.{one_stands}
use Rattle.ci_rewrite.specs.Blocks.{AllFieldsFit, AreActionsOf, AreNamed, Covers, IsBlock}
use Rattle.ci_rewrite.specs.Costs.{cost_of}
use Rattle.ci_rewrite.specs.RunLatencies.{AreOfTable}
use Rattle.ci_rewrite.specs.SameEffect.{Serve}
use Rattle.ci_rewrite.specs.UnitModules.{IgnoreOperands}
use Rattle.ci_rewrite.proofs.BareWordLaws.{of_bare}
use Rattle.ci_rewrite.proofs.ModuleUnits.{modules_serve}
use Rattle.ci_dfg.proofs.PlainLists.{plain_are_bundled}
use Rattle.ci_rewrite.proofs.PlainBlocks.{plain_numbers}
use Rattle.ci_runs.specs.WholeRuns.{Rewriting, Saving, is_among}
use Rattle.ci_runs.specs.FoldedFiles.{IsFoldedBlock, IsFoldedFile, saved_at}
use Rattle.ci_runs.specs.ChangedFiles.{IsChangedFile}
use Rattle.ci_runs.proofs.FoldChains.{AreKept, folds_keep, folds_save, others_stay}
use Rattle.ci_runs.proofs.ChangedFiles as files
use Rattle.ci_runs.proofs.StandingWords.{CanStand, can_stand, has_module, plain_stands, spelt_stands}

-- ---- fields

-- what the plain table has at a word has its fields in their places, if a bare word has 32 bits
fields_at : (word : ℕ) (insn : Insn) → IsInsnAt word insn → ((bare : ℕ) → insn ≡ Illegal bare → bare < 2 ^ 32) → FieldsFit insn
fields_at word (Illegal bare) is small = small bare refl
fields_at word insn is small = fields_fit insn (plain_well_formed word insn is)

module _ (rewriting : Rewriting) (table : Table) (savings : List Saving) (is : IsFoldedFile rewriting table savings) where
  -- ---- the files

  abbrev program : Program
  program = loaded_program rewriting.old

  -- the new file differs from the original in the text alone
  abbrev pub changed : IsChangedFile rewriting.old rewriting.new rewriting.live
  changed = record {
    targets = is.targets;
    named = is.named;
    blocks = is.blocks;
    old_bytes = is.old_bytes;
    old_is = is.old_is;
    analysis = is.analysis;
    new_is = is.new_is;
    text_alone = is.text_alone;
  }

  -- ---- a block

  module _ (block : Block) (there : Contains is.blocks block) where
    abbrev insns : List Insn
    insns = block.insns.items

    abbrev live_out : finite.FinSet nat_cmp
    live_out = after_block rewriting.live block.leader

    -- it is that of its leader,
    pub at_leader_of : IsBlockAt rewriting.old is.analysis.leaders block
    at_leader_of = files.at_leader_of rewriting.old rewriting.new rewriting.live changed block there

    -- is folded,
    pub fold : IsFoldedBlock rewriting table savings is.limits block
    fold = is.each block there

    -- the word of instruction k
    abbrev word : ℕ → ℕ
    word k = text_word rewriting.old (block.leader + 4 * k)

    -- it reads as the instruction in the plain table
    reads : (k : ℕ) → k < length insns → IsInsnAt (word k) (nth_insn insns k)
    reads = files.reads rewriting.old rewriting.new rewriting.live changed block there

    -- a bare word stands in the new file too, so it has 32 bits
    bare_small : (k : ℕ) → k < length insns → (bare : ℕ) → nth_insn insns k ≡ Illegal bare → bare < 2 ^ 32
    bare_small k below bare same =
        let here : Contains insns (Illegal bare) = (k, below, get_or_default insns k (Illegal bare) Ebreak below ∙ same) in
        let (j, within, at) = others_stay rewriting.modules live_out table is.limits insns (Illegal bare) refl here fold.insns fold.gains fold.folds in
        let spelt = subst (λ insn. IsWordOf (text_word rewriting.new (block.leader + 4 * j)) insn)
        (get_or_default fold.insns j Ebreak (Illegal bare) within ∙ at) (fold.words j within) in
        omega (arith, spelt.0, spelt.1)

    -- all fields fit
    fit : AllFieldsFit insns
    fit k below = fields_at (word k) (nth_insn insns k) (reads k below) (bare_small k below)

    -- its actions are all of its instructions but a terminator
    pub actions_of : (n : ℕ) × AreActionsOf insns n
    actions_of = elim (cases_Bool (ends_block (nth_insn insns (size_of block - 1)))) [
      | inl ends ↦ (
        size_of block - 1,
        record {
          within = omega arith;
          most = omega arith;
          act = λ k below. at_leader_of.one_terminator k (omega (arith, at_leader_of.some)) Ebreak;
          end = λ k from below.
              let last : size_of block - 1 ≡ k = omega arith in
              subst (λ j. ends_block (nth_insn insns j) ≡ true) last ends;
        },
      )
      | inr acts ↦ (
        size_of block,
        record {
          within = omega arith;
          most = omega arith;
          act = λ k below. elim (cases_lt (k + 1) (size_of block)) [
            | inl inner ↦ at_leader_of.one_terminator k inner Ebreak
            | inr last ↦
                let same : size_of block - 1 ≡ k = omega arith in
                subst (λ j. ends_block (nth_insn insns j) ≡ false) same acts
          ];
          end = λ k from below. absurd (omega arith);
        },
      )
    ]

    abbrev pub n : ℕ
    n = actions_of.0

    -- So it can be folded.
    pub is_block : IsBlock insns n
    is_block = record {
      actions = actions_of.1;
      few = at_leader_of.at_most;
      fit = fit;
      bundled = plain_are_bundled word insns reads;
    }

    -- programs can name what is live behind it,
    pub named : AreNamed live_out
    named r live =
        live_are_registers rewriting.old is.targets is.named is.blocks rewriting.live block.leader r is.analysis
        (files.leader_listed rewriting.old rewriting.new rewriting.live changed block there) (inr live)

    -- and what is live at its leader covers it
    pub covers : Covers (λ r. is_among rewriting.live.leaders block.leader && finite.contains (at_leader rewriting.live block.leader) r) insns live_out
    covers = record {
      read = λ r first. at r (inl first);
      live = λ r live unwritten. at r (inr (live, unwritten));
    }
      where
        at : (r : ℕ) → ReadFirst insns r ⊎ ((finite.contains live_out r ≡ true) × ¬ Write insns r)
            → (is_among rewriting.live.leaders block.leader && finite.contains (at_leader rewriting.live block.leader) r) ≡ true
        at = files.needs rewriting.old rewriting.new rewriting.live changed block there

    -- ---- on the machine with the modules

    module _ (meaning : Meaning) (extended : IsExtended rewriting.modules meaning) where
      -- each instruction stands at its word,
      old_stands_at : (k : ℕ) → k < length insns → IsInsnWith rewriting.modules (word k) (nth_insn insns k)
      old_stands_at k below =
          plain_stands rewriting.modules (word k) (nth_insn insns k) (is.plain (block.leader + 4 * k) (at_leader_of.insns k Ebreak below).text)
          (reads k below)

      -- so it can stand,
      stand : (k : ℕ) → k < length insns → CanStand rewriting.modules (nth_insn insns k)
      stand k below = can_stand rewriting.modules (word k) (nth_insn insns k) (old_stands_at k below)

      -- and units serve it
      pub serve : Serve meaning.units insns
      serve = modules_serve rewriting.modules meaning is.modules_are extended insns fit
          (λ k below. has_module rewriting.modules (nth_insn insns k) (stand k below))
          (of_bare (IgnoreOperands rewriting.modules) insns (plain_numbers insns word reads (IgnoreOperands rewriting.modules)))

      -- the folds keep the block,
      pub kept : AreKept rewriting.modules (in_text program) meaning.units insns n live_out fold.insns
      kept =
          folds_keep rewriting.modules live_out table is.limits insns meaning is.modules_are extended n is_block named serve stand
          (in_text program) fold.insns fold.gains fold.folds

      -- and save what is listed for the leader
      pub block_saves : (latencies : Latencies) → AreOfTable table latencies
          → let all = latencies_with latencies rewriting.modules in
          pos (cost_of all insns) ≡ pos (cost_of all fold.insns) +ℤ saved_at savings block.leader
      block_saves latencies of_table =
          folds_save rewriting.modules live_out table is.limits insns meaning is.modules_are extended n is_block named serve stand
          (in_text program) latencies of_table fold.insns fold.gains fold.folds
          ∙ ap (λ saved. pos (cost_of (latencies_with latencies rewriting.modules) fold.insns) +ℤ saved) (sym fold.gains_are)

      -- the instructions stand where the original opens,
      pub old_stands : (input : List ℕ) → StandAt meaning program (opening rewriting.old input).core.memory block.leader insns
      old_stands input =
          files.old_stands rewriting.old rewriting.new rewriting.live changed block there meaning input
          (λ k below.
          one_stands rewriting.modules (word k) (meaning.insn (word k)) (nth_insn insns k) (extended.reads (word k)) (old_stands_at k below))

      -- and those that are folded where the new file opens
      pub new_stands : (input : List ℕ) → StandAt meaning program (opening rewriting.new input).core.memory block.leader fold.insns
      new_stands input =
          files.new_stands rewriting.old rewriting.new rewriting.live changed block there meaning input fold.insns kept.keeps.shape.same_length
          (λ k below.
          let written = text_word rewriting.new (block.leader + 4 * k) in
          one_stands rewriting.modules written (meaning.insn written) (nth_insn fold.insns k) (extended.reads written)
          (spelt_stands rewriting.modules written (nth_insn fold.insns k) (kept.can_stand k below) (fold.words k below)))
