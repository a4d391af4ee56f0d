-- Where a block leads in which cuts are folded, behind it or with its terminator.
use Rattle.std.specs.Prelude.{◌≡◌, ℕ, ◌-◌, ◌<◌, true, List, Some, None, length, take}
use Rattle.std.specs.List.{Contains}
use Rattle.std.specs.FinSet as finite
use Rattle.std.specs.Ordering.{nat_cmp}
use Rattle.std.proofs.Common.{sym, subst, arith}
use Rattle.std.proofs.lemmas.List.{take_all}
use Rattle.ci_isa.specs.declared.instruction.Insn.{Insn}
use Rattle.ci_isa.specs.Sequences.{nth_insn}
use Rattle.ci_lat.specs.Latencies.{Latencies as Table}
use Rattle.ci_block.specs.declared.blocks.Block.{Block}
use Rattle.ci_block.specs.Blocks.{size_of}
use Rattle.ci_live.specs.Sets.{after_block}
use Rattle.ci_machine.specs.Blocks.{behind}
use Rattle.ci_machine.specs.Outcomes.{reached}
use Rattle.ci_machine.specs.Programs.{Program, State, in_text, loaded_program}
use Rattle.ci_machine.specs.RunEvents.{jalr_target}
use Rattle.ci_machine.specs.Steps.{Meaning, fetched, step}
use Rattle.ci_rewrite.specs.Blocks.{IsBlock}
use Rattle.ci_runs.specs.WholeRuns.{Rewriting, Saving, is_among}
use Rattle.ci_runs.specs.FoldedFiles.{IsFoldedFile}
use Rattle.ci_runs.specs.CrossedFiles.{two_runs}
use Rattle.ci_runs.specs.Places.{TwoRuns, LeadsTo}
use Rattle.ci_runs.proofs.FileBlocks.{at_leader_of, changed}
use Rattle.ci_runs.proofs.Ways.{leads_behind, leads_with}

module _ (rewriting : Rewriting) (table : Table) (savings : List Saving) (is : IsFoldedFile rewriting table savings) (meaning : Meaning) (input : List ℕ)
    (block : Block) (there : Contains is.blocks block) (n : ℕ) (can_fold : IsBlock block.insns.items n) where
  abbrev runs : TwoRuns
  runs = two_runs rewriting meaning input

  abbrev program_of : Program
  program_of = loaded_program rewriting.old

  abbrev insns : List Insn
  insns = block.insns.items

  abbrev live_out : finite.FinSet nat_cmp
  live_out = after_block rewriting.live block.leader

  -- The block leads so behind it, where it has no terminator,
  pub onto : n ≡ length insns → LeadsTo runs live_out (behind (take n insns) block.leader)
  onto all =
      let some = (at_leader_of rewriting table savings is block there).some in
      let whole : insns ≡ take n insns = sym (take_all n insns (omega (arith, all))) in
      subst (λ list. LeadsTo runs live_out (behind list block.leader)) whole
      (leads_behind rewriting.old rewriting.new rewriting.live (changed rewriting table savings is) meaning input block there
      (can_fold.actions.act (size_of block - 1) (omega (arith, all, some))))

  -- and with its terminator.
  pub on_from :
      (state : State) → n < length insns → state.pc ≡ behind (take n insns) block.leader
      → fetched meaning program_of state ≡ Some (nth_insn insns n)
      → (reached state (step meaning program_of state)).end ≡ None
      → ((target : ℕ) → jalr_target meaning program_of state ≡ Some target → in_text program_of target ≡ true
      → is_among rewriting.live.leaders target ≡ true)
      → LeadsTo runs live_out (reached state (step meaning program_of state)).state.pc
  on_from state below pc_is found on listed =
      leads_with rewriting.old rewriting.new rewriting.live (changed rewriting table savings is) meaning input block there state n
      (omega (arith, can_fold.actions.most)) pc_is found on listed
