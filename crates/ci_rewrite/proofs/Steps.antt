-- A folded block that stands in the text makes the steps of the block.
use Rattle.std.proofs.Common.{◌≡◌, ℕ, refl, ap, sym, ◌∙◌, subst, List, length, take, Some}
use Rattle.std.specs.Prelude.{true}
use Rattle.std.specs.List.{list_all}
use Rattle.ci_isa.specs.declared.instruction.Insn.{Insn}
use Rattle.ci_isa.specs.Sequences.{nth_insn}
use Rattle.ci_machine.specs.declared.ends.End.{End}
use Rattle.ci_machine.specs.Cores.{Core}
use Rattle.ci_machine.specs.Accesses.{addresses}
use Rattle.ci_machine.specs.Outcomes.{Reached, at_start}
use Rattle.ci_machine.specs.Agreement.{act_all, AllLeaveText, AreRelated}
use Rattle.ci_machine.specs.Programs.{Program, State, in_text}
use Rattle.ci_machine.specs.Steps.{Meaning, insn_in}
use Rattle.ci_machine.specs.Runs.{after}
use Rattle.ci_machine.specs.Touches.{LeavesTextFor}
use Rattle.ci_machine.specs.Blocks.{StandAt, IsRunOf, behind}
use Rattle.ci_machine.proofs.BlockSteps.{block_steps, list_keeps_text, same_insn}
use Rattle.ci_machine.proofs.Refusals.{IsRefused, list_refused}
use Rattle.ci_machine.proofs.RelatedSteps.{related_steps}
use Rattle.ci_machine.proofs.StandingLists.{length_first, stand_first, stands_last}
use Rattle.ci_machine.proofs.StepLists.{leaving_alike}
use Rattle.ci_rewrite.specs.Blocks.{IsBlock, live_behind}
use Rattle.ci_rewrite.specs.SameSteps.{FoldingKeepsSteps, LastIsFetched}
use Rattle.ci_machine.specs.Outcomes.{is_access_fault}
use Rattle.ci_rewrite.proofs.TwoCores.{actions_of}
use Rattle.ci_rewrite.proofs.WithOperands.{folding_keeps_agreement}

-- ---- steps through the actions of one block

module _ (meaning : Meaning) (program : Program) (insns : List Insn) (n : ℕ) (state : State) (block : IsBlock insns n)
    (stands : StandAt meaning program state.core.memory state.pc insns) where
  abbrev actions : List Insn
  actions = take n insns

  abbrev acted : Reached Core
  acted = act_all meaning.units actions (at_start state.core)

  abbrev Clear : Type 0
  Clear = AllLeaveText meaning.units (in_text program) actions (at_start state.core)

  as_long : length actions ≡ n
  as_long = length_first insns n block.actions.within

  stand : StandAt meaning program state.core.memory state.pc actions
  stand = stand_first meaning program state.core.memory insns n state.pc stands

  pub list_leaves : LeavesTextFor meaning program n state → Clear
  list_leaves leaves =
      (leaving_alike meaning program state.core.memory actions state stand (λ a text. refl) (actions_of insns n block)).0
      (subst (λ m. LeavesTextFor meaning program m state) (sym as_long) leaves)

  steps_leave : Clear → LeavesTextFor meaning program n state
  steps_leave clear =
      subst (λ m. LeavesTextFor meaning program m state) as_long
      ((leaving_alike meaning program state.core.memory actions state stand (λ a text. refl) (actions_of insns n block)).1 clear)

  pub made : Clear → IsRunOf actions state.pc (after meaning program n state) acted
  made clear =
      subst (λ m. IsRunOf actions state.pc (after meaning program m state) acted) as_long
      (block_steps meaning program state.core.memory actions state stand (λ a text. refl) (actions_of insns n block) clear)

  -- the text stays
  pub text_kept : Clear → (a : ℕ) → in_text program a ≡ true → (after meaning program n state).state.core.memory a ≡ state.core.memory a
  text_kept clear a text =
      ap (λ core. core.memory a) (made clear).core ∙ list_keeps_text (in_text program) meaning.units actions (at_start state.core) a clear text

pub last_is_fetched : LastIsFetched
last_is_fetched meaning program insns n state block below stands leaves on =
    ap (insn_in meaning program (after meaning program n state).state.core.memory) (run.pc (sym run.end ∙ on))
    ∙ same_insn meaning program (after meaning program n state).state.core.memory state.core.memory (behind (take n insns) state.pc)
    (text_kept meaning program insns n state block stands clear) last.1
    ∙ last.0
  where
    clear : AllLeaveText meaning.units (in_text program) (take n insns) (at_start state.core)
    clear = list_leaves meaning program insns n state block stands leaves

    run : IsRunOf (take n insns) state.pc (after meaning program n state) (act_all meaning.units (take n insns) (at_start state.core))
    run = made meaning program insns n state block stands clear

    last : (insn_in meaning program state.core.memory (behind (take n insns) state.pc) ≡ Some (nth_insn insns n))
        × (list_all (in_text program) (addresses 4 (behind (take n insns) state.pc)) ≡ true)
    last = stands_last meaning program state.core.memory insns n state.pc below stands

-- ---- two blocks

refusal_is : (e : End) → IsRefused e → is_access_fault e ≡ true
refusal_is e (address, width, same) = ap is_access_fault same

pub folding_keeps_steps : FoldingKeepsSteps
folding_keeps_steps meaning program set insns folded n live_out left right block named serve keeps covers start leaves = record {
  leaves_text = steps_leave meaning program folded n right again start.folded_block pair.0;
  related =
      related_steps (in_text program) (live_behind insns n live_out) (take n insns) (take n folded) left.pc right.pc
      (after meaning program n left) (after meaning program n right) _ _
      (as_long meaning program insns n left block start.block ∙ sym (as_long meaning program folded n right again start.folded_block))
      start.pc old (made meaning program folded n right again start.folded_block pair.0) pair.1;
  refused = λ e is. refusal_is e (list_refused meaning.units (take n insns) (at_start left.core) (λ f none. cc) e (sym old.end ∙ is));
  there = λ on. old.pc (sym old.end ∙ on);
}
  where
    again : IsBlock folded n
    again = keeps.shape.is_block

    clear : AllLeaveText meaning.units (in_text program) (take n insns) (at_start left.core)
    clear = list_leaves meaning program insns n left block start.block leaves

    old : IsRunOf (take n insns) left.pc (after meaning program n left) (act_all meaning.units (take n insns) (at_start left.core))
    old = made meaning program insns n left block start.block clear

    pair : AllLeaveText meaning.units (in_text program) (take n folded) (at_start right.core)
        × AreRelated (in_text program) (live_behind insns n live_out)
        (act_all meaning.units (take n insns) (at_start left.core)) (act_all meaning.units (take n folded) (at_start right.core))
    pair =
        folding_keeps_agreement (in_text program) set meaning.units insns folded n live_out left.core right.core
        block named serve keeps covers start.words start.folded_words start.outside start.registers clear
