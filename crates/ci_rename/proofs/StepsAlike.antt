-- The step of an instruction, and that of one with other registers.
use Rattle.std.proofs.Common.{◌≡◌, ℕ, refl, ap, sym, subst, ◌∙◌, Option, Some, None, find, inl, inr}
use Rattle.std.specs.Prelude.{Bool, false, if◌then◌else◌}
use Rattle.std.specs.List.{list_any}
use Rattle.std.proofs.lemmas.Bool.{cases_Bool}
use Rattle.ci_isa.specs.declared.instruction.Insn.{Insn}
use Rattle.ci_isa.specs.declared.instruction.Insn.TheVariants.{Alu, Cput, Unit}
use Rattle.ci_isa.specs.Effects.{ends_block, is_cput, is_unit, writes_register}
use Rattle.ci_machine.specs.Cores.{Core, register}
use Rattle.ci_machine.specs.Outcomes.{Next, Ended, Outcome, reached}
use Rattle.ci_machine.specs.Actions.{act}
use Rattle.ci_machine.specs.Agreement.{writes}
use Rattle.ci_machine.specs.Programs.{Program, State, at_pc, in_text}
use Rattle.ci_machine.specs.Steps.{Meaning, control, fetched, step, stepped, then_onward}
use Rattle.ci_machine.specs.Touches.{moved, touched}
use Rattle.ci_machine.proofs.BlockSteps.{control_step}
use Rattle.ci_machine.proofs.InstructionFrame.{keeps}
use Rattle.ci_machine.proofs.TextLaws.{find_none, none_found, same_moved}
use Rattle.ci_rename.specs.OtherRegisters.{with_operands, with_result}
use Rattle.ci_rename.specs.Steps.{GoOnAlike, InstructionsGoOnAlike, MeetAtInsn, StepAlike}
use Rattle.ci_rename.proofs.ActionsAlike.{ActAlike, accesses_alike, acts_alike}
use Rattle.ci_rename.proofs.ControlAlike.{control_alike, control_keeps, control_leaves}

-- an instruction with other registers ends a block as it did,
same_end : (insn : Insn) (operand : ℕ → ℕ) (result : ℕ) → ends_block (with_result result (with_operands operand insn)) ≡ ends_block insn
same_end (Alu op rd rs1 rs2) operand result = refl
same_end insn operand result = refl

-- and is no unit word, if that was none
same_unit : (insn : Insn) (operand : ℕ → ℕ) (result : ℕ) → is_unit (with_result result (with_operands operand insn)) ≡ is_unit insn
same_unit (Alu op rd rs1 rs2) operand result = refl
same_unit insn operand result = refl

-- nor a `cput`
same_put : (insn : Insn) (operand : ℕ → ℕ) (result : ℕ) → is_cput (with_result result (with_operands operand insn)) ≡ is_cput insn
same_put (Alu op rd rs1 rs2) operand result = refl
same_put insn operand result = refl

-- what it writes, if it is neither
plain_writes : (insn : Insn) (r : ℕ) → is_unit insn ≡ false → is_cput insn ≡ false → writes insn r ≡ writes_register insn r
plain_writes (Unit number rd rs1 rs2 rs3) r plain apart = cc
plain_writes (Cput rs1 rs2) r plain apart = cc
plain_writes insn r plain apart = refl

-- an action as a step
onward_alike : (text : ℕ → Bool) (old new : Insn) (left right : Core) (pc : ℕ) (o p : Outcome Core)
    → ActAlike text old new (reached left o) (reached right p)
    → StepAlike text old new (reached (at_pc pc left) (then_onward pc o)) (reached (at_pc pc right) (then_onward pc p))
onward_alike text old new left right pc (Next l) (Next r) same =
    record { end = refl; pc = λ on. refl; outside = same.outside; written = same.written }
onward_alike text old new left right pc (Ended e) (Ended f) same =
    record { end = same.end; pc = λ on. cc; outside = same.outside; written = λ on. cc }
onward_alike text old new left right pc (Next l) (Ended f) same = let never = same.end in cc
onward_alike text old new left right pc (Ended e) (Next r) same = let never = same.end in cc

onward_core : (pc : ℕ) (core : Core) (o : Outcome Core) → (reached (at_pc pc core) (then_onward pc o)).state.core ≡ (reached core o).state
onward_core pc core (Next next) = refl
onward_core pc core (Ended e) = refl

module _ (meaning : Meaning) (program : Program) where
  pub action_step : (state : State) (insn : Insn) → fetched meaning program state ≡ Some insn → ends_block insn ≡ false
      → step meaning program state ≡ then_onward state.pc (act meaning.units insn state.core)
  action_step state insn found acts =
      ap (stepped meaning.units program state) found
      ∙ ap (λ test. if test then control program insn state.pc state.core else then_onward state.pc (act meaning.units insn state.core)) acts

  touches : (insn : Insn) (state : State) → fetched meaning program state ≡ Some insn
      → touched meaning program state ≡ find (in_text program) (moved insn state.core)
  touches insn state found =
      ap (λ (f : Option Insn). elim f as (λ _. Option ℕ) [ None ↦ None | Some other ↦ find (in_text program) (moved other state.core) ]) found

  -- what a plain instruction doesn't write stays
  step_keeps : (state : State) (insn : Insn) → fetched meaning program state ≡ Some insn → is_unit insn ≡ false → is_cput insn ≡ false
      → (r : ℕ) → writes_register insn r ≡ false → register (reached state (step meaning program state)).state.core r ≡ register state.core r
  step_keeps state insn found plain apart r other = elim (cases_Bool (ends_block insn)) [
    | inl ends ↦
        ap (λ o. register (reached state o).state.core r) (control_step meaning program state insn found ends)
        ∙ control_keeps program state.pc state.core r insn other
    | inr acts ↦
        ap (λ o. register (reached state o).state.core r) (action_step state insn found acts)
        ∙ ap (λ core. register core r) (onward_core state.pc state.core (act meaning.units insn state.core))
        ∙ (keeps meaning.units insn state.core).registers r (plain_writes insn r plain apart ∙ other)
  ]

  -- both from one pc
  module _ (insn : Insn) (operand : ℕ → ℕ) (result : ℕ) (left right : State)
      (meet : MeetAtInsn meaning program insn (with_result result (with_operands operand insn)) left right) where
    abbrev new : Insn
    new = with_result result (with_operands operand insn)

    left_clear : list_any (in_text program) (moved insn left.core) ≡ false
    left_clear = none_found (in_text program) (moved insn left.core) (sym (touches insn left meet.left_fetches) ∙ meet.clear)

    new_clear : list_any (in_text program) (moved new right.core) ≡ false
    new_clear = elim (cases_Bool (ends_block insn)) [
      | inl ends ↦
          control_leaves (in_text program) meaning.units program left.pc left.core right.core meet.left_mapped meet.right_mapped meet.outside
          insn operand result ends meet.operands left_clear
      | inr acts ↦
          ap (list_any (in_text program))
          (same_moved new right.core (same_end insn operand result ∙ acts)
          ∙ sym (accesses_alike (in_text program) meaning.units left.core right.core meet.outside insn operand result acts meet.operands)
          ∙ sym (same_moved insn left.core acts))
          ∙ left_clear
    ]

    steps_alike : StepAlike (in_text program) insn new (reached left (step meaning program left)) (reached right (step meaning program right))
    steps_alike = elim (cases_Bool (ends_block insn)) [
      | inl ends ↦
          rw (
            control_step meaning program left insn meet.left_fetches ends,
            control_step meaning program right new meet.right_fetches (same_end insn operand result ∙ ends),
          )
          (subst (λ pc. StepAlike (in_text program) insn new
          (reached left (control program insn left.pc left.core)) (reached (at_pc pc right.core) (control program new pc right.core))) meet.pc
          (control_alike (in_text program) meaning.units program left.pc left.core right.core meet.left_mapped meet.right_mapped meet.outside
          insn operand result ends meet.operands left_clear))
      | inr acts ↦
          rw (
            action_step left insn meet.left_fetches acts,
            action_step right new meet.right_fetches (same_end insn operand result ∙ acts),
          )
          (subst (λ pc. StepAlike (in_text program) insn new
          (reached left (then_onward left.pc (act meaning.units insn left.core)))
          (reached (at_pc pc right.core) (then_onward pc (act meaning.units new right.core)))) meet.pc
          (onward_alike (in_text program) insn new left.core right.core left.pc (act meaning.units insn left.core) (act meaning.units new right.core)
          (acts_alike (in_text program) meaning.units left.core right.core meet.outside insn operand result acts meet.plain.0 meet.plain.1 meet.plain.2 meet.operands
          (subst (λ places. list_any (in_text program) places ≡ false) (same_moved insn left.core acts) left_clear))))
    ]

    go_on : GoOnAlike meaning program insn new left right
    go_on = record {
      alike = steps_alike;
      clear = touches new right meet.right_fetches ∙ find_none (in_text program) (moved new right.core) new_clear;
      left_keeps = λ q other. step_keeps left insn meet.left_fetches meet.plain.0 meet.plain.2 q other;
      right_keeps = λ p other. step_keeps right new meet.right_fetches (same_unit insn operand result ∙ meet.plain.0) (same_put insn operand result ∙ meet.plain.2) p other;
    }

pub go_on_alike : InstructionsGoOnAlike
go_on_alike meaning program old next left right meet =
    let other = meet.other in
    subst (λ insn. MeetAtInsn meaning program old insn left right → GoOnAlike meaning program old insn left right) (sym other.is)
    (λ here. go_on meaning program old other.operand other.result left right here) meet
