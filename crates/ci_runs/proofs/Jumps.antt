-- Where a JALR leads, and that instructions which differ in registers alone lead alike.
use Rattle.std.specs.Prelude.{◌≡◌, ℕ, suc, ◌<◌, Option, Some, None}
use Rattle.std.proofs.Common.{refl, sym, ap, ◌∙◌, subst, arith, inl, inr}
use Rattle.std.proofs.lemmas.Bool.{cases_lt}
use Rattle.ci_isa.specs.declared.instruction.Insn.{Insn}
use Rattle.ci_isa.specs.declared.instruction.Insn.TheVariants.{Alu, Jalr}
use Rattle.ci_machine.specs.Outcomes.{Ended, Next, Outcome, reached}
use Rattle.ci_machine.specs.Programs.{Program, State}
use Rattle.ci_machine.specs.RunEvents.{jalr_target}
use Rattle.ci_machine.specs.Steps.{Meaning, fetched, step, stepped}
use Rattle.ci_rename.specs.OtherRegisters.{HasOtherRegisters, with_operands, with_result}
use Rattle.ci_runs.specs.RunsInStep.{JumpAlike}

-- where the instruction leads by this outcome, if it is a JALR
abbrev jumped : Insn → Outcome State → Option ℕ
jumped (Alu op rd rs1 rs2) outcome = None
jumped (Jalr rd rs1 offset) outcome = elim outcome as (λ _. Option ℕ) [ Next next ↦ Some next.pc | Ended end ↦ None ]
jumped insn outcome = None

module _ (meaning : Meaning) (program : Program) (state : State) where
  jump_is : (insn : Insn) → fetched meaning program state ≡ Some insn
      → jalr_target meaning program state ≡ jumped insn (step meaning program state)
  jump_is (Jalr rd rs1 offset) found =
      rw (jalr_target, found) (ap (λ (f : Option Insn). jumped (Jalr rd rs1 offset) (stepped meaning.units program state f)) found)
  jump_is insn found = rw (jalr_target, found) refl

  pub no_jump : fetched meaning program state ≡ None → jalr_target meaning program state ≡ None
  no_jump none = rw (jalr_target, none) refl

-- with other registers it leads alike
jumped_alike : (insn : Insn) (operand : ℕ → ℕ) (result : ℕ) (before after : State) (left right : Outcome State)
    → (reached before left).end ≡ (reached after right).end
    → ((reached before left).end ≡ None → (reached before left).state.pc ≡ (reached after right).state.pc)
    → jumped (with_result result (with_operands operand insn)) right ≡ jumped insn left
jumped_alike (Jalr rd rs1 offset) operand result before after (Next one) (Next other) same pc = ap Some (sym (pc refl))
jumped_alike (Jalr rd rs1 offset) operand result before after (Next one) (Ended end) same pc = cc
jumped_alike (Jalr rd rs1 offset) operand result before after (Ended end) (Next other) same pc = cc
jumped_alike (Jalr rd rs1 offset) operand result before after (Ended end) (Ended also) same pc = refl
jumped_alike insn operand result before after left right same pc = refl

pub same_jump : (meaning : Meaning) (program : Program) (old new : Insn) (left right : State) → HasOtherRegisters old new
    → fetched meaning program left ≡ Some old → fetched meaning program right ≡ Some new
    → (reached left (step meaning program left)).end ≡ (reached right (step meaning program right)).end
    → ((reached left (step meaning program left)).end ≡ None
    → (reached left (step meaning program left)).state.pc ≡ (reached right (step meaning program right)).state.pc)
    → jalr_target meaning program right ≡ jalr_target meaning program left
same_jump meaning program old new left right other found there same pc =
    jump_is meaning program right new there
    ∙ ap (λ insn. jumped insn (step meaning program right)) other.is
    ∙ jumped_alike old other.operand other.result left right (step meaning program left) (step meaning program right) same pc
    ∙ sym (jump_is meaning program left old found)

-- one step more jumps alike
pub jumping_one_more : (meaning : Meaning) (program : Program) (n : ℕ) (old new : State)
    → ((i : ℕ) → i < n → JumpAlike meaning program old new i)
    → JumpAlike meaning program old new n → (i : ℕ) → i < suc n → JumpAlike meaning program old new i
jumping_one_more meaning program n old new before last i below = elim (cases_lt i n) [
  | inl earlier ↦ before i earlier
  | inr late ↦ let here : i ≡ n = omega arith in subst (JumpAlike meaning program old new) (sym here) last
]
