-- For readers of profiles and laws: what happens over the steps of a run, where it met an end, enters and jumps, and
-- whether it is tame.
use Rattle.std.specs.Prelude.{◌≡◌, ℕ, ◌<◌, ◌≤◌, Bool, ◌==◌, ◌&&◌, true, Option, Some, None}
use Rattle.ci_word.specs.Numbers.{count_below}
use Rattle.ci_isa.specs.declared.instruction.Insn.{Insn}
use Rattle.ci_isa.specs.declared.instruction.Insn.TheVariants.{Jalr}
use Rattle.ci_machine.specs.declared.ends.End.{End}
use Rattle.ci_machine.specs.Outcomes.{Outcome, Next, Ended}
use Rattle.ci_machine.specs.Programs.{Program, State, in_text}
use Rattle.ci_machine.specs.Runs.{after, before_step, is_made}
use Rattle.ci_machine.specs.Steps.{Meaning, fetched, step}
use Rattle.ci_machine.specs.Touches.{LeavesTextFor}

module _ (meaning : Meaning) (program : Program) where
  -- The run met this end at one of its first n steps, and stays as it was there.
  pub record MetEnd (state : State) (n : ℕ) (end : End) : Type 0 where
    pub place : ℕ
    pub some : 0 < place
    pub within : place ≤ n
    pub there : (after meaning program place state).end ≡ Some end
    pub stays : after meaning program n state ≡ after meaning program place state
    pub on : (d : ℕ) → d < place → (after meaning program d state).end ≡ None

  -- how many of the n steps that are made begin at the address
  abbrev pub entries : ℕ → State → ℕ → ℕ
  entries n state address = count_below n (λ i. is_made meaning program state i
      && (before_step meaning program state i).pc == address)

  -- where a JALR led that the step from this state makes, if it makes one and that does not end
  abbrev pub jalr_target : State → Option ℕ
  jalr_target state =
      elim (fetched meaning program state) [ None ↦ None | Some insn ↦ target insn (step meaning program state) ]
    where
      led : Outcome State → Option ℕ
      led (Next next) = Some next.pc
      led (Ended end) = None

      target : Insn → Outcome State → Option ℕ
      target (Jalr rd rs1 offset) outcome = led outcome
      target insn outcome = None

  -- The run is tame for n steps: none touches the text, and each JALR that leads to text leads to a listed address.
  -- No more is asked of a step at the last word of a range of text: its next address is listed, or is no text.
  pub record IsTame (is_listed : ℕ → Bool) (n : ℕ) (state : State) : Type 0 where
    pub leaves_text : LeavesTextFor meaning program n state
    pub listed : (i target : ℕ) → i < n → is_made meaning program state i ≡ true
        → jalr_target (before_step meaning program state i) ≡ Some target
        → in_text program target ≡ true → is_listed target ≡ true
