-- Runs one after the other.
use Rattle.std.proofs.Common.{◌≡◌, ℕ, zero, suc, ◌+◌, refl, ap, ◌∙◌, add-zero, add-suc, None}
use Rattle.ci_machine.specs.Outcomes.{Reached, from_end, continued}
use Rattle.ci_machine.specs.Programs.{Program, State}
use Rattle.ci_machine.specs.Steps.{Meaning, step}
use Rattle.ci_machine.specs.Runs.{after}
use Rattle.ci_machine.proofs.TestLaws.{by_end}

module _ (meaning : Meaning) (program : Program) where
  pub runs_join : (m n : ℕ) (state : State) → (after meaning program m state).end ≡ None
      → after meaning program (m + n) state ≡ after meaning program n (after meaning program m state).state
  runs_join m zero state on = rw add-zero (λ i. record { state = (after meaning program m state).state; end = on i })
  runs_join m (suc n) state on = rw add-suc (ap (continued (step meaning program)) (runs_join m n state on))

  over : (run : Reached State) → ¬ (run.end ≡ None) → continued (step meaning program) run ≡ run
  over run ended = by_end run.end (λ on. absurd (ended on)) (λ e is. ap (from_end (step meaning program) run) is)

  pub ends_stay : (m n : ℕ) (state : State) → ¬ ((after meaning program m state).end ≡ None)
      → after meaning program (m + n) state ≡ after meaning program m state
  ends_stay m zero state ended = rw add-zero refl
  ends_stay m (suc n) state ended =
      rw add-suc (ap (continued (step meaning program)) (ends_stay m n state ended) ∙ over (after meaning program m state) ended)
