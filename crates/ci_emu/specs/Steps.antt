-- What one step comes to.
use Rattle.std.specs.Prelude.{◌≡◌, ℕ, ◌≤◌, Bool, true, false, Option, Some, None}
use Rattle.ci_machine.specs.declared.ends.End.{End}
use Rattle.ci_machine.specs.Outcomes as machine
use Rattle.ci_machine.specs.Programs.{Program, State}
use Rattle.ci_machine.specs.Steps.{Meaning, IsPlain, step}
use Rattle.ci_machine.specs.Runs.{after}
use Rattle.ci_emu.specs.declared.steps.Outcome.{Outcome}
use Rattle.ci_emu.specs.declared.steps.Outcome.TheVariants.{Next, Ended}

-- the end that it comes to, if any
abbrev pub end_of : Outcome → Option End
end_of Next = None
end_of (Ended end) = Some end

-- the run goes on, or else ends so
abbrev pub next_or : Bool → End → Outcome
next_or true end = Next
next_or false end = Ended end

-- What is due leads from one state to the other, and comes to this: a step that ends changes nothing.
abbrev pub LeadsTo : State → machine.Outcome State → State → Outcome → Type 0
LeadsTo before due after outcome = machine.reached before due ≡ record { state = after; end = end_of outcome }

-- A step of a machine of these meanings leads from one state to the other, and comes to this.
abbrev pub IsStep : (Meaning → Type 0) → Program → State → State → Outcome → Type 0
IsStep Means program before after outcome =
    (meaning : Meaning) → Means meaning → LeadsTo before (step meaning program before) after outcome

-- so does one of a plain machine
abbrev pub IsPlainStep : Program → State → State → Outcome → Type 0
IsPlainStep = IsStep IsPlain

-- some of n steps of a machine of these meanings lead from one state to the other
pub record IsReached (Means : Meaning → Type 0) (program : Program) (before : State) (n : ℕ) (reached : State)
    : Type 0 where
  pub steps : ℕ
  pub within : steps ≤ n
  pub there : (meaning : Meaning) → Means meaning → reached ≡ (after meaning program steps before).state
