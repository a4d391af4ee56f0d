-- What comes of a step, and of several steps in a row.
use Rattle.std.specs.Prelude.{Bool, true, false, Option, Some, None}
use Rattle.ci_machine.specs.declared.ends.End.{End}
use Rattle.ci_machine.specs.declared.ends.End.TheVariants.{Access}

-- the next state, or the end
pub data Outcome (S : Type 0) : Type 0 where
  Next : S → Outcome S
  Ended : End → Outcome S

-- How far steps came: the last state, and the end if they met one.
pub record Reached (S : Type 0) : Type 0 where
  pub state : S
  pub end : Option End

-- how far one step comes: a step that ends changes nothing
abbrev pub reached : {S : Type 0} → S → Outcome S → Reached S
reached state (Next next) = record { state = next; end = None }
reached state (Ended end) = record { state = state; end = Some end }

abbrev pub from_end : {S : Type 0} → (S → Outcome S) → Reached S → Option End → Reached S
from_end step run None = reached run.state (step run.state)
from_end step run (Some end) = run

-- one step more, but none after an end
abbrev pub continued : {S : Type 0} → (S → Outcome S) → Reached S → Reached S
continued step run = from_end step run run.end

-- no step is made yet
abbrev pub at_start : {S : Type 0} → S → Reached S
at_start state = record { state = state; end = None }

-- an access that the memory refuses
abbrev pub is_access_fault : End → Bool
is_access_fault (Access address width) = true
is_access_fault end = false
