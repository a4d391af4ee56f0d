-- A counter that is raised.
use Rattle.std.proofs.Common.{◌≡◌, ℕ, arith}
use Rattle.std.specs.Result.{OnOk, OnErr, IsErrOf}
use Rattle.std.specs.Prelude.{Result, Ok, Err}
use Rattle.ci_io.specs.Counts.{raised}
use Rattle.ci_io.specs.Outcomes.{Rises}

-- a raised counter rose, or stands at its last value
pub Rises-raised : (before after : ℕ) → after ≡ raised before → Rises before after
Rises-raised before after is_raised = grind arith

-- what holds where a call failed holds where it failed with one error
pub OnErr-IsErrOf : {T E : Type 0} (result : Result T E) (error : E) (P : Type 0) → OnErr result P → IsErrOf result error → P
OnErr-IsErrOf (Ok value) error P holds failed = absurd (cc)
OnErr-IsErrOf (Err other) error P holds failed = holds

-- what always holds is what holds where a call succeeded
pub OnOk-always : {T E : Type 0} (result : Result T E) (P : Type 0) → P → OnOk result P
OnOk-always (Ok value) P holds = holds
OnOk-always (Err error) P holds = tt
