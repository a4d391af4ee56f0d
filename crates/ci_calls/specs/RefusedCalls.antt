-- For every reader: how a refused call ends, by its status.
use Rattle.std.specs.Prelude.{◌≡◌, ℕ, ◌⊎◌}
use Rattle.ci_io.specs.Outcomes.{SinkState}
use Rattle.ci_calls.specs.declared.refusals.Refusal.{Refusal}
use Rattle.ci_calls.specs.declared.refusals.Refusal.TheVariants.{NoMemory}
use Rattle.ci_calls.specs.Finishing.{IsPut}
use Rattle.ci_calls.specs.Refusals.{status_of, line_of}

-- The refusal's status, and its line was put; or memory ran out for the line, and then that is the refusal.
abbrev pub IsRefused : Refusal → ℕ → SinkState → SinkState → Type 0
IsRefused refusal status before after =
    ((status ≡ status_of refusal) × IsPut before after (line_of refusal))
    ⊎ ((status ≡ status_of NoMemory) × IsPut before after (line_of NoMemory))
