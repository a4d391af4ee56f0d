-- For private contracts: where the wires of a module stand.
use Rattle.std.specs.Prelude.{ℕ, ◌≤◌, ◌<◌, List, length, Option, IfSome}
use Rattle.std.specs.List.{slice_index_or}
use Rattle.ci_verilog.specs.declared.expressions.Wire.{Wire}
use Rattle.ci_verilog.specs.Modules.{Module}
use Rattle.ci_plan.specs.declared.founds.Found.{Found}
use Rattle.ci_plan.specs.private.Drafts.{Draft, IsDraft, StandsFor}

-- the first wires of the module stand there, but for those that stand nowhere
pub record AreHeld (m : Module) (wires : List (Option Found)) (draft : Draft) : Type 0 where
  pub is_draft : IsDraft draft
  pub few : length wires ≤ length m.wires.list
  pub stand : (k : ℕ) → k < length wires → (d : Option Found) (e : Wire) → IfSome (slice_index_or wires k d) (λ found.
      StandsFor m draft found.place found.width (λ names. names (slice_index_or m.wires.list k e).name))
