use Rattle.std.proofs.Common.{◌≡◌, map, length, take}
use Rattle.toml.specs.View.{table_view}
use Rattle.ci_lat.specs.Faults.{setting}
use Rattle.ci_lat.proofs.document.put_settings.Given as goal

abbrev pub invariant-loop-i : goal.invariant-loop-i
invariant-loop-i l = (length l.numbers ≡ length l.keys) × (take l.i l.numbers ≡ map (setting (table_view l.document)) (take l.i l.keys))
