use Rattle.std.proofs.Common.{◌≡◌, ◌+◌, drop}
use Rattle.ci_unit.specs.Units.{place_in}
use Rattle.ci_unit.proofs.cuts.place_of.Given as goal

abbrev pub invariant-loop-place : goal.invariant-loop-place
invariant-loop-place l = place_in l.inputs l.source ≡ l.place + place_in (drop l.place l.inputs) l.source
