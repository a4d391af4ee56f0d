use Rattle.std.proofs.Common.{◌≡◌, length, take}
use Rattle.ci_plan.specs.private.Names.{AreHeld}
use Rattle.ci_plan.proofs.plans.add_wires.Given as goal

abbrev pub invariant-loop-k : goal.invariant-loop-k
invariant-loop-k l = record {
  room : length l.found ≡ length l.fn.found;
  held : AreHeld l.fn.module (take l.k l.found) l.draft;
}
