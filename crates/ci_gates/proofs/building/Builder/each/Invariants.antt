use Rattle.ci_gates.specs.private.Growing.{kind_value}
use Rattle.ci_gates.proofs.WordLaws.{IsPaired}
use Rattle.ci_gates.proofs.building.Builder.each.Given as goal

abbrev pub invariant-loop-k : goal.invariant-loop-k
invariant-loop-k l = IsPaired l.initial.self l.self (kind_value l.fn.kind) l.left l.right l.bits.items l.k
