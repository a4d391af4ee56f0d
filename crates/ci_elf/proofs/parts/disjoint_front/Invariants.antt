use Rattle.std.proofs.Common.{◌-◌}
use Rattle.ci_elf.proofs.PartLaws.{IsFrontBetween}
use Rattle.ci_elf.proofs.parts.disjoint_front.Given as goal

abbrev pub invariant-loop-low : goal.invariant-loop-low
invariant-loop-low l = IsFrontBetween l.parts l.low l.high

abbrev pub decreases-loop-low : goal.decreases-loop-low
decreases-loop-low l = l.high - l.low
