use Rattle.ci_block.specs.private.Marks.{Adds}
use Rattle.ci_block.specs.private.Sources.{IsFromRanges}
use Rattle.ci_block.proofs.text.mark_from_text.Given as goal

abbrev pub invariant-loop-range : goal.invariant-loop-range
invariant-loop-range l = Adds l.initial.marks l.marks (IsFromRanges l.image l.range-index)
