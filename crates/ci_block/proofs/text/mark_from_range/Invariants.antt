use Rattle.ci_block.specs.private.Marks.{Adds}
use Rattle.ci_block.specs.private.Sources.{IsFromWords}
use Rattle.ci_block.proofs.text.mark_from_range.Given as goal

abbrev pub invariant-loop-word : goal.invariant-loop-word
invariant-loop-word l = Adds l.initial.marks l.marks (IsFromWords l.image l.range.start l.word)
