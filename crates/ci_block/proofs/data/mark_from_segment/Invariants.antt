use Rattle.ci_block.specs.private.Loading.{IsFromDataWords}
use Rattle.ci_block.specs.private.Marks.{Adds}
use Rattle.ci_block.proofs.data.mark_from_segment.Given as goal

abbrev pub invariant-loop-word : goal.invariant-loop-word
invariant-loop-word l = Adds l.initial.marks l.marks (IsFromDataWords l.image l.first l.word)
