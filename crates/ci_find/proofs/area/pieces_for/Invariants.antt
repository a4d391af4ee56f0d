-- There is a piece for each module so far.
use Rattle.ci_find.specs.private.Pieces.{ArePiecesFor}
use Rattle.ci_find.proofs.area.pieces_for.Given as goal

abbrev pub invariant-loop-number : goal.invariant-loop-number
invariant-loop-number l = ArePiecesFor l.modules l.takes l.number l.pieces.items
