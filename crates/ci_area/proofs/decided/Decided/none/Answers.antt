use Rattle.std.proofs.Common.{refl}
use Rattle.ci_area.proofs.DecidedLaws.{represents_none}
use Rattle.ci_area.proofs.decided.Decided.none.Goals as goal

pub returns : goal.returns
returns c = represents_none c.args.pieces.now _ c.empty.ensures refl refl refl
