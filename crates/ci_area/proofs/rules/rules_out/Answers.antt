use Rattle.ci_area.proofs.PieceSums.{decided_fits}
use Rattle.ci_area.proofs.rules.rules_out.Goals as goal

pub gains_too_little-requires-clause-few : goal.gains_too_little-requires-clause-few
gains_too_little-requires-clause-few c =
    let some = c.requires.represents in
    decided_fits c.args.pieces.now some.0 c.args.decided.now some.1 c.args.num c.args.den c.beyond_below-beyond.result
    c.beyond_below-beyond.ensures c.requires.pieces (c.is_rate.ensures.0 c.if-not-is_rate.false).2
