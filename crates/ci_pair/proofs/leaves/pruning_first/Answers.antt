use Rattle.std.proofs.Common.{rules, w64, SFits}
use Rattle.ci_cut.proofs.GainTests.{not_less_by_test}
use Rattle.ci_pair.specs.Pairs.{First}
use Rattle.ci_pair.specs.Prefixes.{choices}
use Rattle.ci_pair.proofs.FallLaws.{too_little_by, first_falls, over_pad}
use Rattle.ci_pair.proofs.leaves.pruning_first.Goals as goal

pub returns-then-is_right_first : goal.returns-then-is_right_first
returns-then-is_right_first c prefix delays represents next after =
    (tt, (c.is_right_first.ensures prefix delays represents next c.if-is_right_first.true).1)

pub returns-then-is_right_first-2 : goal.returns-then-is_right_first-2
returns-then-is_right_first-2 c prefix delays represents next after =
    (tt, (c.is_right_first-2.ensures prefix delays represents next c.if-is_right_first-2.true).1)

pub returns : goal.returns
returns c prefix delays represents next after =
    let graph = c.args.graph.now in
    let flows = represents.first.kept in
    let gain : SFits w64 c.args.best.now.gain = search rules in
    let here : SFits w64 c.bound_less-bound.result = search rules in
    let other = over_pad graph flows (choices First prefix) c.args.node next in (
      tt,
      too_little_by
          (first_falls graph flows prefix c.args.node next c.cost_with-cost.result other.0 other.1
          (c.cost_with-cost.ensures (choices First prefix) delays.first represents.first next))
          (c.bound_less-bound.ensures prefix delays represents) (not_less_by_test _ _ gain here c.if-bound-best.false) c.requires.measured.gain_is after,
    )
