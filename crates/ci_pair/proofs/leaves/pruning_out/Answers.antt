use Rattle.std.proofs.Common.{rules, w64, SFits}
use Rattle.ci_cut.proofs.GainTests.{not_less_by_test}
use Rattle.ci_pair.proofs.FallLaws.{too_little_by, out_falls}
use Rattle.ci_pair.proofs.leaves.pruning_out.Goals as goal

pub returns : goal.returns
returns c prefix delays represents next after =
    let gain : SFits w64 c.args.best.now.gain = search rules in
    let here : SFits w64 c.bound_less-bound.result = search rules in (
      tt,
      too_little_by (out_falls c.args.graph.now represents.first.kept prefix c.args.node next c.cost_without-cost.result c.cost_without-cost.ensures)
          (c.bound_less-bound.ensures prefix delays represents) (not_less_by_test _ _ gain here c.if-bound-best.false) c.requires.measured.gain_is after,
    )
