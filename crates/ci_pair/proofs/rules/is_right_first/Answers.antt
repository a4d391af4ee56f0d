use Rattle.std.proofs.Common.{◌∷◌, ◌∙◌, rules, w64, SFits}
use Rattle.std.proofs.lemmas.Int.{to_z-of_z}
use Rattle.ci_pair.specs.Pairs.{First}
use Rattle.ci_pair.specs.Prefixes.{choices}
use Rattle.ci_pair.specs.PairSets.{given}
use Rattle.ci_pair.proofs.ClosedLaws.{closed_first}
use Rattle.ci_pair.proofs.FallLaws.{too_little_more, after_more, first_falls, over_pad}
use Rattle.ci_pair.proofs.rules.is_right_first.Goals as goal

pub returns-in-G : goal.returns-in-G
returns-in-G c prefix delays represents next right =
    let graph = c.args.graph.now in
    let flows = represents.first.kept in
    let fits : SFits w64 c.bound_less-bound.result = search rules in
    let other = over_pad graph flows (choices First prefix) c.args.node next in
    rw c.in-G.is (
      tt,
      too_little_more
          (first_falls graph flows prefix c.args.node next c.cost_with-cost.result other.0 other.1
          (c.cost_with-cost.ensures (choices First prefix) delays.first represents.first next))
          (to_z-of_z w64 c.bound_less-bound.result fits ∙ c.bound_less-bound.ensures prefix delays represents) (after_more graph prefix First (given c.args.best.now.pair))
          ((c.is_too_little.ensures prefix delays represents).0 right),
    )

pub returns-in-B : goal.returns-in-B
returns-in-B c prefix delays represents next right =
    closed_first c.args.graph.now c.args.limits.now (given c.args.best.now.pair) (First ∷ prefix) c.args.item
    (c.is_right_with.ensures (choices First prefix) delays.first represents.first next right)
