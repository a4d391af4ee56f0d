use Rattle.std.proofs.Common.{◌∷◌, ◌∙◌, rules, w64, SFits}
use Rattle.std.proofs.lemmas.Int.{to_z-of_z}
use Rattle.ci_pair.specs.Pairs.{First, Second}
use Rattle.ci_pair.specs.Prefixes.{choices}
use Rattle.ci_pair.specs.PairSets.{given}
use Rattle.ci_pair.proofs.PrefixLaws.{same_next}
use Rattle.ci_pair.proofs.ClosedLaws.{closed_second, mirrored_at_once}
use Rattle.ci_pair.proofs.FallLaws.{too_little_more, after_more, second_falls, over_pad}
use Rattle.ci_pair.proofs.rules.is_right_second.Goals as goal

pub returns-in-M : goal.returns-in-M
returns-in-M c prefix delays represents next none =
    rw c.in-M.is (
      tt,
      mirrored_at_once c.args.graph.now prefix c.args.node next
          (λ k in_. c.is_empty.ensures.0 none k (represents.first.is_taken k ∙ in_)),
    )

pub cost_with-cost-requires-clause-next : goal.cost_with-cost-requires-clause-next
cost_with-cost-requires-clause-next c =
    let some = c.requires.next in
    (choices Second some.0, some.1.second, some.2.second, same_next c.args.graph.now First Second some.0 c.args.node some.3)

pub returns-in-G : goal.returns-in-G
returns-in-G c prefix delays represents next right =
    let graph = c.args.graph.now in
    let flows = represents.first.kept in
    let fits : SFits w64 c.bound_less-bound.result = search rules in
    let other = over_pad graph flows (choices First prefix) c.args.node next in
    rw c.in-G.is (
      tt,
      too_little_more
          (second_falls graph flows prefix c.args.node next c.cost_with-cost.result other.0 other.1
          (c.cost_with-cost.ensures (choices Second prefix) delays.second represents.second (same_next graph First Second prefix c.args.node next)))
          (to_z-of_z w64 c.bound_less-bound.result fits ∙ c.bound_less-bound.ensures prefix delays represents) (after_more graph prefix Second (given c.args.best.now.pair))
          ((c.is_too_little.ensures prefix delays represents).0 right),
    )

pub returns-in-B : goal.returns-in-B
returns-in-B c prefix delays represents next right =
    closed_second c.args.graph.now c.args.limits.now (given c.args.best.now.pair) (Second ∷ prefix) c.args.item
    (c.is_right_with.ensures (choices Second prefix) delays.second represents.second
    (same_next c.args.graph.now First Second prefix c.args.node next) right)
