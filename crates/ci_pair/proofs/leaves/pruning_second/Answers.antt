use Rattle.std.proofs.Common.{sym, ◌∙◌, rules, w64, SFits}
use Rattle.std.proofs.lemmas.Bool.Decides.{not_from_Decides}
use Rattle.ci_cut.proofs.GainTests.{not_less_by_test}
use Rattle.ci_pair.specs.Pairs.{First, Second}
use Rattle.ci_pair.specs.Prefixes.{choices}
use Rattle.ci_pair.proofs.PrefixLaws.{same_next}
use Rattle.ci_pair.proofs.ClosedLaws.{mirrored_at_once, not_mirrored_second}
use Rattle.ci_pair.proofs.FallLaws.{too_little_by, second_falls, over_pad}
use Rattle.ci_pair.proofs.leaves.pruning_second.Goals as goal

pub returns-then-is_empty : goal.returns-then-is_empty
returns-then-is_empty c prefix delays represents next unmirrored after = (
  tt,
  mirrored_at_once c.args.graph.now prefix c.args.node next
      (λ k in_. c.is_empty.ensures.0 c.if-is_empty.true k (represents.first.is_taken k ∙ in_)),
)

pub returns-then-is_right_second : goal.returns-then-is_right_second
returns-then-is_right_second c prefix delays represents next unmirrored after =
    (tt, (c.is_right_second.ensures prefix delays represents next c.if-is_right_second.true).1)

pub returns-then-is_right_second-2 : goal.returns-then-is_right_second-2
returns-then-is_right_second-2 c prefix delays represents next unmirrored after =
    (tt, (c.is_right_second-2.ensures prefix delays represents next c.if-is_right_second-2.true).1)

pub returns-then-bound-best : goal.returns-then-bound-best
returns-then-bound-best c prefix delays represents next unmirrored after =
    not_mirrored_second c.args.graph.now prefix unmirrored
    (λ none. not_from_Decides _ c.is_empty.ensures c.if-is_empty.false (λ k in_. none k (sym (represents.first.is_taken k) ∙ in_)))

pub returns : goal.returns
returns c prefix delays represents next unmirrored after =
    let graph = c.args.graph.now in
    let flows = represents.first.kept in
    let gain : SFits w64 c.args.best.now.gain = search rules in
    let here : SFits w64 c.bound_less-bound.result = search rules in
    let other = over_pad graph flows (choices First prefix) c.args.node next in (
      tt,
      too_little_by
          (second_falls graph flows prefix c.args.node next c.cost_with-cost.result other.0 other.1
          (c.cost_with-cost.ensures (choices Second prefix) delays.second represents.second (same_next graph First Second prefix c.args.node next)))
          (c.bound_less-bound.ensures prefix delays represents) (not_less_by_test _ _ gain here c.if-bound-best.false) c.requires.measured.gain_is after,
    )

pub cost_with-cost-requires-clause-next : goal.cost_with-cost-requires-clause-next
cost_with-cost-requires-clause-next c =
    let some = c.requires.next in
    (choices Second some.0, some.1.second, some.2.second, same_next c.args.graph.now First Second some.0 c.args.node some.3)
