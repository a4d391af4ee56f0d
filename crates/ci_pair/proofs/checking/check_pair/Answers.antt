use Rattle.std.proofs.Common.{◌≡◌, ℕ, [], append-nil, refl, inr, sym, ap, ◌∙◌, arith, subst}
use Rattle.std.specs.Prelude.{MatchOption, Option, Some, None}
use Rattle.std.specs.List.{AllByRecursion}
use Rattle.std.proofs.lemmas.Result.{err_from_is_err_and}
use Rattle.ci_cut.specs.declared.graph.Limits.{Limits}
use Rattle.ci_cut.specs.FlowGraph.{FlowGraph}
use Rattle.ci_pair.specs.declared.pair.Pair.{Pair}
use Rattle.ci_pair.specs.Pairs.{IsBestPair, HasNoPair}
use Rattle.ci_pair.specs.Trees.{IsTree}
use Rattle.ci_pair.specs.PairSets.{sets, given}
use Rattle.ci_pair.specs.Rules.{Given, IsGood, stations, reason_at, IsRightAt, IsAccepted, IsFirstWrongIn}
use Rattle.ci_pair.proofs.Acceptance.{accepted_is_best}
use Rattle.ci_cut.proofs.FirstWrongLaws.{not_all}
use Rattle.ci_pair.proofs.checking.check_pair.Goals as goal

pub check_tree-requires-clause-represents : goal.check_tree-requires-clause-represents
check_tree-requires-clause-represents c = ([], c.none-none.ensures _)

-- the first wrong item of the whole log
wrong_of : (c : goal.After-from_residual) (tree : IsTree c.args.log.now)
    → IsFirstWrongIn c.args.graph.now c.args.limits.now (given c.args.best)
    (stations tree []) c.in_err-check_tree.field-0.0.item c.in_err-check_tree.field-0.0.reason
wrong_of c tree =
    let judged = c.in_err-check_tree.ensures.judged [] c.args.log.now [] tree (c.none-none.ensures _)
    (c.items.ensures.items ∙ sym (append-nil c.args.log.now)) in
    let number : judged.0 ≡ c.in_err-check_tree.field-0.0.item = omega (arith, judged.2) in
    subst (λ (best : Given). IsFirstWrongIn c.args.graph.now c.args.limits.now best
    (stations tree []) c.in_err-check_tree.field-0.0.item c.in_err-check_tree.field-0.0.reason)
    (ap given c.in-Some.ensures.0)
    (subst (λ (n : ℕ). IsFirstWrongIn c.args.graph.now c.args.limits.now (given c.in-Some.best.pair)
    (stations tree []) n c.in_err-check_tree.field-0.0.reason) number judged.1)

pub returns-in_err-check_tree-clause-accepted : goal.returns-in_err-check_tree-clause-accepted
returns-in_err-check_tree-clause-accepted c =
    let p = err_from_is_err_and c.from_residual.result c.from_residual.ensures.1 in (
      rw p.1 (λ e. absurd (cc)),
      λ accepted. absurd (not_all (IsRightAt c.args.graph.now c.args.limits.now (given c.args.best)) reason_at (stations accepted.tree []) _ _ (wrong_of c accepted.tree) accepted.right),
    )

pub returns-in_err-check_tree-clause-wrong : goal.returns-in_err-check_tree-clause-wrong
returns-in_err-check_tree-clause-wrong c =
    let p = err_from_is_err_and c.from_residual.result c.from_residual.ensures.1 in
    rw (p.1, p.2)
    (inr (
      subst (IsGood c.args.graph.now c.args.limits.now) (ap given c.in-Some.ensures.0) c.in-Some.ensures.1.good,
      (c.items.ensures.log.is_tree, wrong_of c c.items.ensures.log.is_tree),
    ))

accepted_of : (c : goal.In_ok-check_tree) → IsAccepted c.args.graph.now c.args.limits.now (given c.args.best) c.args.log.now
accepted_of c =
    let tree = c.items.ensures.log.is_tree in
    let judged = c.in_ok-check_tree.ensures.judged [] c.args.log.now [] tree (c.none-none.ensures _)
    (c.items.ensures.items ∙ sym (append-nil c.args.log.now)) in
    record {
      good = subst (IsGood c.args.graph.now c.args.limits.now) (ap given c.in-Some.ensures.0) c.in-Some.ensures.1.good;
      tree = tree;
      right = subst (λ (best : Given). AllByRecursion (IsRightAt c.args.graph.now c.args.limits.now best) (stations tree [])) (ap given c.in-Some.ensures.0) judged.0;
    }

pub returns-clause-accepted : goal.returns-clause-accepted
returns-clause-accepted c = (λ _. accepted_of c, λ _. refl)

as_pairs : (graph : FlowGraph) (limits : Limits) (best : Option Pair) → MatchOption (given best) (HasNoPair graph limits) (IsBestPair graph limits)
    → MatchOption best (HasNoPair graph limits) (λ pair. IsBestPair graph limits (sets pair))
as_pairs graph limits None is = is
as_pairs graph limits (Some pair) is = is

pub returns-clause-best : goal.returns-clause-best
returns-clause-best c = as_pairs c.args.graph.now c.args.limits.now c.args.best
    (accepted_is_best c.args.graph.now (c.none-none.ensures record { first = []; second = [] }).first.kept c.args.limits.now (given c.args.best) c.args.log.now (accepted_of c))
