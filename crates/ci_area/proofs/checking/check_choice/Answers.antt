use Rattle.std.proofs.Common.{◌≡◌, ℕ, [], append-nil, refl, inr, sym, ◌∙◌, arith, subst}
use Rattle.std.proofs.lemmas.Result.{err_from_is_err_and}
use Rattle.std.specs.FinSet as set
use Rattle.std.specs.Ordering.{nat_cmp}
use Rattle.std.specs.List.{AllByRecursion}
use Rattle.ci_cut.specs.FirstWrong.{IsFirstWrongIn}
use Rattle.ci_cut.proofs.FirstWrongLaws.{not_all}
use Rattle.ci_area.specs.AreaRules.{stations, reason_at, IsRightAt, IsAccepted}
use Rattle.ci_area.specs.AreaTrees.{IsTree}
use Rattle.ci_area.specs.Pieces.{IsWithin}
use Rattle.ci_area.proofs.AreaLaws.{accepted_is_best}
use Rattle.ci_area.proofs.checking.check_choice.Goals as goal

-- the first wrong item of the whole log
wrong_of : (c : goal.After-from_residual) (tree : IsTree c.args.log.now)
    → IsFirstWrongIn (IsRightAt c.args.pieces.now c.args.limit (set.contains c.args.best.now)) reason_at
    (stations tree []) c.in_err-check_tree.field-0.0.item c.in_err-check_tree.field-0.0.reason
wrong_of c tree =
    let judged = c.in_err-check_tree.ensures [] c.args.log.now [] tree c.none-none.ensures
    (c.items.ensures.items ∙ sym (append-nil c.args.log.now)) in
    let number : judged.0 ≡ c.in_err-check_tree.field-0.0.item = omega (arith, judged.2) in
    subst (λ (best : set.FinSet nat_cmp). IsFirstWrongIn (IsRightAt c.args.pieces.now c.args.limit (set.contains best)) reason_at
    (stations tree []) c.in_err-check_tree.field-0.0.item c.in_err-check_tree.field-0.0.reason)
    c.in-Some.ensures.0
    (subst (λ (n : ℕ). IsFirstWrongIn (IsRightAt c.args.pieces.now c.args.limit (set.contains c.in-Some.best.set)) reason_at
    (stations tree []) n c.in_err-check_tree.field-0.0.reason) number judged.1)

pub returns-in_err-check_tree-clause-accepted : goal.returns-in_err-check_tree-clause-accepted
returns-in_err-check_tree-clause-accepted c =
    let p = err_from_is_err_and c.from_residual.result c.from_residual.ensures.1 in (
      rw p.1 (λ e. absurd (cc)),
      λ accepted. absurd (not_all (IsRightAt c.args.pieces.now c.args.limit (set.contains c.args.best.now)) reason_at (stations accepted.tree []) _ _
          (wrong_of c accepted.tree) accepted.right),
    )

pub returns-in_err-check_tree-clause-wrong : goal.returns-in_err-check_tree-clause-wrong
returns-in_err-check_tree-clause-wrong c =
    let p = err_from_is_err_and c.from_residual.result c.from_residual.ensures.1 in
    rw (p.1, p.2)
    (inr (
      subst (λ (best : set.FinSet nat_cmp). IsWithin c.args.pieces.now c.args.limit (set.contains best)) c.in-Some.ensures.0 c.in-Some.ensures.1.good,
      (c.items.ensures.log.is_tree, wrong_of c c.items.ensures.log.is_tree),
    ))

accepted_of : (c : goal.In_ok-check_tree) → IsAccepted c.args.pieces.now c.args.limit (set.contains c.args.best.now) c.args.log.now
accepted_of c =
    let tree = c.items.ensures.log.is_tree in
    let judged = c.in_ok-check_tree.ensures [] c.args.log.now [] tree c.none-none.ensures
    (c.items.ensures.items ∙ sym (append-nil c.args.log.now)) in
    record {
      good = subst (λ (best : set.FinSet nat_cmp). IsWithin c.args.pieces.now c.args.limit (set.contains best)) c.in-Some.ensures.0 c.in-Some.ensures.1.good;
      tree = tree;
      right = subst (λ (best : set.FinSet nat_cmp). AllByRecursion (IsRightAt c.args.pieces.now c.args.limit (set.contains best)) (stations tree []))
          c.in-Some.ensures.0 judged.0;
    }

pub returns-clause-accepted : goal.returns-clause-accepted
returns-clause-accepted c = (λ _. accepted_of c, λ _. refl)

pub returns-clause-best : goal.returns-clause-best
returns-clause-best c = accepted_is_best c.args.pieces.now c.args.limit (set.contains c.args.best.now) c.args.log.now (accepted_of c)
