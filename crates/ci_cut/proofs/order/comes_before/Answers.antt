use Rattle.std.proofs.Common.{◌≤◌, IsTrue, ℕ, refl, sym, ap, ◌∙◌, arith, true≢false, ltb-true, lt-ltb}
use Rattle.std.specs.Ordering.{nat_cmp}
use Rattle.std.specs.FinSet as set
use Rattle.ci_cut.proofs.WayBack.{outside_parts, outside_from}
use Rattle.ci_cut.proofs.SetOrder.{none_before, too_low, before_if_below, below_if_before}
use Rattle.ci_cut.proofs.order.comes_before.Goals as goal
use Rattle.ci_cut.proofs.order.comes_before.Goals.{In-Some}

pub returns-in_default : goal.returns-in_default
returns-in_default c = (
  λ e. cc,
  λ before. absurd (none_before (set.contains c.args.first.now) (set.contains c.args.second.now) c.args.from
      (λ k in_ out. true≢false (sym (outside_from _ _ _ c.minus.ensures.value k in_ out)
      ∙ ap (λ s. set.contains s k) c.in_default.ensures ∙ set.contains-empty nat_cmp k)) before),
)

-- the greatest number that only the first set has
record Greatest (c : In-Some) : Type 0 where
  in_ : IsTrue (set.contains c.args.first.now c.in-Some.place)
  out : ¬ IsTrue (set.contains c.args.second.now c.in-Some.place)
  most : (k : ℕ) → IsTrue (set.contains c.args.first.now k) → ¬ IsTrue (set.contains c.args.second.now k) → k ≤ c.in-Some.place

greatest_of : (c : In-Some) → Greatest c
greatest_of c =
    let parts = outside_parts _ _ _ c.minus.ensures.value c.in-Some.place c.in-Some.ensures.0 in
    record {
      in_ = parts.0;
      out = parts.1;
      most = λ k in_ out. c.in-Some.ensures.1 k (outside_from _ _ _ c.minus.ensures.value k in_ out);
    }

pub returns-then-from : goal.returns-then-from
returns-then-from c =
    let top = greatest_of (goal.at.returns-then-from c).In-Some in (
      λ e. cc,
      λ before. absurd (too_low (set.contains c.args.first.now) (set.contains c.args.second.now) c.args.from
          c.in-Some.place top.in_ top.out top.most (omega (arith, c.if-from.true, c.from.ensures)) before),
    )

pub returns-in-Some-greatest : goal.returns-in-Some-greatest
returns-in-Some-greatest c =
    let top = greatest_of (goal.at.returns-in-Some-greatest c).In-Some in
    let other = outside_parts _ _ _ c.minus-2.ensures.value c.in-Some-greatest.other c.in-Some-greatest.ensures.0 in
    let first = set.contains c.args.first.now in
    let second = set.contains c.args.second.now in (
      λ e. before_if_below first second c.args.from c.in-Some.place top.in_ top.out top.most (omega (arith, c.if-from.false, c.from.ensures))
          (λ k in_ out. omega (arith, ltb-true _ _ e, c.in-Some-greatest.ensures.1 k (outside_from _ _ _ c.minus-2.ensures.value k in_ out))),
      λ before. lt-ltb _ _ (below_if_before first second c.args.from c.in-Some.place top.in_ top.out top.most c.in-Some-greatest.other other.0 other.1 before),
    )

pub returns-in-None : goal.returns-in-None
returns-in-None c =
    let top = greatest_of (goal.at.returns-in-None c).In-Some in (
      λ _. before_if_below (set.contains c.args.first.now) (set.contains c.args.second.now) c.args.from c.in-Some.place top.in_ top.out top.most
          (omega (arith, c.if-from.false, c.from.ensures))
          (λ k in_ out. absurd (true≢false (sym (outside_from _ _ _ c.minus-2.ensures.value k in_ out)
          ∙ ap (λ s. set.contains s k) c.in-None.ensures ∙ set.contains-empty nat_cmp k))),
      λ _. refl,
    )
