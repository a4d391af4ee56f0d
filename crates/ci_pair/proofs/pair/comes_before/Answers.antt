use Rattle.std.proofs.Common.{◌≡◌, ℕ, ◌≤◌, ◌<◌, sym, ap, ◌∙◌, arith, true≢false, ltb-true, lt-ltb}
use Rattle.std.specs.Ordering.{nat_cmp}
use Rattle.std.specs.FinSet as set
use Rattle.ci_cut.proofs.SetLaws.{fewer_left}
use Rattle.ci_pair.specs.Pairs.{label, rank}
use Rattle.ci_pair.specs.PairSets.{sets}
use Rattle.ci_pair.proofs.OrderLaws.{none_before, before_here, here_before, same_but}
use Rattle.ci_pair.proofs.pair.comes_before.Goals as goal
use Rattle.ci_pair.proofs.pair.comes_before.Goals.{In-Some}

pub loop-place-init : goal.loop-place-init
loop-place-init c = c.differences-rest.ensures

-- above the greatest number that is left the labels are the same
same_above : (c : In-Some) (j : ℕ) → c.in-Some.place < j → label (sets c.args.first.now) j ≡ label (sets c.args.second.now) j
same_above c j above = c.loop-place.invariant j (λ in_. omega (arith, c.in-Some.ensures.1 j in_))

pub returns-then-from : goal.returns-then-from
returns-then-from c = (
  λ e. absurd (true≢false (sym e)),
  λ before. absurd (none_before (sets c.args.first.now) (sets c.args.second.now) c.args.from
      (λ j from. same_above (goal.at.returns-then-from c).In-Some j (omega (arith, from, c.if-from.true, c.from.ensures))) before),
)

pub returns-then-here-there : goal.returns-then-here-there
returns-then-here-there c =
    let p = sets c.args.first.now in
    let q = sets c.args.second.now in
    let k = c.in-Some.place in
    let same : (j : ℕ) → k < j → label p j ≡ label q j = same_above (goal.at.returns-then-here-there c).In-Some in
    let down : c.args.from ≤ k = omega (arith, c.if-from.false, c.from.ensures) in (
      λ e. before_here p q k same c.args.from down (omega (arith, ltb-true _ _ e, c.rank-here.ensures, c.rank-there.ensures)),
      λ before. lt-ltb _ _ (omega (
        arith,
        here_before p q k same c.args.from down (λ (e : rank (label p k) ≡ rank (label q k)).
            c.if-here-there.true (c.rank-here.ensures ∙ e ∙ sym c.rank-there.ensures)) before,
        c.rank-here.ensures,
        c.rank-there.ensures,
      )),
    )

pub loop-place-preserved : goal.loop-place-preserved
loop-place-preserved c =
    rw c.remove.ensures
    (same_but (sets c.args.first.now) (sets c.args.second.now) c.loop-place.rest c.in-Some.place c.loop-place.invariant
    (sym c.rank-here.ensures ∙ c.if-here-there.false ∙ c.rank-there.ensures))

pub loop-place-smaller : goal.loop-place-smaller
loop-place-smaller c = rw c.remove.ensures (fewer_left c.loop-place.rest c.in-Some.place c.in-Some.ensures.0)

pub returns : goal.returns
returns c = (
  λ e. absurd (true≢false (sym e)),
  λ before. absurd (none_before (sets c.args.first.now) (sets c.args.second.now) c.args.from
      (λ j _. c.loop-place.invariant j (λ in_. true≢false
      (sym in_ ∙ ap (λ s. set.contains s j) c.in_default.ensures ∙ set.contains-empty nat_cmp j))) before),
)
