use Rattle.std.proofs.Common.{inl, inr, refl, sym, subst, rules, w64, SFits, arith, ◌≤ℤ◌, ◌<ℤ◌}
use Rattle.std.proofs.lemmas.Int.{ints, to_z-of_z}
use Rattle.std.specs.FinSet as set
use Rattle.ci_cut.specs.private.Reached.{IsReachedWith}
use Rattle.ci_cut.proofs.GainTests.{less_by_test, not_less_by_test}
use Rattle.ci_check.proofs.need.reached_with.Goals as goal

pub returns-then-gained-reached : goal.returns-then-gained-reached
returns-then-gained-reached c =
    let before : SFits w64 c.args.reached = search rules in
    let now : SFits w64 c.in-Some.gained = search rules in
    let more : c.args.reached <ℤ c.in-Some.gained = less_by_test _ _ before now c.if-gained-reached.true refl refl in
    subst (IsReachedWith c.args.graph.now c.args.limits.now (set.contains c.args.terms.now.taken) c.args.reached) (sym (to_z-of_z w64 _ now))
    (record {
      kept = omega (arith, ints);
      most = λ fits. subst (λ z. z ≤ℤ c.in-Some.gained) c.in-Some.ensures.1 (omega (arith, ints));
      found = inr (c.in-Some.ensures.0, sym c.in-Some.ensures.1);
    })

pub returns-else-gained-reached : goal.returns-else-gained-reached
returns-else-gained-reached c =
    let before : SFits w64 c.args.reached = search rules in
    let now : SFits w64 c.in-Some.gained = search rules in
    let less = not_less_by_test _ _ before now c.if-gained-reached.false in
    subst (IsReachedWith c.args.graph.now c.args.limits.now (set.contains c.args.terms.now.taken) c.args.reached) (sym (to_z-of_z w64 _ before))
    (record {
      kept = omega (arith, ints);
      most = λ fits. subst (λ z. z ≤ℤ c.args.reached) c.in-Some.ensures.1 less;
      found = inl refl;
    })
