use Rattle.std.proofs.Common.{◌≡◌, ℤ, inl, inr, arith, rules, w64, SFits, ◌≤ℤ◌, ◌<ℤ◌, ◌⊎◌}
use Rattle.std.proofs.lemmas.Int.{ints}
use Rattle.std.proofs.lemmas.Bool.Decides.{not_from_Decides}
use Rattle.ci_cut.proofs.GainTests.{less_by_test, not_less_by_test}
use Rattle.ci_pair.specs.declared.log.PairItem.TheVariants.{B, O, C, I, X, M, G, F}
use Rattle.ci_pair.proofs.FallLaws.{too_little}
use Rattle.ci_pair.proofs.leaves.pruning_left.Goals as goal

pub returns-then-is_right : goal.returns-then-is_right
returns-then-is_right c prefix delays represents unmirrored after unclosed = (tt, (c.is_right.ensures prefix delays represents).0 c.if-is_right.true)

-- a bound above the gain doesn't close
not_little : {a b : ℤ} {P : Type 0} → b <ℤ a → ¬ ((a <ℤ b) ⊎ ((a ≡ b) × P))
not_little more (inl less) = omega (arith, ints)
not_little more (inr (same, _)) = omega (arith, ints)

at_most : {a b c d : ℤ} → a ≡ c → b ≡ d → a ≤ℤ b → c ≤ℤ d
at_most first second most = omega (arith, ints)

pub returns-then-bound-best : goal.returns-then-bound-best
returns-then-bound-best c prefix delays represents unmirrored after unclosed B prunes = absurd prunes
returns-then-bound-best c prefix delays represents unmirrored after unclosed O prunes = unclosed.outputs
returns-then-bound-best c prefix delays represents unmirrored after unclosed C prunes = unclosed.convex
returns-then-bound-best c prefix delays represents unmirrored after unclosed I prunes = not_from_Decides _ (c.is_right.ensures prefix delays represents) c.if-is_right.false
returns-then-bound-best c prefix delays represents unmirrored after unclosed X prunes = unclosed.one_way
returns-then-bound-best c prefix delays represents unmirrored after unclosed M prunes = unmirrored
returns-then-bound-best c prefix delays represents unmirrored after unclosed G prunes =
    let gain : SFits w64 c.args.best.now.gain = search rules in
    let here : SFits w64 c.bound-bound.result = search rules in
    not_little (less_by_test _ _ gain here c.if-bound-best.true c.requires.measured.gain_is (c.bound-bound.ensures prefix delays represents))
returns-then-bound-best c prefix delays represents unmirrored after unclosed F prunes = absurd prunes

pub returns : goal.returns
returns c prefix delays represents unmirrored after unclosed =
    let gain : SFits w64 c.args.best.now.gain = search rules in
    let here : SFits w64 c.bound-bound.result = search rules in (
      tt,
      too_little _ _ (at_most (c.bound-bound.ensures prefix delays represents) c.requires.measured.gain_is
          (not_less_by_test _ _ gain here c.if-bound-best.false)) after,
    )
