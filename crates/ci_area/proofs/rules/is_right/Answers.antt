use Rattle.std.proofs.Common.{◌≡◌, ◌↔◌, ℕ, Bool, true, false, not, IsTrue, refl, sym, subst, arith, true≢false, ltb-true, lt-ltb}
use Rattle.std.specs.FinSet as set
use Rattle.ci_area.specs.AreaPrefixes.{taken}
use Rattle.ci_area.specs.AreaRules.{IsBetter}
use Rattle.ci_area.proofs.DecidedLaws.{same_taken}
use Rattle.ci_area.proofs.rules.is_right.Goals as goal

pub returns-in-A : goal.returns-in-A
returns-in-A c prefix represents =
    rw c.in-A.is (λ e. omega (arith, ltb-true _ _ e, represents.area_is), λ h. lt-ltb _ _ (omega (arith, h, represents.area_is)))

-- the set that is looked at, by another test of its members
decides_not : (result : Bool) (Better : (ℕ → Bool) → Type 0) (cut taken : ℕ → Bool) (Whole : Type 0) → cut ≡ taken
    → IsTrue result ↔ Better cut → Whole → IsTrue (not result) ↔ (Whole × (¬ Better taken))
decides_not true Better cut taken Whole same decides whole = (λ e. absurd (true≢false (sym e)), λ h. absurd (h.1 (subst Better same (decides.0 refl))))
decides_not false Better cut taken Whole same decides whole = (λ _. (whole, λ better. true≢false (sym (decides.1 (subst Better (sym same) better)))), λ _. refl)

pub returns-then-decided-eq0 : goal.returns-then-decided-eq0
returns-then-decided-eq0 c prefix represents =
    rw c.in-F.is (decides_not _ (IsBetter c.args.pieces.now c.args.limit (set.contains c.args.best.now.set)) _
    (taken c.args.pieces.now prefix) _ (same_taken c.args.pieces.now prefix c.args.decided.now represents) (c.is_better.ensures c.args.pieces.now c.requires.represents c.requires.measured)
    (omega (arith, c.if-decided-eq0.true, represents.is_left)))
