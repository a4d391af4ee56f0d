use Rattle.std.proofs.Common.{◌≡◌, ℕ, Bool, true, false, Option, None, Some, MatchOption, is_some, not, IsTrue, ◌↔◌}
use Rattle.std.proofs.Common.{refl, sym, ◌∙◌, subst, true≢false}
use Rattle.std.proofs.lemmas.Bool.{not-true, not_from_false, false_from_ne_true}
use Rattle.ci_cut.specs.Prefixes.{taken}
use Rattle.ci_check.specs.Rules.{IsBetter}
use Rattle.ci_cut.proofs.Represented.{same_taken, all_decided}
use Rattle.ci_check.proofs.rules.is_right.Goals as goal

pub returns-in-C : goal.returns-in-C
returns-in-C c prefix delays represents =
    rw c.in-C.is (
      λ broken convex. true≢false (sym (represents.is_convex.1 convex) ∙ not-true _ broken),
      λ broken. not_from_false _ (false_from_ne_true _ (λ convex. broken (represents.is_convex.0 convex))),
    )

pub returns-in-G : goal.returns-in-G
returns-in-G c prefix delays represents = rw c.in-G.is (c.gains_too_little.ensures prefix delays represents)

none_there : (o : Option ℕ) (P : Type 0) (Q : ℕ → Type 0) → MatchOption o P Q → is_some o ≡ false → P
none_there None P Q here none = here
none_there (Some x) P Q here none = absurd (true≢false none)

-- the set that is looked at, by another test of its members
decides_not : (result : Bool) (Better : (ℕ → Bool) → Type 0) (cut taken : ℕ → Bool) (Whole : Type 0) → cut ≡ taken
    → IsTrue result ↔ Better cut → Whole → IsTrue (not result) ↔ (Whole × (¬ Better taken))
decides_not true Better cut taken Whole same decides whole = (λ e. absurd (true≢false (sym e)), λ h. absurd (h.1 (subst Better same (decides.0 refl))))
decides_not false Better cut taken Whole same decides whole = (λ _. (whole, λ better. true≢false (sym (decides.1 (subst Better (sym same) better)))), λ _. refl)

pub is_better-requires-clause-whole : goal.is_better-requires-clause-whole
is_better-requires-clause-whole c =
    let some = c.requires.represents in (
      some.0,
      some.1,
      some.2,
      all_decided c.args.graph.now some.0 c.args.terms.now some.1 some.2 (none_there _ _ _ c.next.ensures c.if-is_none.ensures),
    )

pub returns-then-is_none : goal.returns-then-is_none
returns-then-is_none c prefix delays represents =
    let whole = all_decided c.args.graph.now prefix c.args.terms.now delays represents (none_there _ _ _ c.next.ensures c.if-is_none.ensures) in
    rw c.in-F.is (decides_not _ (IsBetter c.args.graph.now c.args.limits.now c.args.best.now.cut) _
    (taken c.args.graph.now prefix) _ (same_taken c.args.graph.now prefix c.args.terms.now delays represents) c.is_better.ensures whole)
