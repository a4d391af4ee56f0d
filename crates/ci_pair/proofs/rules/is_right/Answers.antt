use Rattle.std.proofs.Common.{◌≡◌, ◌↔◌, ◌≤◌, ℕ, Bool, true, false, Option, None, Some, MatchOption, is_some, not, IsTrue, length, refl, sym, ◌∙◌, arith, true≢false}
use Rattle.ci_cut.specs.Prefixes as cuts
use Rattle.ci_cut.proofs.Represented.{all_decided, some_undecided}
use Rattle.ci_pair.specs.Pairs.{First}
use Rattle.ci_pair.specs.Prefixes.{choices, chosen}
use Rattle.ci_pair.specs.PairSets.{given}
use Rattle.ci_pair.specs.Rules.{IsBetter}
use Rattle.ci_pair.proofs.PrefixLaws.{length-choices}
use Rattle.ci_pair.proofs.SetTests.{either_test, both_tests, not_test, less_test}
use Rattle.ci_pair.proofs.rules.is_right.Goals as goal

pub returns-in-O : goal.returns-in-O
returns-in-O c prefix delays represents =
    rw c.in-O.is (either_test _ _ (less_test _ _ c.from-outputs.ensures represents.first.outputs_are)
    (less_test _ _ c.from-outputs.ensures represents.second.outputs_are))

pub returns-in-C : goal.returns-in-C
returns-in-C c prefix delays represents =
    rw c.in-C.is (not_test _ (both_tests _ _ represents.first.is_convex represents.second.is_convex))

pub returns-in-I : goal.returns-in-I
returns-in-I c prefix delays represents =
    rw c.in-I.is (either_test _ _ (less_test _ _ c.from-inputs.ensures represents.first.settled_are)
    (less_test _ _ c.from-inputs.ensures represents.second.settled_are))

pub returns-in-X : goal.returns-in-X
returns-in-X c prefix delays represents = rw c.in-X.is (c.is_crossing.ensures c.args.graph.now prefix delays represents)

pub returns-in-M : goal.returns-in-M
returns-in-M c prefix delays represents = rw c.in-M.is (c.is_mirrored.ensures c.args.graph.now prefix delays represents)

pub returns-in-G : goal.returns-in-G
returns-in-G c prefix delays represents = rw c.in-G.is (c.gains_too_little.ensures prefix delays represents)

none_there : (o : Option ℕ) (P : Type 0) (Q : ℕ → Type 0) → MatchOption o P Q → is_some o ≡ false → P
none_there None P Q here none = here
none_there (Some x) P Q here none = absurd (true≢false none)

some_there : (o : Option ℕ) (P : Type 0) (Q : ℕ → Type 0) → MatchOption o P Q → is_some o ≡ true → (k : ℕ) × Q k
some_there None P Q none is = absurd (true≢false (sym is))
some_there (Some x) P Q there is = (x, there)

some_from : (o : Option ℕ) (P : Type 0) (Q : ℕ → Type 0) → MatchOption o P Q → (P → ⊥) → is_some o ≡ true
some_from None P Q none other = absurd (other none)
some_from (Some x) P Q there other = refl

-- a complete choice that isn't better
decides_not : (result : Bool) (Better Whole : Type 0) → IsTrue result ↔ Better → Whole → IsTrue (not result) ↔ (Whole × (¬ Better))
decides_not true Better Whole decides whole = (λ e. absurd (true≢false (sym e)), λ h. absurd (h.1 (decides.0 refl)))
decides_not false Better Whole decides whole = (λ _. (whole, λ better. true≢false (sym (decides.1 better))), λ _. refl)

pub is_better-requires-clause-whole : goal.is_better-requires-clause-whole
is_better-requires-clause-whole c =
    let some = c.requires.represents in
    let whole = all_decided c.args.graph.now (choices First some.0) c.args.terms.now.first some.1.first some.2.first
    (none_there _ _ _ c.next.ensures c.if-is_none.ensures) in
    (some.0, some.1, some.2, omega (arith, whole, length-choices First some.0))

pub returns-then-is_none : goal.returns-then-is_none
returns-then-is_none c prefix delays represents =
    let whole = all_decided c.args.graph.now (choices First prefix) c.args.terms.now.first delays.first represents.first
    (none_there _ _ _ c.next.ensures c.if-is_none.ensures) in
    let all : cuts.eligible_nodes c.args.graph.now ≤ length prefix = omega (arith, whole, length-choices First prefix) in
    rw c.in-F.is (decides_not _ (IsBetter c.args.graph.now c.args.limits.now (given c.args.best.now.pair) (chosen c.args.graph.now prefix)) _
    (c.is_better.ensures prefix delays represents) all)

pub returns-else-is_none : goal.returns-else-is_none
returns-else-is_none c prefix delays represents =
    let next = some_there _ _ _ c.next.ensures c.if-is_none.ensures in
    let left = some_undecided c.args.graph.now (choices First prefix) c.args.terms.now.first delays.first represents.first next.0 next.1 in
    rw c.in-F.is (
      λ e. absurd (true≢false (sym e ∙ c.if-is_none.false)),
      λ h. absurd (omega (arith, left, h.0, length-choices First prefix)),
    )

pub returns-in-B : goal.returns-in-B
returns-in-B c prefix delays represents =
    rw c.in-B.is (
      λ e.
          let next = some_there _ _ _ c.next-in-B.ensures (sym c.is_some.ensures ∙ e) in
          omega (
            arith,
            some_undecided c.args.graph.now (choices First prefix) c.args.terms.now.first delays.first represents.first next.0 next.1,
            length-choices First prefix,
          ),
      λ undecided. c.is_some.ensures ∙ some_from _ _ _ c.next-in-B.ensures (λ none.
          omega (arith, undecided, length-choices First prefix, all_decided c.args.graph.now (choices First prefix) c.args.terms.now.first delays.first represents.first none)),
    )
