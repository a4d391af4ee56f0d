-- The text of the members of a set, number by number.
use Rattle.std.proofs.Common.{◌≡◌, ℕ, ◌+◌, Bool, true, false, List, [], ◌∷◌, ◌++◌, refl, ap, ◌∙◌, add-one, append-nil}
use Rattle.std.specs.Prelude.{if◌then◌else◌}
use Rattle.std.specs.List.{flat_map}
use Rattle.std.proofs.lemmas.Grind.{flat_map-append}
use Rattle.ci_word.specs.Numbers.{numbers_below}
use Rattle.ci_word.proofs.NumberLaws.{numbers_below-zero, numbers_below-suc}

-- before the first number there is none
pub members_none : (f : ℕ → List ℕ) (p : ℕ → Bool) → flat_map f (numbers_below 0 p) ≡ []
members_none f p = ap (flat_map f) (numbers_below-zero p)

-- one number more adds its own text, where it is in
pub members_more : (f : ℕ → List ℕ) (p : ℕ → Bool) (k : ℕ) → flat_map f (numbers_below (k + 1) p) ≡ flat_map f (numbers_below k p) ++ (if p k then f k else [])
members_more f p k =
    ap (flat_map f) (ap (λ n. numbers_below n p) (add-one k) ∙ numbers_below-suc k p)
    ∙ flat_map-append f (numbers_below k p) (if p k then k ∷ [] else [])
    ∙ ap (λ last. flat_map f (numbers_below k p) ++ last) (by_test (p k))
  where
    by_test : (b : Bool) → flat_map f (if b then k ∷ [] else []) ≡ (if b then f k else [])
    by_test true = append-nil (f k)
    by_test false = refl

pub ruleset members = (members_none, members_more)
