-- What the checker has seen: widths of terms, and bounds.
use Rattle.std.proofs.Common.{◌≡◌, ℕ, suc, List, [], ◌∷◌, length, reverse, Bool, true, false, ◌&&◌, eqb, Option, Some, None, refl, ap, sym, ◌∙◌, arith}
use Rattle.std.proofs.lemmas.List.{length-reverse}
use Rattle.ci_vread.specs.Rules.{same}
use Rattle.ci_vread.specs.declared.seen.Seen.{Seen as SeenValue}
use Rattle.ci_vread.specs.private.Checked.{least, IsStill, IsBounded}

same_length : (xs ys : List ℕ) → same xs ys ≡ true → length xs ≡ length ys
same_length [] [] e = refl
same_length [] (y ∷ ys) e = absurd (cc)
same_length (x ∷ xs) [] e = absurd (cc)
same_length (x ∷ xs) (y ∷ ys) e = by (eqb x y) (same_length xs ys) e
  where
    by : (b : Bool) → (same xs ys ≡ true → length xs ≡ length ys) → (b && same xs ys) ≡ true → suc (length xs) ≡ suc (length ys)
    by true more e = ap (λ n. suc n) (more e)
    by false more e = absurd (cc)

-- lists of other lengths aren't the same
pub other_length : (xs ys : List ℕ) → (length xs ≡ length ys → ⊥) → false ≡ same (reverse xs) ys
other_length xs ys differ = by (same (reverse xs) ys) refl
  where
    by : (b : Bool) → same (reverse xs) ys ≡ b → false ≡ b
    by true e = absurd (differ (sym (length-reverse xs) ∙ same_length (reverse xs) ys e))
    by false e = refl

least_none : (b r : Option ℕ) → least b r ≡ None → b ≡ None
least_none None r e = refl
least_none (Some k) None e = absurd (cc)
least_none (Some k) (Some l) e = absurd (cc)

-- what stays the same stays bounded
pub still : (old new : SeenValue) (before broken : Option ℕ) → IsStill old new → IsBounded old before
    → IsBounded new (least before broken)
still old new before broken same bounded = (
  omega (arith, rw (sym same.0.0, sym same.1, sym same.2) at bounded.0),
  λ none. let tame = bounded.1 (least_none before broken none) in (omega (arith, same, tame), omega (arith, same, tame)),
)
