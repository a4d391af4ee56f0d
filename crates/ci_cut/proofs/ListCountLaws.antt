-- Laws of how many items of a list have a property.
use Rattle.std.proofs.Common.{◌≡◌, ℕ, zero, suc, ◌+◌, ◌≤◌, ◌⊎◌, inl, inr, List, [], ◌∷◌, ◌++◌, length, refl, subst, arith}
use Rattle.ci_cut.specs.ListCounts.{AtLeast, none, counted, passed}

module _ {X : Type 0} (P : X → Type 0) where
  pub AtLeast-nil : {n : ℕ} → AtLeast P n [] → n ≡ 0
  AtLeast-nil none = refl

  -- none is counted, or the first one is, or none but the others
  pub AtLeast-cases : {n : ℕ} {item : X} {rest : List X} → AtLeast P n (item ∷ rest)
      → (n ≡ 0) ⊎ (((m : ℕ) × (n ≡ suc m) × P item × AtLeast P m rest) ⊎ AtLeast P n rest)
  AtLeast-cases none = inl refl
  AtLeast-cases (counted {n = m} is rest) = inr (inl (m, refl, is, rest))
  AtLeast-cases (passed rest) = inr (inr rest)

  pub AtLeast-left : {n : ℕ} {first : List X} → AtLeast P n first → (second : List X) → AtLeast P n (first ++ second)
  AtLeast-left none second = none
  AtLeast-left (counted is rest) second = counted is (AtLeast-left rest second)
  AtLeast-left (passed rest) second = passed (AtLeast-left rest second)

  AtLeast-right : {n : ℕ} (first second : List X) → AtLeast P n second → AtLeast P n (first ++ second)
  AtLeast-right [] second found = found
  AtLeast-right (item ∷ first) second found = passed (AtLeast-right first second found)

  pub AtLeast-both : {m n : ℕ} {first : List X} (second : List X) → AtLeast P m first → AtLeast P n second → AtLeast P (m + n) (first ++ second)
  AtLeast-both {n = n} second (none {items = first}) found =
      let same : n ≡ 0 + n = omega arith in
      subst (λ (k : ℕ). AtLeast P k (first ++ second)) same (AtLeast-right first second found)
  AtLeast-both {n = n} second (counted {n = m} {item = item} {rest = first} is rest) found =
      let same : suc (m + n) ≡ suc m + n = omega arith in
      subst (λ (k : ℕ). AtLeast P k (item ∷ (first ++ second))) same (counted is (AtLeast-both second rest found))
  AtLeast-both second (passed rest) found = passed (AtLeast-both second rest found)

  pub AtLeast-split : {n : ℕ} (first second : List X) → AtLeast P n (first ++ second)
      → (a : ℕ) × (b : ℕ) × AtLeast P a first × AtLeast P b second × (n ≡ a + b)
  AtLeast-split {n} [] second found = (0, n, none, found, omega arith)
  AtLeast-split {n} (item ∷ first) second found = elim (AtLeast-cases found) [
    | inl zero_ ↦ (0, 0, none, none, omega arith)
    | inr (inl (m, is_suc, is, rest)) ↦ let parts = AtLeast-split first second rest in
        (suc parts.0, parts.1, counted is parts.2, parts.3, omega (arith, parts.4))
    | inr (inr rest) ↦ let parts = AtLeast-split first second rest in (parts.0, parts.1, passed parts.2, parts.3, parts.4)
  ]

  pub AtLeast-fewer : {n : ℕ} {items : List X} → AtLeast P n items → (m : ℕ) → m ≤ n → AtLeast P m items
  AtLeast-fewer found zero fewer = none
  AtLeast-fewer none (suc m) fewer = absurd (omega arith)
  AtLeast-fewer (counted {n = n} is rest) (suc m) fewer = counted is (AtLeast-fewer {n = n} rest m (omega arith))
  AtLeast-fewer (passed rest) (suc m) fewer = passed (AtLeast-fewer rest (suc m) fewer)

  -- no more of them have it than there are
  pub AtLeast-length : {n : ℕ} {items : List X} → AtLeast P n items → n ≤ length items
  AtLeast-length none = omega arith
  AtLeast-length (counted is rest) = let within = AtLeast-length rest in omega arith
  AtLeast-length (passed rest) = let within = AtLeast-length rest in omega arith
