-- Sums over lists and over numbers.
use Rattle.std.proofs.Common.{◌≡◌, ℕ, zero, suc, ◌+◌, ◌*◌, ◌<◌, ◌≤◌, true, List, [], ◌∷◌, refl, sym, ap, ◌∙◌, inl, inr, arith}
use Rattle.std.specs.Prelude.{if◌then◌else◌, ◌==◌}
use Rattle.std.specs.List.{Contains, sum_by}
use Rattle.std.proofs.lemmas.Bool.{cases_eq, eq-eqb, ne_eqb}
use Rattle.std.proofs.lemmas.List.Sums.{sum_by-cons}
use Rattle.ci_word.specs.Numbers.{sum_below}
use Rattle.ci_word.proofs.NumberLaws.{sum_below-suc, sum_below-zero}
use Rattle.ci_select.proofs.EntryLaws.{first_there, later_there}

-- ---- over a list

module _ {X : Type 0} where
  -- a sum of terms that are larger at each element is larger
  pub sum_by_less : (f g : X → ℕ) (xs : List X) → ((x : X) → Contains xs x → f x ≤ g x) → sum_by f xs ≤ sum_by g xs
  sum_by_less f g [] less = omega arith
  sum_by_less f g (x ∷ xs) less = omega (
    arith,
    sum_by-cons f x xs,
    sum_by-cons g x xs,
    less x (first_there x xs),
    sum_by_less f g xs (λ y there. less y (later_there x y xs there)),
  )

  -- a sum of nothing
  pub sum_by_none : (f : X → ℕ) (xs : List X) → ((x : X) → f x ≡ 0) → sum_by f xs ≡ 0
  sum_by_none f [] none = refl
  sum_by_none f (x ∷ xs) none = omega (arith, sum_by-cons f x xs, none x, sum_by_none f xs none)

  -- a sum of sums
  pub sum_by_both : (f g : X → ℕ) (xs : List X) → sum_by (λ x. f x + g x) xs ≡ sum_by f xs + sum_by g xs
  sum_by_both f g [] = omega arith
  sum_by_both f g (x ∷ xs) =
      omega (arith, sum_by-cons (λ y. f y + g y) x xs, sum_by-cons f x xs, sum_by-cons g x xs, sum_by_both f g xs)

  -- a sum of multiples
  pub sum_by_times : (n : ℕ) (f : X → ℕ) (xs : List X) → sum_by (λ x. n * f x) xs ≡ n * sum_by f xs
  sum_by_times n f [] = omega arith
  sum_by_times n f (x ∷ xs) =
      omega (
        arith,
        sum_by-cons (λ y. n * f y) x xs,
        ap (λ s. n * s) (sum_by-cons f x xs),
        sum_by_times n f xs,
        spread (f x) (sum_by f xs),
      )
    where
      spread : (a b : ℕ) → n * (a + b) ≡ n * a + n * b
      spread a b = omega arith

  -- one term is within the sum
  pub within_sum_by : (f : X → ℕ) (xs : List X) (x : X) → Contains xs x → f x ≤ sum_by f xs
  within_sum_by f [] x there = absurd (omega (arith, there.1))
  within_sum_by f (y ∷ xs) x (zero, within, is) = omega (arith, sum_by-cons f y xs, ap f is)
  within_sum_by f (y ∷ xs) x (suc k, within, is) =
      omega (arith, sum_by-cons f y xs, within_sum_by f xs x (k, omega arith, is))

-- ---- over numbers

-- what is added at a number past the end changes nothing,
added_past : (m x c : ℕ) (f : ℕ → ℕ) → m ≤ x
    → sum_below m (λ _. true) (λ k. f k + (if x == k then c else 0)) ≡ sum_below m (λ _. true) f
added_past zero x c f past =
    sum_below-zero (λ _. true) (λ k. f k + (if x == k then c else 0)) ∙ sym (sum_below-zero (λ _. true) f)
added_past (suc m) x c f past =
    let other : (if x == m then c else 0) ≡ 0 = ap (λ b. if b then c else 0) (ne_eqb x m (λ same. omega arith)) in
    omega (
      arith,
      sum_below-suc m (λ _. true) (λ k. f k + (if x == k then c else 0)),
      sum_below-suc m (λ _. true) f,
      added_past m x c f (omega arith),
      other,
    )

-- and below it once
pub added_once : (m x c : ℕ) (f : ℕ → ℕ) → x < m
    → sum_below m (λ _. true) (λ k. f k + (if x == k then c else 0)) ≡ sum_below m (λ _. true) f + c
added_once zero x c f below = absurd (omega arith)
added_once (suc m) x c f below = elim (cases_eq x m) [
  | inl its ↦
      let here : (if x == m then c else 0) ≡ c = ap (λ b. if b then c else 0) (eq-eqb x m its) in
      omega (
        arith,
        sum_below-suc m (λ _. true) (λ k. f k + (if x == k then c else 0)),
        sum_below-suc m (λ _. true) f,
        added_past m x c f (omega arith),
        here,
      )
  | inr other ↦
      let none : (if x == m then c else 0) ≡ 0 = ap (λ b. if b then c else 0) (ne_eqb x m other) in
      omega (
        arith,
        sum_below-suc m (λ _. true) (λ k. f k + (if x == k then c else 0)),
        sum_below-suc m (λ _. true) f,
        added_once m x c f (omega (arith, below, other)),
        none,
      )
]
