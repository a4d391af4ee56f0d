-- The block of an address, by halving.
use Rattle.std.proofs.Common.{◌≡◌, ℕ, ◌<◌, ◌≤◌, List, length, get_or, Result, Ok, Err, arith, ◌∙◌, sym, inl, inr}
use Rattle.std.specs.List.{AllPairs, Contains}
use Rattle.std.specs.List.Sorted.{IsBinarySearchResult}
use Rattle.std.specs.Option.{MatchOption}
use Rattle.std.specs.Ordering.{nat_cmp}
use Rattle.std.specs.Result.{result_ok}
use Rattle.std.proofs.lemmas.Bool.{cases_eq, cases_lt}
use Rattle.std.proofs.lemmas.Grind.{get_or_default_zero}
use Rattle.std.proofs.lemmas.List.Sorted.{searched}

abbrev pub Ascend : List ℕ → Type 0
Ascend xs = AllPairs (λ a b. a < b) xs

rises : (xs : List ℕ) → Ascend xs → (i j : ℕ) → i ≤ j → j < length xs → get_or xs i 0 ≤ get_or xs j 0
rises xs ascending i j h within = elim (cases_eq i j) [
  | inl same ↦ rw same (omega arith)
  | inr other ↦ omega (arith, ascending i j 0 (omega arith) within)
]

pub found_by_halving :
    (xs : List ℕ) (x : ℕ) (r : Result ℕ ℕ) → IsBinarySearchResult (λ y. nat_cmp y x) xs r → Ascend xs
    → MatchOption (result_ok r) (¬ Contains xs x) (λ k. (k < length xs) × (get_or xs k 0 ≡ x))
found_by_halving xs x (Ok k) halved ascending = searched xs x (Ok k) halved (rises xs ascending)
found_by_halving xs x (Err k) halved ascending =
    λ (i, within, is).
    let parts = searched xs x (Err k) halved (rises xs ascending) in
    let at : get_or xs i 0 ≡ x = sym (get_or_default_zero xs i x within) ∙ is in
    elim (cases_lt i k) [
      | inl h ↦ omega (arith, parts.1 i h)
      | inr h ↦ omega (arith, parts.2 i h within)
    ]
