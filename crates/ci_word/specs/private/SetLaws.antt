-- For private contracts: which numbers the set of the numbers below a bound contains.
use Rattle.std.specs.Prelude.{◌≡◌, ℕ, suc, zero, Bool, ◌&&◌, ◌||◌, if◌then◌else◌, [], ◌∷◌, nat_lt, nat_eq}
use Rattle.std.specs.List.{list_any}
use Rattle.std.specs.FinSet as set
use Rattle.std.proofs.Common.{sym, ap, ◌∙◌, arith, zero-le}
use Rattle.std.proofs.lemmas.Bool.{le-ltb}
use Rattle.std.proofs.lemmas.Bool.Decides.{nat_tests}
use Rattle.std.proofs.lemmas.List.Folds.{list_any-append}
use Rattle.ci_word.specs.Numbers.{numbers_below, set_below}

last_number : (n k : ℕ) (b : Bool) → list_any (λ y. nat_eq y k) (if b then n ∷ [] else []) ≡ (nat_eq n k && b)
last_number n k b = grind (arith, nat_tests)

one_number_more : (n : ℕ) (p : ℕ → Bool) (k : ℕ)
    → ((nat_lt k n && p k) || (nat_eq n k && p n)) ≡ (nat_lt k (suc n) && p k)
one_number_more n p k = grind (arith, nat_tests)

pub list_any-numbers_below : (n : ℕ) (p : ℕ → Bool) (k : ℕ)
    → list_any (λ y. nat_eq y k) (numbers_below n p) ≡ (nat_lt k n && p k)
unfolding numbers_below
list_any-numbers_below zero p k = ap (λ b. b && p k) (sym (le-ltb k 0 zero-le))
list_any-numbers_below (suc n) p k =
    list_any-append (λ y. nat_eq y k) (numbers_below n p) (if p n then n ∷ [] else [])
    ∙ ap (λ b. b || list_any (λ y. nat_eq y k) (if p n then n ∷ [] else [])) (list_any-numbers_below n p k)
    ∙ ap (λ b. (nat_lt k n && p k) || b) (last_number n k (p n))
    ∙ one_number_more n p k

-- what the set of the numbers below n that pass the test contains
pub contains-set_below : (n : ℕ) (p : ℕ → Bool) (k : ℕ) → set.contains (set_below n p) k ≡ (nat_lt k n && p k)
contains-set_below n p k = set.contains-from_list_nat (numbers_below n p) k ∙ list_any-numbers_below n p k
