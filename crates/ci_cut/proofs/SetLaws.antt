-- Sets of numbers after a change.
use Rattle.std.proofs.Common.{◌≡◌, ℕ, ◌-◌, ◌<◌, ◌⊎◌, inl, inr, cond, not, nat_eq, IsTrue, sym, ap, ◌∙◌, arith, true≢false}
use Rattle.std.proofs.lemmas.Bool.{cases_eq, and_parts}
use Rattle.std.specs.Cmp.{nat_cmp_total}
use Rattle.std.proofs.lemmas.Bool.Decides.{nat_tests}
use Rattle.std.specs.Ordering.{nat_cmp}
use Rattle.std.specs.FinSet as set
use Rattle.ci_word.proofs.NumberLaws.{contains-insert_nat, contains-remove_nat, count_below-mono, len-count_below}

-- what a set with one number more contains
pub contains_new : (s : set.FinSet nat_cmp) (n : ℕ) → IsTrue (set.contains (set.insert s n) n)
contains_new s n = let more = contains-insert_nat s n n in grind (arith, nat_tests)

pub contains_kept : (s : set.FinSet nat_cmp) (n k : ℕ) → IsTrue (set.contains s k) → IsTrue (set.contains (set.insert s n) k)
contains_kept s n k old = let more = contains-insert_nat s n k in grind (arith, nat_tests)

pub from_more : (s : set.FinSet nat_cmp) (n k : ℕ) → IsTrue (set.contains (set.insert s n) k) → (k ≡ n) ⊎ IsTrue (set.contains s k)
from_more s n k new = let more = contains-insert_nat s n k in grind (arith, nat_tests)

-- all numbers of a set are below n
pub below_empty : (n j : ℕ) → IsTrue (set.contains {R = nat_cmp} set.empty j) → j < n
below_empty n j h = let none = set.contains-empty nat_cmp j in cc

pub below_insert : (s : set.FinSet nat_cmp) (k n : ℕ) → ((j : ℕ) → IsTrue (set.contains s j) → j < n) → k < n
    → (j : ℕ) → IsTrue (set.contains (set.insert s k) j) → j < n
below_insert s k n old new j h = elim (from_more s k j h) [ inl same ↦ omega arith | inr before ↦ old j before ]

-- with a number less there are fewer
pub fewer_left : (s : set.FinSet nat_cmp) (k : ℕ) → IsTrue (set.contains s k) → set.len (set.remove s k) < set.len s
fewer_left s k in_ = elim (cases_eq (set.len s) 0) [
  | inl none ↦ absurd (true≢false (sym in_ ∙ ap (λ t. set.contains t k) (set.empty_of_len s none) ∙ set.contains-empty nat_cmp k))
  | inr some ↦ omega (arith, set.len-remove nat_cmp_total s k ∙ ap (λ b. cond b (set.len s - 1) (set.len s)) in_)
]

pub fewer_left_without : (s without : set.FinSet nat_cmp) (k n : ℕ) → ((j : ℕ) → IsTrue (set.contains s j) → j < n) → IsTrue (set.contains s k)
    → set.len (set.difference (set.remove s k) without) < set.len s
fewer_left_without s without k n below in_ =
    let fewer = set.remove s k in
    let least = set.difference fewer without in
    let in_fewer : (j : ℕ) → IsTrue (set.contains least j) → IsTrue (set.contains fewer j) =
    λ j among. (and_parts (set.contains fewer j) (not (set.contains without j)) (sym (set.contains-difference nat_cmp_total fewer without j) ∙ among)).0 in
    let in_all : (j : ℕ) → IsTrue (set.contains fewer j) → IsTrue (set.contains s j) =
    λ j among. (and_parts (not (nat_eq j k)) (set.contains s j) (sym (contains-remove_nat s k j) ∙ among)).1 in
    omega (
      arith,
      len-count_below n least (λ j among. below j (in_all j (in_fewer j among))),
      len-count_below n fewer (λ j among. below j (in_all j among)),
      count_below-mono n (set.contains least) (set.contains fewer) (λ j _. in_fewer j),
      fewer_left s k in_,
    )
