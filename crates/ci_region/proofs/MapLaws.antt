-- What a finite map of slots holds after a write and after a removal.
-- The ruleset `laws` serves the callers of a region too.
use Rattle.std.proofs.Common.{◌≡◌, ◌≢◌, ℕ, ◌+◌, ◌<◌, Some, None, is_some, IsSome, true≢false, sym, ap, ◌∙◌, inl, inr}
use Rattle.std.proofs.Common.{arith}
use Rattle.std.proofs.lemmas.Bool.{cases_eq}
use Rattle.std.proofs.lemmas.Bool.Decides.{nat_tests}
use Rattle.std.specs.Ordering.{nat_cmp}
use Rattle.std.specs.Cmp.{nat_cmp_total, unsigned_tied}
use Rattle.std.specs.FinMap as map
use Rattle.std.specs.FinMap.{get-empty, get-insert, get-remove, len-insert, len-remove, empty_of_len}
use Rattle.std.specs.FinMap.{same_map, nat_cmp-IsAntisymmetric}

module _ {T : Type 0} (m : map.FinMap nat_cmp T) (slot : ℕ) where
  pub get-insert_same : (value : T) → map.get (map.insert m slot value) slot ≡ Some value
  get-insert_same value = grind (arith, nat_tests, get-insert, nat_cmp_total, unsigned_tied)

  pub get-insert_other : (value : T) (other : ℕ) → other ≢ slot
      → map.get (map.insert m slot value) other ≡ map.get m other
  get-insert_other value other apart = grind (arith, nat_tests, get-insert, nat_cmp_total, unsigned_tied)

  pub get-remove_same : map.get (map.remove m slot) slot ≡ None
  get-remove_same = grind (arith, nat_tests, get-remove, nat_cmp_total, unsigned_tied)

  pub get-remove_other : (other : ℕ) → other ≢ slot → map.get (map.remove m slot) other ≡ map.get m other
  get-remove_other other apart = grind (arith, nat_tests, get-remove, nat_cmp_total, unsigned_tied)

  -- a map is another with one slot more, or other in it, where it holds just that
  pub is_insert : (n : map.FinMap nat_cmp T) (value : T) → map.get n slot ≡ Some value
      → ((other : ℕ) → other ≢ slot → map.get n other ≡ map.get m other) → n ≡ map.insert m slot value
  is_insert n value here others =
      same_map nat_cmp_total nat_cmp-IsAntisymmetric n (map.insert m slot value) (λ q. elim (cases_eq q slot) [
        | inl same ↦ ap (map.get n) same ∙ here
            ∙ sym (ap (map.get (map.insert m slot value)) same ∙ get-insert_same value)
        | inr apart ↦ others q apart ∙ sym (get-insert_other value q apart)
      ])

  -- a map is another without a slot where it holds nothing there and all else
  pub is_remove : (n : map.FinMap nat_cmp T) → map.get n slot ≡ None
      → ((other : ℕ) → other ≢ slot → map.get n other ≡ map.get m other) → n ≡ map.remove m slot
  is_remove n here others =
      same_map nat_cmp_total nat_cmp-IsAntisymmetric n (map.remove m slot) (λ q. elim (cases_eq q slot) [
        | inl same ↦ ap (map.get n) same ∙ here ∙ sym (ap (map.get (map.remove m slot)) same ∙ get-remove_same)
        | inr apart ↦ others q apart ∙ sym (get-remove_other q apart)
      ])

  -- what the others hold, all do
  pub kept_without : (other : ℕ) (value : T) → map.get (map.remove m slot) other ≡ Some value
      → map.get m other ≡ Some value
  kept_without other value here = elim (cases_eq other slot) [
    | inl same ↦ absurd (true≢false (sym (ap is_some here) ∙ ap (λ k. is_some (map.get (map.remove m slot) k)) same
        ∙ ap is_some get-remove_same))
    | inr apart ↦ sym (get-remove_other other apart) ∙ here
  ]

  -- a live slot isn't one that is free
  pub live_differs : (other : ℕ) → IsSome (map.get m slot) → map.get m other ≡ None → slot ≢ other
  live_differs other live free same =
      true≢false (sym live ∙ ap (λ k. is_some (map.get m k)) same ∙ ap is_some free)

  -- one slot more is live after a take
  pub len-take : (value : T) → map.get m slot ≡ None → map.len (map.insert m slot value) ≡ map.len m + 1
  len-take value free = grind (arith, len-insert, nat_cmp_total)

  -- as many slots are live after a write to a live one
  pub len-write : (value : T) → IsSome (map.get m slot) → map.len (map.insert m slot value) ≡ map.len m
  len-write value live = grind (arith, len-insert, nat_cmp_total)

  has_one : IsSome (map.get m slot) → 0 < map.len m
  has_one live = elim (cases_eq (map.len m) 0) [
    | inl none ↦ absurd (true≢false (sym live ∙ ap (λ n. is_some (map.get n slot)) (empty_of_len m none)
        ∙ ap is_some (get-empty nat_cmp slot)))
    | inr some ↦ omega arith
  ]

  -- one slot fewer is live after a value is given
  pub len-give : IsSome (map.get m slot) → map.len (map.remove m slot) + 1 ≡ map.len m
  len-give live = let some = has_one live in grind (arith, len-remove, nat_cmp_total)

  pub fewer_without : (value : T) → map.get m slot ≡ Some value → map.len (map.remove m slot) + 1 ≡ map.len m
  fewer_without value here = len-give (ap is_some here)

module _ {T : Type 0} (m : map.FinMap nat_cmp T) (slot : ℕ) where
  -- a take that is given back leaves the map as it was
  pub given_back : (value : T) → map.get m slot ≡ None → map.remove (map.insert m slot value) slot ≡ m
  given_back value free =
      sym (is_remove (map.insert m slot value) slot m free
      (λ other apart. sym (get-insert_other m slot value other apart)))

pub ruleset laws = (
  get-insert_same,
  get-insert_other,
  get-remove_same,
  get-remove_other,
  live_differs,
  len-take,
  len-write,
  len-give,
  given_back,
)
