-- Which registers a set has, and how many.
use Rattle.std.proofs.Common.{◌≡◌, ℕ, ◌+◌, ◌-◌, ◌<◌, ◌⊎◌, ◌↔◌, inl, inr, arith, not, nat_cmp, sym, ◌∙◌, true≢false, List, length}
use Rattle.std.specs.Cmp.{nat_cmp_total}
use Rattle.std.specs.FinSet as set
use Rattle.std.specs.List.{sum_by}
use Rattle.std.proofs.Math.ListN.{set as list_set}
use Rattle.std.proofs.lemmas.Bool.{and_parts, and_from, or_cases, or_left, or_right, not-true, not_from_false, false_from_ne_true, true_from_ne_false}
use Rattle.std.proofs.lemmas.List.Sums.{sum_by-set}
use Rattle.ci_word.specs.Numbers.{count_below}
use Rattle.ci_word.proofs.NumberLaws.{count_below-le, count_below-or, count_below-same}
use Rattle.ci_live.specs.private.Flows.{Has}
use Rattle.ci_live.specs.private.Found.{live_at}

pub has_none : (r : ℕ) → ¬ Has set.empty r
has_none r has = true≢false (sym has ∙ set.contains-empty nat_cmp r)

pub has_union : (s t : set.FinSet nat_cmp) (r : ℕ) → Has (set.union s t) r ↔ (Has s r ⊎ Has t r)
has_union s t r =
    let is = set.contains-union nat_cmp_total s t r in (
      λ has. or_cases (set.contains s r) (set.contains t r) (sym is ∙ has),
      λ some. is ∙ elim some [
        | inl h ↦ or_left (set.contains s r) (set.contains t r) h
        | inr h ↦ or_right (set.contains s r) (set.contains t r) h
      ],
    )

pub has_difference : (s t : set.FinSet nat_cmp) (r : ℕ) → Has (set.difference s t) r ↔ (Has s r × ¬ Has t r)
has_difference s t r =
    let is = set.contains-difference nat_cmp_total s t r in (
      λ has.
          let parts = and_parts (set.contains s r) (not (set.contains t r)) (sym is ∙ has) in
          (parts.0, λ h. true≢false (sym h ∙ not-true (set.contains t r) parts.1)),
      λ (h, other).
          is ∙ and_from (set.contains s r) (not (set.contains t r)) h (not_from_false (set.contains t r) (false_from_ne_true (set.contains t r) other)),
    )

-- what a set has is in another one where their difference has it not
pub covered : (s t : set.FinSet nat_cmp) (r : ℕ) → ¬ Has (set.difference s t) r → Has s r → Has t r
covered s t r none has = true_from_ne_false (set.contains t r) (λ e. none ((has_difference s t r).1 (has, λ h. true≢false (sym h ∙ e))))

-- a set of a list that grows leaves less room
pub less_room :
    (live : List (set.FinSet nat_cmp)) (n : ℕ) (more : set.FinSet nat_cmp) → n < length live
    → ((r : ℕ) → Has (live_at live n) r → ¬ Has more r) → 0 < count_below 256 (set.contains more)
    → sum_by (λ s. 256 - count_below 256 (set.contains s)) (list_set live n (set.union (live_at live n) more))
    < sum_by (λ s. 256 - count_below 256 (set.contains s)) live
less_room live n more within apart some =
    let before : set.FinSet nat_cmp = live_at live n in
    let after : set.FinSet nat_cmp = set.union before more in
    let sums = sum_by-set (λ (s : set.FinSet nat_cmp). 256 - count_below 256 (set.contains s)) live n after set.empty within in
    let many : count_below 256 (set.contains after) ≡ count_below 256 (set.contains before) + count_below 256 (set.contains more) =
    count_below-same 256 _ _ (λ r h. set.contains-union nat_cmp_total before more r)
    ∙ count_below-or 256 (set.contains before) (set.contains more) apart in
    let most = count_below-le 256 (set.contains after) in
    omega arith
