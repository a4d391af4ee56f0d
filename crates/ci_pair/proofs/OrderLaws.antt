-- The order of pairs, by the labels of one number after the other.
use Rattle.std.proofs.Common.{◌≡◌, ℕ, ◌<◌, ◌≤◌, inl, inr, IsTrue, Bool, true, false, not, ◌&&◌, ◌||◌, refl, sym, ap, ◌∙◌, arith}
use Rattle.std.specs.Cmp.{nat_cmp_total}
use Rattle.std.specs.Ordering.{nat_cmp}
use Rattle.std.specs.FinSet as set
use Rattle.ci_word.proofs.NumberLaws.{contains-remove_nat}
use Rattle.std.proofs.lemmas.Bool.{cases_eq, cases_order}
use Rattle.std.proofs.lemmas.Bool.Decides.{nat_tests}
use Rattle.ci_pair.specs.Pairs.{NodePair, Label, First, Second, Out, label, rank}
use Rattle.ci_pair.specs.PairSets.{ComesBeforeFrom}

pub rank_one : (l m : Label) → rank l ≡ rank m → l ≡ m
rank_one First First same = refl
rank_one First Second same = absurd (omega (arith, same))
rank_one First Out same = absurd (omega (arith, same))
rank_one Second First same = absurd (omega (arith, same))
rank_one Second Second same = refl
rank_one Second Out same = absurd (omega (arith, same))
rank_one Out First same = absurd (omega (arith, same))
rank_one Out Second same = absurd (omega (arith, same))
rank_one Out Out same = refl

-- ---- where sets differ

alike : (x y : Bool) → ¬ IsTrue ((x && not y) || (y && not x)) → x ≡ y
alike true true out = refl
alike true false out = absurd (out refl)
alike false true out = absurd (out refl)
alike false false out = refl

pub same_outside : (s t : set.FinSet nat_cmp) (k : ℕ)
    → ¬ IsTrue (set.contains (set.union (set.difference s t) (set.difference t s)) k) → set.contains s k ≡ set.contains t k
same_outside s t k out = alike (set.contains s k) (set.contains t k) (λ in_. out
    (set.contains-union nat_cmp_total (set.difference s t) (set.difference t s) k
    ∙ (λ i. set.contains-difference nat_cmp_total s t k i || set.contains-difference nat_cmp_total t s k i) ∙ in_))

pub in_left : (s t : set.FinSet nat_cmp) (k : ℕ) → IsTrue (set.contains s k) → IsTrue (set.contains (set.union s t) k)
in_left s t k in_ = set.contains-union nat_cmp_total s t k ∙ ap (λ b. b || set.contains t k) in_

or_right : (x y : Bool) → IsTrue y → IsTrue (x || y)
or_right true y in_ = refl
or_right false y in_ = in_

pub in_right : (s t : set.FinSet nat_cmp) (k : ℕ) → IsTrue (set.contains t k) → IsTrue (set.contains (set.union s t) k)
in_right s t k in_ = set.contains-union nat_cmp_total s t k ∙ or_right (set.contains s k) (set.contains t k) in_

-- ---- labels

module _ (p q : NodePair) where
  pub none_before : (from : ℕ) → ((j : ℕ) → from ≤ j → label p j ≡ label q j) → ComesBeforeFrom from p q → ⊥
  none_before from same (before, down) = omega (arith, before.earlier, ap rank (same before.place down))

  module _ (k : ℕ) (same : (j : ℕ) → k < j → label p j ≡ label q j) where
    pub one_more : rank (label p k) ≡ rank (label q k) → (j : ℕ) → k ≤ j → label p j ≡ label q j
    one_more here j from = elim (cases_eq j k) [
      | inl last ↦ ap (label p) last ∙ rank_one (label p k) (label q k) here ∙ sym (ap (label q) last)
      | inr other ↦ same j (omega arith)
    ]

    module _ (from : ℕ) (down : from ≤ k) where
      pub before_here : rank (label p k) < rank (label q k) → ComesBeforeFrom from p q
      before_here less = (record { place = k; earlier = less; same_above = same }, down)

      pub here_before : (rank (label p k) ≡ rank (label q k) → ⊥) → ComesBeforeFrom from p q → rank (label p k) < rank (label q k)
      here_before differ (before, _) = elim (cases_order before.place k) [
        | inl is ↦ omega (arith, before.earlier, ap (λ j. rank (label p j)) is, ap (λ j. rank (label q j)) is)
        | inr (inl lower) ↦ absurd (differ (ap rank (before.same_above k lower)))
        | inr (inr higher) ↦ omega (arith, before.earlier, ap rank (same before.place higher))
      ]

-- with the labels of one number more the same, they are outside the set without it
pub same_but : (p q : NodePair) (rest : set.FinSet nat_cmp) (k : ℕ) → ((j : ℕ) → ¬ IsTrue (set.contains rest j) → label p j ≡ label q j)
    → rank (label p k) ≡ rank (label q k) → (j : ℕ) → ¬ IsTrue (set.contains (set.remove rest k) j) → label p j ≡ label q j
same_but p q rest k same here j out = elim (cases_eq j k) [
  | inl is ↦ ap (label p) is ∙ rank_one (label p k) (label q k) here ∙ sym (ap (label q) is)
  | inr other ↦ same j (λ in_. out (let less = contains-remove_nat rest k j in grind (arith, nat_tests)))
]
