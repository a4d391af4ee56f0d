-- What holds of each two elements holds of them in another order.
use Rattle.std.proofs.Common.{◌≡◌, ◌≢◌, ℕ, ◌<◌, ◌⊎◌, inl, inr, List, length, get_or, set, refl, sym, ◌∙◌, ap, arith}
use Rattle.std.proofs.Common.{length-set, get_or-set_other, get_or-set_same}
use Rattle.std.specs.List.{AllPairs, swap}
use Rattle.std.specs.List.Sorted.{IsPermutation}
use Rattle.std.proofs.lemmas.Bool.{cases_lt, cases_eq}
use Rattle.std.proofs.lemmas.List.Edits.{swap_is, length-swap}
use Rattle.std.proofs.lemmas.List.Sorted.{IsPermutation-keeps}

-- where the element at p stood before the swap of i and j
record StoodAt (i j p q : ℕ) : Type 0 where
  case : ((p ≡ i) × (q ≡ j)) ⊎ (((p ≢ i) × (p ≡ j) × (q ≡ i)) ⊎ ((p ≢ i) × (p ≢ j) × (q ≡ p)))

module _ {X : Type 0} (R : X → X → Type 0) (symmetric : (x y : X) → R x y → R y x) where
  module _ (xs : List X) (i j : ℕ) (in_i : i < length xs) (in_j : j < length xs) where
    stood : (p : ℕ) (d : X) → p < length xs → (q : ℕ) × (q < length xs) × StoodAt i j p q × (get_or (swap xs i j) p d ≡ get_or xs q d)
    stood p d h = elim (cases_eq p j) [
      | inl s ↦
          let low : j < length (set xs i (get_or xs j d)) = rw (length-set) in_j in
          let reads : get_or (swap xs i j) p d ≡ get_or xs i d =
          rw (s, ← swap_is xs i j d in_i in_j) (get_or-set_same (set xs i (get_or xs j d)) j (get_or xs i d) d low) in
          elim (cases_eq p i) [
            | inl t ↦ (j, in_j, record { case = inl (t, refl) }, reads ∙ ap (λ n. get_or xs n d) (sym t ∙ s))
            | inr t ↦ (i, in_i, record { case = inr (inl (t, s, refl)) }, reads)
          ]
      | inr s ↦ elim (cases_eq p i) [
        | inl t ↦
            let reads : get_or (swap xs i j) p d ≡ get_or xs j d =
            rw (← swap_is xs i j d in_i in_j, get_or-set_other (set xs i (get_or xs j d)) j p (get_or xs i d) d s, t)
            (get_or-set_same xs i (get_or xs j d) d in_i) in
            (j, in_j, record { case = inl (t, refl) }, reads)
        | inr t ↦
            let reads : get_or (swap xs i j) p d ≡ get_or xs p d =
            rw (← swap_is xs i j d in_i in_j, get_or-set_other (set xs i (get_or xs j d)) j p (get_or xs i d) d s)
            (get_or-set_other xs i p (get_or xs j d) d t) in
            (p, h, record { case = inr (inr (t, s, refl)) }, reads)
      ]
    ]

    apart_places : (p q p' q' : ℕ) → p < q → StoodAt i j p p' → StoodAt i j q q' → p' ≢ q'
    apart_places p q p' q' h a b same = elim a.case [
      | inl k ↦ elim b.case [ inl l ↦ omega arith | inr l ↦ elim l [ inl m ↦ omega arith | inr m ↦ omega arith ] ]
      | inr k ↦ elim k [
        | inl n ↦ elim b.case [ inl l ↦ omega arith | inr l ↦ elim l [ inl m ↦ omega arith | inr m ↦ omega arith ] ]
        | inr n ↦ elim b.case [ inl l ↦ omega arith | inr l ↦ elim l [ inl m ↦ omega arith | inr m ↦ omega arith ] ]
      ]
    ]

    pairs_swapped : AllPairs R xs → AllPairs R (swap xs i j)
    pairs_swapped all p q d h l =
        let low : q < length xs = rw length-swap at l in
        let first = stood p d (omega arith) in
        let second = stood q d low in
        rw (first.3, second.3) (elim (cases_lt first.0 second.0) [
          | inl m ↦ all first.0 second.0 d m second.1
          | inr m ↦
              let other : second.0 < first.0 = omega (arith, apart_places p q first.0 second.0 h first.2 second.2) in
              symmetric _ _ (all second.0 first.0 d other first.1)
        ])

  pub pairs_permuted : (xs ys : List X) → IsPermutation xs ys → AllPairs R xs → AllPairs R ys
  pairs_permuted xs ys moved all = IsPermutation-keeps xs (AllPairs R) all (λ l i j a b p. pairs_swapped l i j a b p) ys moved
