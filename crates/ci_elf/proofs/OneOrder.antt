-- Two lists that ascend by a key and have the same members are one.
use Rattle.std.proofs.Common.{◌≡◌, ℕ, zero, suc, ◌<◌, ◌⊎◌, inl, inr, List, [], ◌∷◌, refl, sym, ◌∙◌, ap, subst, arith}
use Rattle.std.specs.List.{AllPairs, Contains}
use Rattle.std.proofs.lemmas.List.Elements.{Contains-append_right}

module _ {A : Type 0} (key : A → ℕ) where
  abbrev pub Ascends : List A → Type 0
  Ascends xs = AllPairs (λ a b. key a < key b) xs

  first_or_later : (x : A) (xs : List A) (a : A) → Contains (x ∷ xs) a → (x ≡ a) ⊎ Contains xs a
  first_or_later x xs a (zero, h, is) = inl is
  first_or_later x xs a (suc k, h, is) = inr (k, omega arith, is)

  first : (x : A) (xs : List A) → Contains (x ∷ xs) x
  first x xs = (0, omega arith, refl)

  module _ (x : A) (xs : List A) (rises : Ascends (x ∷ xs)) where
    above_first : (a : A) → Contains xs a → key x < key a
    above_first a c = subst (λ y. key x < key y) c.2 (rises 0 (suc c.0) a (omega arith) (omega (arith, c.1)))

    rest_rises : Ascends xs
    rest_rises i j d h l = rises (suc i) (suc j) d (omega arith) (omega arith)

  module _ (x y : A) (xs ys : List A) (xs_rise : Ascends (x ∷ xs)) (ys_rise : Ascends (y ∷ ys)) where
    same_first : Contains (y ∷ ys) x → Contains (x ∷ xs) y → x ≡ y
    same_first to from = elim (first_or_later y ys x to) [
      | inl e ↦ sym e
      | inr c ↦ elim (first_or_later x xs y from) [
        | inl e ↦ e
        | inr d ↦ absurd (omega (arith, above_first y ys ys_rise x c, above_first x xs xs_rise y d))
      ]
    ]

    -- what stands behind the first element of one list stands behind that of the other
    in_rest : x ≡ y → (a : A) → Contains (y ∷ ys) a → Contains xs a → Contains ys a
    in_rest same a to c = elim (first_or_later y ys a to) [
      | inl e ↦ absurd (omega (arith, ap key (same ∙ e), above_first x xs xs_rise a c))
      | inr d ↦ d
    ]

  pub ascending_is_one :
      (xs ys : List A) → Ascends xs → Ascends ys → ((a : A) → Contains xs a → Contains ys a)
      → ((a : A) → Contains ys a → Contains xs a) → xs ≡ ys
  ascending_is_one [] [] xs_rise ys_rise to from = refl
  ascending_is_one [] (y ∷ ys) xs_rise ys_rise to from =
      let c = from y (first y ys) in absurd (omega (arith, c.1))
  ascending_is_one (x ∷ xs) [] xs_rise ys_rise to from =
      let c = to x (first x xs) in absurd (omega (arith, c.1))
  ascending_is_one (x ∷ xs) (y ∷ ys) xs_rise ys_rise to from =
      let heads = same_first x y xs ys xs_rise ys_rise (to x (first x xs)) (from y (first y ys)) in
      let tails =
      ascending_is_one xs ys (rest_rises x xs xs_rise) (rest_rises y ys ys_rise)
      (λ a c. in_rest x y xs ys xs_rise ys_rise heads a (to a (Contains-append_right (x ∷ []) xs a c)) c)
      (λ a c. in_rest y x ys xs ys_rise xs_rise (sym heads) a (from a (Contains-append_right (y ∷ []) ys a c)) c) in
      λ i. heads i ∷ tails i
