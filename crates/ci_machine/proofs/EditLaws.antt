-- What stands in a list after an element was put in or taken out, for what holds of each element or of each two.
use Rattle.std.proofs.Common.{◌≡◌, ◌≢◌, ℕ, ◌+◌, ◌-◌, ◌<◌, ◌≤◌, List, length, get_or, sym, subst, inl, inr, arith}
use Rattle.std.specs.List.{insert, remove}
use Rattle.std.proofs.lemmas.Bool.{cases_eq, cases_lt}
use Rattle.std.proofs.lemmas.List.Edits.{length-insert, get_or-insert_below, get_or-insert_at, get_or-insert_above}
use Rattle.std.proofs.lemmas.List.Edits.{length-remove, get_or-remove_below, get_or-remove_above}

module _ {X : Type 0} (xs : List X) (at : ℕ) (y d : X) (within : at ≤ length xs) where
  -- each element is an old one or the new one
  inserted : (Q : X → Type 0) (i : ℕ) → (i < at → Q (get_or xs i d)) → (i ≡ at → Q y) → (at < i → Q (get_or xs (i - 1) d))
      → Q (get_or (insert xs at y) i d)
  inserted Q i below here above = elim (cases_lt i at) [
    | inl lt ↦ subst Q (sym (get_or-insert_below xs at y d i lt within)) (below lt)
    | inr from ↦ elim (cases_eq i at) [
      | inl same ↦
          let P : ℕ → Type 0 = λ k. Q (get_or (insert xs at y) k d) in
          subst P (sym same) (subst Q (sym (get_or-insert_at xs at y d within)) (here same))
      | inr apart ↦
          let back : i - 1 + 1 ≡ i = omega arith in
          let P : ℕ → Type 0 = λ k. Q (get_or (insert xs at y) k d) in
          subst P back
          (subst Q (sym (get_or-insert_above xs at y d (i - 1) (omega arith) within)) (above (omega arith)))
    ]
  ]

  pub insert_each : (Q : X → Type 0) → ((i : ℕ) → i < length xs → Q (get_or xs i d)) → Q y
      → (i : ℕ) → i < length (insert xs at y) → Q (get_or (insert xs at y) i d)
  insert_each Q each new i lt =
      let long = length-insert xs at y within in
      inserted Q i (λ below. each i (omega arith)) (λ same. new) (λ above. each (i - 1) (omega arith))

  pub insert_pairs : (Q : X → X → Type 0) → ((i j : ℕ) → i < j → j < length xs → Q (get_or xs i d) (get_or xs j d))
      → ((i : ℕ) → i < at → Q (get_or xs i d) y) → ((j : ℕ) → at ≤ j → j < length xs → Q y (get_or xs j d))
      → (i j : ℕ) → i < j → j < length (insert xs at y) → Q (get_or (insert xs at y) i d) (get_or (insert xs at y) j d)
  insert_pairs Q old before behind i j lt end =
      let long = length-insert xs at y within in
      inserted (λ x. Q x (get_or (insert xs at y) j d)) i
      (λ below. inserted (Q (get_or xs i d)) j (λ b. old i j lt (omega arith)) (λ h. before i below) (λ a. old i (j - 1) (omega arith) (omega arith)))
      (λ same. inserted (Q y) j (λ b. absurd (omega arith)) (λ h. absurd (omega arith)) (λ a. behind (j - 1) (omega arith) (omega arith)))
      (λ above. inserted (Q (get_or xs (i - 1) d)) j (λ b. absurd (omega arith)) (λ h. absurd (omega arith))
      (λ a. old (i - 1) (j - 1) (omega arith) (omega arith)))

module _ {X : Type 0} (xs : List X) (at : ℕ) (d : X) (within : at < length xs) where
  -- each element is an old one of another place
  removed : (Q : X → Type 0) (i : ℕ) → (i < at → Q (get_or xs i d)) → (at ≤ i → Q (get_or xs (i + 1) d))
      → Q (get_or (remove xs at) i d)
  removed Q i below above = elim (cases_lt i at) [
    | inl lt ↦ subst Q (sym (get_or-remove_below xs at d i lt within)) (below lt)
    | inr from ↦ subst Q (sym (get_or-remove_above xs at d i from within)) (above from)
  ]

  pub remove_each : (Q : X → Type 0) → ((i : ℕ) → i < length xs → i ≢ at → Q (get_or xs i d))
      → (i : ℕ) → i < length (remove xs at) → Q (get_or (remove xs at) i d)
  remove_each Q each i lt =
      let long = length-remove xs at within in
      removed Q i (λ below. each i (omega arith) (λ same. omega arith)) (λ above. each (i + 1) (omega arith) (λ same. omega arith))

  pub remove_pairs : (Q : X → X → Type 0) → ((i j : ℕ) → i < j → j < length xs → Q (get_or xs i d) (get_or xs j d))
      → (i j : ℕ) → i < j → j < length (remove xs at) → Q (get_or (remove xs at) i d) (get_or (remove xs at) j d)
  remove_pairs Q old i j lt end =
      let long = length-remove xs at within in
      removed (λ x. Q x (get_or (remove xs at) j d)) i
      (λ below. removed (Q (get_or xs i d)) j (λ b. old i j lt (omega arith)) (λ a. old i (j + 1) (omega arith) (omega arith)))
      (λ above. removed (Q (get_or xs (i + 1) d)) j (λ b. absurd (omega arith)) (λ a. old (i + 1) (j + 1) (omega arith) (omega arith)))
