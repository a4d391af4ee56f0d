-- Rows that a loop fills with the numbers that pass a test, from the first number to the last.
use Rattle.std.proofs.Common.{◌≡◌, ℕ, ◌+◌, ◌<◌, Bool, true, false, not, ◌&&◌, ◌||◌, nat_lt, nat_eq, inl, inr, IsTrue, List, length}
use Rattle.std.proofs.Common.{get_or-set_other, get_or-set_same, refl, sym, ap, ◌∙◌, arith, eq-eqb, eqb-true}
use Rattle.std.proofs.Math.ListN.{set as list_set}
use Rattle.std.proofs.lemmas.Bool.{cases_Bool, cases_eq, cases_order, lt-ltb, le-ltb, ne_eqb, and_from, and_parts, and_right}
use Rattle.std.specs.Ordering.{nat_cmp}
use Rattle.std.specs.FinSet as set
use Rattle.ci_word.proofs.NumberLaws.{contains-insert_nat, contains-remove_nat}
use Rattle.ci_cut.specs.Representation.{row_at}
use Rattle.ci_cut.specs.private.AddedRows.{AreAdded}
use Rattle.ci_cut.proofs.PrefixLaws.{same_test}

module _ (test : ℕ → Bool) where
  pub filled_none : (row : set.FinSet nat_cmp) → row ≡ set.empty → (j : ℕ) → set.contains row j ≡ (nat_lt j 0 && test j)
  filled_none row is j =
      ap (λ s. set.contains s j) is ∙ set.contains-empty nat_cmp j
      ∙ sym (ap (λ b. b && test j) (le-ltb j 0 (omega arith)))

  module _ (row : set.FinSet nat_cmp) (k j : ℕ) (before : set.contains row j ≡ (nat_lt j k && test j)) where
    pub filled_in : IsTrue (test k) → set.contains (set.insert row k) j ≡ (nat_lt j (k + 1) && test j)
    filled_in here = elim (cases_order j k) [
      | inl same ↦
          contains-insert_nat row k j
          ∙ ap (λ b. b || set.contains row j) (eq-eqb j k same)
          ∙ sym (and_from (nat_lt j (k + 1)) (test j) (lt-ltb j (k + 1) (omega arith)) (ap test same ∙ here))
      | inr (inl below) ↦
          contains-insert_nat row k j
          ∙ ap (λ b. b || set.contains row j) (ne_eqb j k (λ e. omega arith))
          ∙ before
          ∙ ap (λ b. b && test j) (lt-ltb j k below ∙ sym (lt-ltb j (k + 1) (omega arith)))
      | inr (inr above) ↦
          contains-insert_nat row k j
          ∙ ap (λ b. b || set.contains row j) (ne_eqb j k (λ e. omega arith))
          ∙ before
          ∙ ap (λ b. b && test j) (le-ltb j k (omega arith) ∙ sym (le-ltb j (k + 1) (omega arith)))
    ]

    pub filled_out : test k ≡ false → set.contains row j ≡ (nat_lt j (k + 1) && test j)
    filled_out here = elim (cases_order j k) [
      | inl same ↦ before ∙ and_right (nat_lt j k) (test j) (ap test same ∙ here)
          ∙ sym (and_right (nat_lt j (k + 1)) (test j) (ap test same ∙ here))
      | inr (inl below) ↦ before ∙ ap (λ b. b && test j) (lt-ltb j k below ∙ sym (lt-ltb j (k + 1) (omega arith)))
      | inr (inr above) ↦ before ∙ ap (λ b. b && test j) (le-ltb j k (omega arith) ∙ sym (le-ltb j (k + 1) (omega arith)))
    ]

  -- once no number that passes lies at the end or behind it, the row has all that pass
  pub filled_all : (end : ℕ) → ((j : ℕ) → IsTrue (test j) → j < end) → (row : set.FinSet nat_cmp)
      → ((j : ℕ) → set.contains row j ≡ (nat_lt j end && test j)) → (j : ℕ) → set.contains row j ≡ test j
  filled_all end below row filled j =
      filled j
      ∙ same_test (nat_lt j end && test j) (test j)
      (λ both. (and_parts _ _ both).1)
      (λ passes. and_from (nat_lt j end) (test j) (lt-ltb j end (below j passes)) passes)

-- ---- rows beside each other, each with a test of its own

-- the first rows, so many, have the numbers below k that pass
abbrev pub AreFilled : (ℕ → ℕ → Bool) → ℕ → List (set.FinSet nat_cmp) → ℕ → Type 0
AreFilled test size rows k = (j m : ℕ) → j < size → set.contains (row_at rows j) m ≡ (nat_lt m k && test j m)

pub all_filled_none : (test : ℕ → ℕ → Bool) (size : ℕ) (rows : List (set.FinSet nat_cmp))
    → ((j : ℕ) → j < size → row_at rows j ≡ set.empty) → AreFilled test size rows 0
all_filled_none test size rows cleared j m below = filled_none (test j) (row_at rows j) (cleared j below) m

-- with the next number in the rows whose tests it passes
pub all_filled_more : (test : ℕ → ℕ → Bool) (size : ℕ) (before after : List (set.FinSet nat_cmp)) (places : ℕ → Bool) (k : ℕ)
    → ((j : ℕ) → places j ≡ test j k) → AreAdded before after places (λ m. nat_eq m k)
    → AreFilled test size before k → AreFilled test size after (k + 1)
all_filled_more test size before after places k here more so_far j m below =
    let old = set.contains (row_at before j) m in
    more j m ∙ ap (λ b. (b && nat_eq m k) || old) (here j) ∙ elim (cases_Bool (test j k)) [
      | inl passes ↦
          ap (λ b. (b && nat_eq m k) || old) passes
          ∙ sym (contains-insert_nat (row_at before j) k m)
          ∙ filled_in (test j) (row_at before j) k m (so_far j m below) passes
      | inr fails ↦
          ap (λ b. (b && nat_eq m k) || old) fails
          ∙ filled_out (test j) (row_at before j) k m (so_far j m below) fails
    ]

-- ---- numbers that are put into some of the rows, one place after the other

pub added_here : (rows : List (set.FinSet nat_cmp)) (place : ℕ) (row new : set.FinSet nat_cmp) (number : ℕ) → place < length rows → row_at rows place ≡ row
    → new ≡ set.insert row number → AreAdded rows (list_set rows place new) (λ j. nat_eq j place) (λ k. nat_eq k number)
added_here rows place row new number room is more j k = elim (cases_eq j place) [
  | inl same ↦
      ap (λ (i : ℕ). set.contains (row_at (list_set rows place new) i) k) same
      ∙ ap (λ s. set.contains s k) (get_or-set_same rows place new set.empty room ∙ more)
      ∙ contains-insert_nat row number k
      ∙ (λ i. (sym (eq-eqb j place same) i && nat_eq k number) || set.contains (sym is i) k)
      ∙ ap (λ (i : ℕ). (nat_eq j place && nat_eq k number) || set.contains (row_at rows i) k) (sym same)
  | inr other ↦
      ap (λ s. set.contains s k) (get_or-set_other rows place j new set.empty other)
      ∙ ap (λ b. (b && nat_eq k number) || set.contains (row_at rows j) k) (sym (ne_eqb j place other))
]

-- once they are in the rows at the rest of the places too, they are in the rows at all
abbrev pub AreAddedBut : List (set.FinSet nat_cmp) → List (set.FinSet nat_cmp) → set.FinSet nat_cmp → (ℕ → Bool) → (ℕ → Bool) → Type 0
AreAddedBut before rows rest places numbers =
    (j m : ℕ) → ((set.contains rest j && numbers m) || set.contains (row_at rows j) m)
    ≡ ((places j && numbers m) || set.contains (row_at before j) m)

pub one_added : (before rows after : List (set.FinSet nat_cmp)) (rest : set.FinSet nat_cmp) (place : ℕ) (places numbers : ℕ → Bool)
    → IsTrue (set.contains rest place) → AreAdded rows after (λ j. nat_eq j place) numbers
    → AreAddedBut before rows rest places numbers → AreAddedBut before after (set.remove rest place) places numbers
one_added before rows after rest place places numbers among more so_far j m =
    (λ i. (contains-remove_nat rest place j i && numbers m) || more j m i)
    ∙ passed (nat_eq j place) (set.contains rest j) (numbers m) (set.contains (row_at rows j) m)
    (λ same. ap (set.contains rest) (eqb-true j place same) ∙ among)
    ∙ so_far j m
  where
    passed : (s r e o : Bool) → (IsTrue s → IsTrue r) → (((not s && r) && e) || ((s && e) || o)) ≡ ((r && e) || o)
    passed true r e o within = ap (λ b. (b && e) || o) (sym (within refl))
    passed false r e o within = refl

pub all_added : (before rows : List (set.FinSet nat_cmp)) (rest : set.FinSet nat_cmp) (places numbers : ℕ → Bool)
    → rest ≡ set.empty → AreAddedBut before rows rest places numbers → AreAdded before rows places numbers
all_added before rows rest places numbers none so_far j m =
    ap (λ b. (b && numbers m) || set.contains (row_at rows j) m) (sym (ap (λ s. set.contains s j) none ∙ set.contains-empty nat_cmp j))
    ∙ so_far j m
