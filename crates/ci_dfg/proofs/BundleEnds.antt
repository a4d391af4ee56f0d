-- Where bundles begin and end, and what that says of arcs.
use Rattle.std.specs.Prelude.{◌≡◌, ℕ, zero, suc, ◌-◌, ◌<◌, ◌≤◌, ◌↔◌, ◌⊎◌, Bool, true, false, ◌&&◌, nat_le, List, length, IsTrue}
use Rattle.std.proofs.Common.{refl, sym, ap, ◌∙◌, subst, arith, inl, inr, get_or, true≢false}
use Rattle.std.proofs.lemmas.Bool.{cases_eq, cases_lt, and_parts, and_from, le-leb, leb-true, false_from_ne_true}
use Rattle.ci_word.proofs.NumberLaws.{some_below_iff}
use Rattle.ci_isa.specs.declared.instruction.Insn.{Insn}
use Rattle.ci_dfg.specs.BlockGraph.{some_between, stay_together, is_joined, has_own_arc}
use Rattle.ci_dfg.specs.BundleArcs.{IsSpan, ComesFrom, LeadsTo}
use Rattle.ci_dfg.proofs.InstructionLaws.{insn_there}
use Rattle.ci_dfg.proofs.ArcLaws.{has_outer_arc, outer_there, outer_test}

-- ---- spans

module _ (joined : ℕ → Bool) where
  -- the first of a bundle is entered by what enters the nodes of it
  pub entered_by_bundle : (k last l : ℕ) → IsSpan joined k last → joined k ≡ false → joined (suc last) ≡ false
      → LeadsTo joined l k ↔ ((k ≤ l) × (l ≤ last))
  entered_by_bundle k last l whole begins ends = (
    there,
    λ (low, high). inr (record { rises = low; inside = λ n over under. whole.inside n over (omega arith) }, begins),
  )
    where
      there : LeadsTo joined l k → (k ≤ l) × (l ≤ last)
      there (inl same) = let rises = whole.rises in (omega arith, omega arith)
      there (inr (span, none)) = elim (cases_lt last l) [
        | inl above ↦ absurd (true≢false (sym (span.inside (suc last) (let rises = whole.rises in omega arith) above) ∙ ends))
        | inr most ↦ (span.rises, most)
      ]

-- ---- tests of a range

pub some_found : (first last n : ℕ) (p : ℕ → Bool) → first ≤ n → n ≤ last → p n ≡ true → some_between first last p ≡ true
some_found first last n p low high is =
    (some_below_iff (suc last) (λ i. nat_le first i && p i)).1 (n, omega arith, and_from (nat_le first n) (p n) (le-leb first n low) is)

pub some_there : (first last : ℕ) (p : ℕ → Bool) → some_between first last p ≡ true → (n : ℕ) × (first ≤ n) × (n ≤ last) × (p n ≡ true)
some_there first last p is =
    let (n, below, both) = (some_below_iff (suc last) (λ i. nat_le first i && p i)).0 is in
    let parts = and_parts (nat_le first n) (p n) both in
    (n, leb-true first n parts.0, omega arith, parts.1)

pub none_found : (first last : ℕ) (p : ℕ → Bool) → ((n : ℕ) → first ≤ n → n ≤ last → p n ≡ false) → some_between first last p ≡ false
none_found first last p none =
    false_from_ne_true (some_between first last p)
    (λ is. let (n, low, high, found) = some_there first last p is in true≢false (sym found ∙ none n low high))

-- two tests that follow from each other are one
pub same_test : (a b : Bool) → (a ≡ true → b ≡ true) → (b ≡ true → a ≡ true) → a ≡ b
same_test true b there back = sym (there refl)
same_test false true there back = back refl
same_test false false there back = refl

module _ (insns : List Insn) where
  -- ---- what is read of the words

  pub joined_there : (k : ℕ) (first second : Insn) → 0 < k → k < length insns
      → first ≡ get_or insns (k - 1) first → second ≡ get_or insns k second → stay_together first second ≡ is_joined insns k
  joined_there zero first second above there is_first is_second = absurd (omega arith)
  joined_there (suc k) first second above there is_first is_second =
      let before : suc k - 1 ≡ k = omega arith in
      λ i. stay_together (sym (insn_there insns k first (omega arith) (is_first ∙ ap (λ n. get_or insns n first) before)) i)
      (sym (insn_there insns (suc k) second there is_second) i)

  -- ---- arcs that bundles carry

  module _ (first j k last : ℕ)
      (left : (i : ℕ) → ComesFrom (is_joined insns) i j ↔ ((first ≤ i) × (i ≤ j)))
      (entered : (l : ℕ) → LeadsTo (is_joined insns) l k ↔ ((k ≤ l) × (l ≤ last))) where
    abbrev to_some : ℕ → Bool
    to_some i = some_between k last (λ l. has_own_arc insns l i)

    pub outer_among : some_between first j to_some ≡ has_outer_arc insns k j
    outer_among = same_test (some_between first j to_some) (has_outer_arc insns k j)
        (λ is.
        let (i, low, high, found) = some_there first j to_some is in
        let (l, from, to, arc) = some_there k last (λ l. has_own_arc insns l i) found in
        outer_test insns j k (i, l, (left i).1 (low, high), (entered l).1 (from, to), arc))
        (λ is.
        let (i, l, comes, leads, arc) = outer_there insns j k is in
        let (low, high) = (left i).0 comes in
        let (from, to) = (entered l).0 leads in
        some_found first j i to_some low high (some_found k last l (λ n. has_own_arc insns n i) from to arc))

    pub outer_alone : first ≡ j → last ≡ k → has_own_arc insns k j ≡ has_outer_arc insns k j
    outer_alone same_first same_last = same_test (has_own_arc insns k j) (has_outer_arc insns k j)
        (λ arc. outer_test insns j k (j, k, inl refl, inl refl, arc))
        (λ is.
        let (i, l, comes, leads, arc) = outer_there insns j k is in
        let (low, high) = (left i).0 comes in
        let (from, to) = (entered l).0 leads in
        let i_is : i ≡ j = omega arith in
        let l_is : l ≡ k = omega arith in
        subst (λ n. IsTrue (has_own_arc insns k n)) i_is (subst (λ n. IsTrue (has_own_arc insns n i)) l_is arc))
