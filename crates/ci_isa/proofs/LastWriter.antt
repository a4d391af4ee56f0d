-- The last instruction before a place that writes a register.
use Rattle.std.proofs.Common.{◌≡◌, ℕ, zero, suc, ◌≤◌, ◌<◌, Bool, true, false, List, Some, None, refl, sym, ap, ◌∙◌, subst, arith, inl, inr, true≢false}
use Rattle.std.specs.Prelude.{if◌then◌else◌}
use Rattle.std.proofs.lemmas.Bool.{cases_eq, false_from_ne_true}
use Rattle.ci_isa.specs.declared.instruction.Insn.{Insn}
use Rattle.ci_isa.specs.Effects.{writes_register}
use Rattle.ci_isa.specs.Sequences.{nth_insn, latest_writer, IsLastWriter}
use Rattle.ci_isa.specs.Laws.{LatestWriterIsLast}
use Rattle.ci_isa.proofs.LastPassing.{IsLast}

module _ (insns : List Insn) (r : ℕ) where
  abbrev pub written : ℕ → Bool
  written i = writes_register (nth_insn insns i) r

  -- ---- one place more

  last_here : (k : ℕ) → written k ≡ true → IsLastWriter insns r (suc k) k
  last_here k is = record { before = omega arith; writes = is; none_between = λ i behind below. absurd (omega arith) }

  last_before : (k j : ℕ) → written k ≡ false → IsLastWriter insns r k j → IsLastWriter insns r (suc k) j
  last_before k j is last = record {
    before = let before = last.before in omega arith;
    writes = last.writes;
    none_between = λ i behind below. elim (cases_eq i k) [
      | inl same ↦ ap written same ∙ is
      | inr other ↦ last.none_between i behind (omega arith)
    ];
  }

  -- ---- both ways

  is_last : (k j : ℕ) → latest_writer insns r k ≡ Some j → IsLastWriter insns r k j
  unfolding latest_writer
  is_last zero j e = cc
  is_last (suc k) j e = by_test (is_last k j) (written k) refl e
    where
      by_test : (latest_writer insns r k ≡ Some j → IsLastWriter insns r k j) → (b : Bool) → written k ≡ b
          → (if b then Some k else latest_writer insns r k) ≡ Some j → IsLastWriter insns r (suc k) j
      by_test earlier true is found = let same : k ≡ j = cc in subst (IsLastWriter insns r (suc k)) same (last_here k is)
      by_test earlier false is found = last_before k j is (earlier found)

  is_latest : (k j : ℕ) → IsLastWriter insns r k j → latest_writer insns r k ≡ Some j
  unfolding latest_writer
  is_latest zero j last = let before = last.before in absurd (omega arith)
  is_latest (suc k) j last = by_test (is_latest k j) (written k) refl
    where
      by_test : (IsLastWriter insns r k j → latest_writer insns r k ≡ Some j) → (b : Bool) → written k ≡ b
          → (if b then Some k else latest_writer insns r k) ≡ Some j
      by_test earlier b is =
          elim (cases_eq j k) [
            | inl same ↦ ap (λ b. if b then Some k else latest_writer insns r k) (sym is ∙ ap written (sym same) ∙ last.writes) ∙ ap Some (sym same)
            | inr other ↦
                let before = last.before in
                ap (λ b. if b then Some k else latest_writer insns r k) (sym is ∙ last.none_between k (omega arith) (omega arith))
                ∙ earlier (record { before = omega arith; writes = last.writes; none_between = λ i behind below. last.none_between i behind (omega arith) })
          ]

  -- where j writes the register, the last writer before a later place is j or behind it
  pub last_writer_from : (k j : ℕ) → j < k → written j ≡ true → (w : ℕ) × IsLastWriter insns r k w × (j ≤ w)
  last_writer_from zero j before writes = absurd (omega arith)
  last_writer_from (suc k) j before writes = by_test (last_writer_from k j) (written k) refl
    where
      by_test : (j < k → written j ≡ true → (w : ℕ) × IsLastWriter insns r k w × (j ≤ w)) → (b : Bool) → written k ≡ b
          → (w : ℕ) × IsLastWriter insns r (suc k) w × (j ≤ w)
      by_test earlier true is = (k, last_here k is, omega arith)
      by_test earlier false is =
          elim (cases_eq j k) [
            | inl same ↦ absurd (true≢false (sym writes ∙ ap written same ∙ is))
            | inr other ↦ let found = earlier (omega arith) writes in (found.0, last_before k found.0 is found.1, found.2)
          ]

  -- where none writes it, there is no last writer
  pub no_writer : (k : ℕ) → ((j : ℕ) → j < k → written j ≡ false) → latest_writer insns r k ≡ None
  unfolding latest_writer
  no_writer zero none = refl
  no_writer (suc k) none =
      ap (λ b. if b then Some k else latest_writer insns r k) (none k (omega arith)) ∙ no_writer k (λ j below. none j (omega arith))

pub latest_writer_is_last : LatestWriterIsLast
latest_writer_is_last insns r k j = (is_last insns r k j, is_latest insns r k j)

-- the last number before a place whose instruction writes the register
pub last_writer : {insns : List Insn} {r k w : ℕ} → IsLast (written insns r) k w → IsLastWriter insns r k w
last_writer last = record { before = last.below; writes = last.passes; none_between = last.none_behind }

-- where there is no last writer, none writes it
pub unwritten_before : (insns : List Insn) (r k : ℕ) → latest_writer insns r k ≡ None → (j : ℕ) → j < k → written insns r j ≡ false
unwritten_before insns r k none j below = false_from_ne_true (written insns r j) (λ writes.
    let found = last_writer_from insns r k j below writes in
    let never : Some found.0 ≡ None = sym ((latest_writer_is_last insns r k found.0).1 found.1) ∙ none in
    cc)
