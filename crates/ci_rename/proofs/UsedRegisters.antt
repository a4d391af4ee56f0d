-- The registers that the nodes of a block use, and those that are free.
use Rattle.std.specs.Prelude.{◌≡◌, ℕ, ◌+◌, ◌<◌, ◌||◌, Bool, true, false, List, length}
use Rattle.std.specs.Cmp.{nat_cmp_total}
use Rattle.std.specs.FinSet as finite
use Rattle.std.specs.Ordering.{nat_cmp}
use Rattle.std.proofs.Common.{refl, sym, ap, ◌∙◌, add-one, inl, inr, true≢false}
use Rattle.std.proofs.lemmas.Bool.{false_from_ne_true, or_left, or_right, or_cases}
use Rattle.ci_word.proofs.NumberLaws.{some_below-zero, some_below-suc, some_below_iff}
use Rattle.ci_isa.specs.declared.instruction.Insn.{Insn}
use Rattle.ci_isa.specs.Effects.{reads_register, writes_register}
use Rattle.ci_isa.specs.RegisterSets.{registers_read, registers_written}
use Rattle.ci_isa.specs.Sequences.{nth_insn}
use Rattle.ci_isa.proofs.Registers.{reads_register_is, writes_register_is}
use Rattle.ci_rename.specs.Renaming.{IsFree}
use Rattle.ci_rename.specs.private.ValueTests.{is_used}

or_over : (a b c : Bool) → ((a || b) || c) ≡ (a || (b || c))
or_over true b c = refl
or_over false b c = refl

module _ (insns : List Insn) where
  -- no node uses none
  pub none_used : (r : ℕ) → finite.contains {R = nat_cmp} finite.empty r ≡ is_used insns 0 r
  none_used r = finite.contains-empty nat_cmp r ∙ sym (some_below-zero (λ k. reads_register (nth_insn insns k) r || writes_register (nth_insn insns k) r))

  -- and one node more uses its own
  pub one_more_used : (used : finite.FinSet nat_cmp) (k : ℕ) (insn : Insn) → nth_insn insns k ≡ insn
      → ((r : ℕ) → finite.contains used r ≡ is_used insns k r)
      → (r : ℕ) → finite.contains (finite.union (finite.union used (registers_read insn)) (registers_written insn)) r ≡ is_used insns (k + 1) r
  one_more_used used k insn here so_far r =
      finite.contains-union nat_cmp_total (finite.union used (registers_read insn)) (registers_written insn) r
      ∙ ap (λ b. b || finite.contains (registers_written insn) r) (finite.contains-union nat_cmp_total used (registers_read insn) r)
      ∙ or_over (finite.contains used r) (finite.contains (registers_read insn) r) (finite.contains (registers_written insn) r)
      ∙ (λ i. so_far r i || (sym (reads_register_is insn r) i || sym (writes_register_is insn r) i))
      ∙ ap (λ insn. is_used insns k r || (reads_register insn r || writes_register insn r)) (sym here)
      ∙ sym (some_below-suc k (λ k. reads_register (nth_insn insns k) r || writes_register (nth_insn insns k) r))
      ∙ ap (λ n. is_used insns n r) (sym (add-one k))

  module _ (live_out : finite.FinSet nat_cmp) (r : ℕ) where
    -- a register that isn't used and isn't live is free,
    pub is_free_by : 0 < r → r < 32 → is_used insns (length insns) r ≡ false → finite.contains live_out r ≡ false → IsFree live_out insns r
    is_free_by kept named unused dead = record {
      kept = kept;
      named = named;
      unread = λ k below. false_from_ne_true (reads_register (nth_insn insns k) r) (λ reads.
          never k below (or_left (reads_register (nth_insn insns k) r) (writes_register (nth_insn insns k) r) reads));
      unwritten = λ k below. false_from_ne_true (writes_register (nth_insn insns k) r) (λ writes.
          never k below (or_right (reads_register (nth_insn insns k) r) (writes_register (nth_insn insns k) r) writes));
      dead = dead;
    }
      where
        never : (k : ℕ) → k < length insns → (reads_register (nth_insn insns k) r || writes_register (nth_insn insns k) r) ≡ true → ⊥
        never k below uses =
            true≢false (sym ((some_below_iff (length insns) (λ k. reads_register (nth_insn insns k) r || writes_register (nth_insn insns k) r)).1 (k, below, uses))
            ∙ unused)

    -- and a free one isn't used
    pub unused_by : IsFree live_out insns r → is_used insns (length insns) r ≡ false
    unused_by free = false_from_ne_true (is_used insns (length insns) r) (λ used.
        let found = (some_below_iff (length insns) (λ k. reads_register (nth_insn insns k) r || writes_register (nth_insn insns k) r)).0 used in
        elim (or_cases (reads_register (nth_insn insns found.0) r) (writes_register (nth_insn insns found.0) r) found.2) [
          | inl reads ↦ true≢false (sym reads ∙ free.unread found.0 found.1)
          | inr writes ↦ true≢false (sym writes ∙ free.unwritten found.0 found.1)
        ])
