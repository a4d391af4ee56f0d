-- Which nodes write a register.
use Rattle.std.specs.Prelude.{◌≡◌, ℕ, suc, ◌-◌, ◌<◌, true, false, ◌&&◌, nat_lt, if◌then◌else◌, List, length, Some, None, IsTrue}
use Rattle.std.proofs.Common.{refl, sym, ap, ◌∙◌, arith, true≢false, subst}
use Rattle.std.proofs.lemmas.Bool.{false_from_ne_true, and_parts, and_from, lt-ltb, ltb-true}
use Rattle.ci_word.proofs.NumberLaws.{some_below_iff}
use Rattle.ci_isa.specs.declared.instruction.Insn.{Insn}
use Rattle.ci_dfg.proofs.InstructionLaws.{insn_there}
use Rattle.ci_isa.specs.Effects.{writes_register}
use Rattle.ci_isa.specs.Sequences.{nth_insn, latest_writer}
use Rattle.ci_dfg.specs.BlockGraph.{is_written_after}

module _ (insns : List Insn) (register : ℕ) where
  -- before the first node there is none
  pub latest_writer-zero : latest_writer insns register 0 ≡ None
  unfolding latest_writer
  latest_writer-zero = refl

  -- one node more, which writes the register
  latest_writer_is : (k : ℕ) → writes_register (nth_insn insns k) register ≡ true → latest_writer insns register (suc k) ≡ Some k
  unfolding latest_writer
  latest_writer_is k writes = ap (λ b. if b then Some k else latest_writer insns register k) writes

  -- one node more, which does not
  latest_writer_stays : (k : ℕ) → writes_register (nth_insn insns k) register ≡ false → latest_writer insns register (suc k) ≡ latest_writer insns register k
  unfolding latest_writer
  latest_writer_stays k other = ap (λ b. if b then Some k else latest_writer insns register k) other

  -- the same of the node below k
  pub writer_below : (k : ℕ) → 0 < k → writes_register (nth_insn insns (k - 1)) register ≡ true → latest_writer insns register k ≡ Some (k - 1)
  writer_below k above writes =
      let next : suc (k - 1) ≡ k = omega arith in
      subst (λ n. latest_writer insns register n ≡ Some (k - 1)) next (latest_writer_is (k - 1) writes)

  pub no_writer_below : (k : ℕ) → 0 < k → writes_register (nth_insn insns (k - 1)) register ≡ false
      → latest_writer insns register k ≡ latest_writer insns register (k - 1)
  no_writer_below k above other =
      let next : suc (k - 1) ≡ k = omega arith in
      subst (λ n. latest_writer insns register n ≡ latest_writer insns register (k - 1)) next (latest_writer_stays (k - 1) other)

  -- ---- a writer behind k

  pub written_after : (k j : ℕ) → k < j → j < length insns → writes_register (nth_insn insns j) register ≡ true → is_written_after insns k register ≡ true
  written_after k j later there writes =
      (some_below_iff (length insns) (λ i. nat_lt k i && writes_register (nth_insn insns i) register)).1
      (j, there, and_from (nat_lt k j) (writes_register (nth_insn insns j) register) (lt-ltb k j later) writes)

  pub not_written_after : (k : ℕ) → ((j : ℕ) → k < j → j < length insns
      → writes_register (nth_insn insns j) register ≡ false) → is_written_after insns k register ≡ false
  not_written_after k none = false_from_ne_true _ absent
    where
      absent : IsTrue (is_written_after insns k register) → ⊥
      absent found =
          let at = (some_below_iff (length insns) (λ i. nat_lt k i && writes_register (nth_insn insns i) register)).0 found in
          let parts = and_parts (nat_lt k at.0) (writes_register (nth_insn insns at.0) register) at.2 in
          true≢false (sym parts.1 ∙ none at.0 (ltb-true k at.0 parts.0) at.1)

pub ruleset writers = (latest_writer-zero, writer_below, no_writer_below, insn_there)

pub ruleset later = (insn_there, written_after, not_written_after)
