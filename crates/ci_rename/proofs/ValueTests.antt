-- What the tests of a value find.
use Rattle.std.specs.Prelude.{◌≡◌, ℕ, ◌<◌, ◌≤◌, ◌==◌, ◌&&◌, not, nat_le, true, false, List, length}
use Rattle.std.specs.List.{list_any}
use Rattle.std.proofs.Common.{refl, sym, ap, ◌∙◌, subst, arith, inl, inr, true≢false}
use Rattle.std.proofs.lemmas.Bool.{and_from, and_parts, cases_eq, eq-eqb, false_from_ne_true, le-leb, leb-true, ne_eqb, or_cases, or_left, or_right}
use Rattle.ci_isa.specs.declared.instruction.Insn.{Insn}
use Rattle.ci_isa.specs.declared.instruction.Insn.TheVariants.{Ecall}
use Rattle.ci_isa.specs.Effects.{is_kept, operands, reads_register, writes_register}
use Rattle.ci_isa.specs.Sequences.{nth_insn}
use Rattle.ci_isa.proofs.LastWriter.{latest_writer_is_last}
use Rattle.ci_isa.proofs.OperandLaws.{single_result}
use Rattle.ci_cut.specs.declared.graph.Source.TheVariants.{Made}
use Rattle.ci_cut.specs.FlowGraph.{is_source}
use Rattle.ci_dfg.specs.BlockGraph.{source_of, sources}
use Rattle.ci_dfg.proofs.ArcLaws.{found_among, found_from}
use Rattle.ci_dfg.proofs.SourceLaws.{made_is}
use Rattle.ci_rename.specs.Renaming.{IsTied, by_anti, by_output, reads_own}
use Rattle.ci_rename.specs.private.ValueTests.{IsUncalled, is_call, is_read_by_call, ties}
use Rattle.ci_rename.proofs.ReadValues.{made_source}

module _ (insns : List Insn) (i r : ℕ) where
  -- a node that ties the value is a reason,
  pub tied_by : (k : ℕ) → k < length insns → ties insns i r k ≡ true → IsTied insns i r
  tied_by k below is =
      elim (or_cases (nat_le k i && reads_register (nth_insn insns k) r) (not (k == i) && writes_register (nth_insn insns k) r) is) [
        | inl read ↦
            let parts = and_parts (nat_le k i) (reads_register (nth_insn insns k) r) read in
            elim (cases_eq k i) [
              | inl same ↦ reads_own (subst (λ n. reads_register (nth_insn insns n) r ≡ true) same parts.1)
              | inr other ↦ let most : k ≤ i = leb-true k i parts.0 in by_anti k (omega arith) parts.1
            ]
        | inr wrote ↦
            let parts = and_parts (not (k == i)) (writes_register (nth_insn insns k) r) wrote in
            by_output k below (λ same. true≢false (sym parts.0 ∙ ap not (eq-eqb k i same))) parts.1
      ]

  -- and there is one for each
  pub none_tied : i < length insns → ((k : ℕ) → k < length insns → ties insns i r k ≡ false) → ¬ IsTied insns i r
  none_tied within none (reads_own read) =
      true≢false (sym (or_left (nat_le i i && reads_register (nth_insn insns i) r) _ (and_from (nat_le i i) _ (le-leb i i (omega arith)) read)) ∙ none i within)
  none_tied within none (by_output k below other wrote) =
      true≢false (sym (or_right (nat_le k i && reads_register (nth_insn insns k) r) _
      (and_from (not (k == i)) _ (ap not (ne_eqb k i other)) wrote)) ∙ none k below)
  none_tied within none (by_anti k before read) =
      true≢false (sym (or_left (nat_le k i && reads_register (nth_insn insns k) r) _
      (and_from (nat_le k i) _ (le-leb k i (omega arith)) read)) ∙ none k (omega arith))

  -- a call is one
  call_is : (insn : Insn) → is_call insn ≡ true → insn ≡ Ecall
  call_is Ecall is = refl
  call_is insn is = cc

  pub called_by : (k : ℕ) → k < length insns → is_read_by_call insns i r k ≡ true → ¬ IsUncalled insns i
  called_by k below is uncalled =
      let (first, made) = and_parts (is_call (nth_insn insns k) && reads_register (nth_insn insns k) r) (is_source (Made i) (source_of insns k r)) is in
      let (calls, reads) = and_parts (is_call (nth_insn insns k)) (reads_register (nth_insn insns k) r) first in
      let parts = and_parts (is_kept r) (list_any (λ n. n == r) (operands (nth_insn insns k))) reads in
      true≢false (sym (found_among (is_source (Made i)) (source_of insns k) r (operands (nth_insn insns k)) made parts.0 parts.1)
      ∙ uncalled k below (call_is (nth_insn insns k) calls))

  pub none_called : writes_register (nth_insn insns i) r ≡ true → ((k : ℕ) → k < length insns → is_read_by_call insns i r k ≡ false) → IsUncalled insns i
  none_called wrote none k below calls = false_from_ne_true (list_any (is_source (Made i)) (sources insns k)) (λ is.
      let (q, kept, among, made) = found_from (is_source (Made i)) (source_of insns k) (operands (nth_insn insns k)) is in
      let last = (latest_writer_is_last insns q k i).0 (made_is insns k q i (made_source i _ made)) in
      let same : q ≡ r = sym (single_result (nth_insn insns i) q last.writes) ∙ single_result (nth_insn insns i) r wrote in
      let reads : reads_register (nth_insn insns k) q ≡ true = and_from (is_kept q) (list_any (λ n. n == q) (operands (nth_insn insns k))) kept among in
      true≢false (sym (subst (λ n. is_read_by_call insns i n k ≡ true) same
      (and_from (is_call (nth_insn insns k) && reads_register (nth_insn insns k) q) (is_source (Made i) (source_of insns k q))
      (and_from (is_call (nth_insn insns k)) (reads_register (nth_insn insns k) q) (ap is_call calls) reads) made)) ∙ none k below))
