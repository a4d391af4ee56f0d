-- The sources of a node's operands.
use Rattle.std.specs.Prelude.{◌≡◌, ℕ, ◌+◌, ◌<◌, ◌≤◌, List, [], ◌∷◌, ◌++◌, length, map, take, Option, Some, None, IsTrue}
use Rattle.std.specs.List.{list_any}
use Rattle.std.proofs.Common.{refl, sym, ap, ◌∙◌, arith, inl, inr, get_or, true≢false}
use Rattle.std.proofs.lemmas.Bool.{or_cases, eqb-true}
use Rattle.std.proofs.lemmas.List.{take_more, take_all, map-append}
use Rattle.std.proofs.lemmas.List.Elements.{filter-append}
use Rattle.ci_isa.specs.declared.instruction.Insn.{Insn}
use Rattle.ci_isa.specs.Effects.{operands, padded, is_kept, without_x0}
use Rattle.ci_cut.specs.declared.graph.Source.{Source}
use Rattle.ci_cut.specs.declared.graph.Source.TheVariants.{Entry, Made}
use Rattle.ci_cut.specs.FlowGraph.{is_source}
use Rattle.ci_isa.specs.Sequences.{nth_insn, latest_writer}
use Rattle.ci_isa.proofs.Registers.{without_padding}
use Rattle.ci_isa.proofs.LastWriter.{latest_writer_is_last}
use Rattle.ci_dfg.specs.BlockGraph.{source_from, source_of, sources}
use Rattle.ci_dfg.proofs.InstructionLaws.{insn_there}

module _ (insns : List Insn) (k : ℕ) where
  -- one operand more
  pub sources_more : (found : List Source) (registers : List ℕ) (i : ℕ) → i < length registers
      → found ≡ map (source_of insns k) (without_x0 (take i registers))
      → found ++ map (source_of insns k) (without_x0 (get_or registers i 0 ∷ [])) ≡ map (source_of insns k) (without_x0 (take (i + 1) registers))
  sources_more found registers i within is =
      ap (λ s. s ++ map (source_of insns k) (without_x0 (get_or registers i 0 ∷ []))) is
      ∙ sym (map-append (source_of insns k) (without_x0 (take i registers)) (without_x0 (get_or registers i 0 ∷ [])))
      ∙ ap (map (source_of insns k)) (sym (filter-append is_kept (take i registers) (get_or registers i 0 ∷ []))
      ∙ ap without_x0 (sym (take_more registers i 0 within)))

  -- all operands of the instruction that stands there
  pub sources_all : (found : List Source) (registers : List ℕ) (i : ℕ) (insn : Insn) → length registers ≤ i
      → found ≡ map (source_of insns k) (without_x0 (take i registers))
      → registers ≡ padded 4 (operands insn) → k < length insns → insn ≡ get_or insns k insn
      → found ≡ sources insns k
  sources_all found registers i insn all is same there read =
      is ∙ ap (λ s. map (source_of insns k) (without_x0 s)) (take_all i registers all)
      ∙ ap (map (source_of insns k)) (ap without_x0 same ∙ without_padding 4 (operands insn))
      ∙ ap (λ s. map (source_of insns k) (without_x0 (operands s))) (sym (insn_there insns k insn there read))

  -- a node that is a source is an earlier one
  made_rises : (j : ℕ) (registers : List ℕ) → IsTrue (list_any (is_source (Made j)) (map (source_of insns k) registers)) → j < k
  made_rises j [] found = absurd (true≢false (sym found))
  made_rises j (register ∷ rest) found =
      elim (or_cases (is_source (Made j) (source_of insns k register)) (list_any (is_source (Made j)) (map (source_of insns k) rest)) found) [
        | inl here ↦ by_writer (latest_writer insns register k) refl here
        | inr later ↦ made_rises j rest later
      ]
    where
      by_writer : (writer : Option ℕ) → latest_writer insns register k ≡ writer → IsTrue (is_source (Made j) (source_from insns register writer)) → j < k
      by_writer None is here = absurd (true≢false (sym here))
      by_writer (Some writer) is here =
          let below = ((latest_writer_is_last insns register k writer).0 is).before in
          omega (arith, eqb-true j writer here)

  pub sources_rise : (j : ℕ) → IsTrue (list_any (is_source (Made j)) (sources insns k)) → j < k
  sources_rise j = made_rises j (without_x0 (operands (nth_insn insns k)))

  -- what a source says of the last writer of its register
  pub entry_is : (q r : ℕ) → source_of insns k q ≡ Entry r → (latest_writer insns q k ≡ None) × (q ≡ r)
  entry_is q r is = by_writer (latest_writer insns q k) is
    where
      by_writer : (o : Option ℕ) → source_from insns q o ≡ Entry r → (o ≡ None) × (q ≡ r)
      by_writer None same = (refl, cc)
      by_writer (Some w) same = cc

  pub made_is : (q w : ℕ) → source_of insns k q ≡ Made w → latest_writer insns q k ≡ Some w
  made_is q w is = by_writer (latest_writer insns q k) is
    where
      by_writer : (o : Option ℕ) → source_from insns q o ≡ Made w → o ≡ Some w
      by_writer None same = cc
      by_writer (Some v) same = cc
