-- The unit of a cut gives one triple of the inputs that it has, whatever stands behind them.
use Rattle.std.specs.Prelude.{◌≡◌, ℕ, zero, suc, ◌<◌, Bool, true, false, not, ◌==◌, if◌then◌else◌, List, length, map, slice_index}
use Rattle.std.specs.FinSet as finite
use Rattle.std.specs.List.{list_any}
use Rattle.std.specs.Ordering.{nat_cmp}
use Rattle.std.proofs.Common.{refl, sym, ap, ◌∙◌, subst, arith, inl, inr, get_or}
use Rattle.std.proofs.lemmas.Bool.{cases_Bool, and_parts, eq-eqb}
use Rattle.std.proofs.lemmas.List.{get_or-map, length-map, same_lists}
use Rattle.std.proofs.lemmas.List.Folds.{list_any_at}
use Rattle.ci_word.specs.Arithmetic.{operation, word_of}
use Rattle.ci_word.specs.Numbers.{count_below}
use Rattle.ci_word.proofs.NumberLaws.{length-numbers_below}
use Rattle.ci_isa.specs.declared.instruction.Insn.{Insn}
use Rattle.ci_isa.specs.declared.instruction.Insn.TheVariants.{Alu, AluImm, Lui}
use Rattle.ci_isa.specs.Effects.{operands, is_kept, padded}
use Rattle.ci_isa.specs.Sequences.{nth_insn}
use Rattle.ci_isa.proofs.LastWriter.{latest_writer_is_last}
use Rattle.ci_lat.specs.Latencies.{Latencies}
use Rattle.ci_cut.specs.declared.graph.Source.{Source}
use Rattle.ci_cut.specs.declared.graph.Source.TheVariants.{Entry}
use Rattle.ci_cut.specs.declared.graph.Source.TheVariants.{Made}
use Rattle.ci_cut.specs.FlowGraph.{FlowGraph, node_at, is_source}
use Rattle.ci_cut.specs.Ports.{is_outside, is_output}
use Rattle.ci_dfg.specs.BlockGraph.{source_of, graph_of}
use Rattle.ci_unit.specs.declared.operations.Arg.{Arg}
use Rattle.ci_unit.specs.declared.operations.Arg.TheVariants.{Input}
use Rattle.ci_unit.specs.declared.operations.Arg.TheVariants.{Earlier}
use Rattle.ci_unit.specs.declared.operations.Arg.TheVariants.{Constant}
use Rattle.ci_unit.specs.Units as terms
use Rattle.ci_dfg.proofs.ArcLaws.{found_among}
use Rattle.ci_dfg.proofs.BlockIsGraph.{node_at_within}
use Rattle.ci_unit.proofs.CountLaws.{number_there, passes_there}
use Rattle.ci_unit.proofs.InputLaws.{has_input}
use Rattle.ci_cut.proofs.RisingCounts.{count_below-more}
use Rattle.ci_dfg.proofs.SourceLaws.{made_is}
use Rattle.ci_unit.proofs.UnitLaws.{arg_in, args_are}
use Rattle.ci_unit.proofs.SourceLaws.{is_source-itself, place_within}
use Rattle.ci_unit.proofs.ValueLaws.{AreResults, results_of_value}

module _ (insns : List Insn) (live_out : finite.FinSet nat_cmp) (table : Latencies) (cut : ℕ → Bool)
    (there : (k : ℕ) → cut k ≡ true → k < length insns) (ins others : List ℕ) where
  abbrev graph : FlowGraph
  graph = graph_of insns live_out table

  abbrev inputs : List Source
  inputs = terms.inputs_of insns graph cut

  abbrev unit : terms.Unit
  unit = terms.unit_of insns graph cut

  abbrev outs : List ℕ
  outs = terms.outputs_of insns graph cut

  among_inputs : (k : ℕ) (member : cut k ≡ true) (r : ℕ) → is_kept r ≡ true → list_any (λ q. q == r) (operands (nth_insn insns k)) ≡ true
      → (s : Source) → source_of insns k r ≡ s → is_outside cut s ≡ true → list_any (is_source s) inputs ≡ true
  among_inputs k member r kept among s same =
      has_input insns graph cut k s (there k member) member
      (ap (λ node. list_any (is_source s) node.sources) (node_at_within insns live_out table k (there k member))
      ∙ found_among (is_source s) (source_of insns k) r (operands (nth_insn insns k)) (ap (is_source s) same ∙ is_source-itself s) kept among)

  module _ (agree : (i : ℕ) → i < length inputs → slice_index ins i ≡ slice_index others i) (left right : List ℕ)
      (left_are : AreResults unit ins left (length unit.ops)) (right_are : AreResults unit others right (length unit.ops)) where
    abbrev IsSame : ℕ → Type 0
    IsSame m = slice_index left (count_below m cut) ≡ slice_index right (count_below m cut)

    abbrev AreSame : Arg → Type 0
    AreSame arg = terms.arg_value ins left arg ≡ terms.arg_value others right arg

    module _ (k : ℕ) (member : cut k ≡ true) (before : (m : ℕ) → m < k → cut m ≡ true → IsSame m) where
      abbrev Chosen : ℕ → Bool → Type 0
      Chosen w b = AreSame (if b then Earlier (count_below w cut) else Input (terms.place_in inputs (Made w)))

      source_same : (r : ℕ) → is_kept r ≡ true → list_any (λ q. q == r) (operands (nth_insn insns k)) ≡ true
          → (s : Source) → source_of insns k r ≡ s → AreSame (terms.arg_from cut inputs s)
      source_same r kept among (Entry q) is =
          agree (terms.place_in inputs (Entry q)) (place_within (Entry q) inputs (among_inputs k member r kept among (Entry q) is refl))
      source_same r kept among (Made w) is = elim (cases_Bool (cut w)) [
        | inl inside ↦
            subst (Chosen w) (sym inside)
            (before w ((latest_writer_is_last insns r k w).0 (made_is insns k r w is)).before inside)
        | inr out ↦
            subst (Chosen w) (sym out)
            (agree (terms.place_in inputs (Made w)) (place_within (Made w) inputs (among_inputs k member r kept among (Made w) is (ap not out))))
      ]

      operand_same : (r : ℕ) → list_any (λ q. q == r) (operands (nth_insn insns k)) ≡ true → AreSame (arg_in cut inputs (source_of insns k) r)
      operand_same r among = by_zero (r == 0) refl
        where
          by_zero : (b : Bool) → (r == 0) ≡ b → AreSame (if b then Constant 0 else terms.arg_from cut inputs (source_of insns k r))
          by_zero true is = refl
          by_zero false is = source_same r (ap not is) among (source_of insns k r) refl

      abbrev args : List Arg
      args = terms.args_from cut inputs (operands (nth_insn insns k)) (node_at graph k).sources

      arg_same : (i : ℕ) → i < length (operands (nth_insn insns k)) → AreSame (terms.arg_at args i)
      arg_same i below =
          let registers : List ℕ = operands (nth_insn insns k) in
          subst AreSame (sym
          (ap (λ l. terms.arg_at l i)
          (ap (λ node. terms.args_from cut inputs registers node.sources) (node_at_within insns live_out table k (there k member))
          ∙ args_are cut inputs (source_of insns k) registers)
          ∙ get_or-map (arg_in cut inputs (source_of insns k)) registers i 0 (Constant 0) below))
          (operand_same (slice_index registers i)
          (list_any_at (λ q. q == slice_index registers i) registers i 0 below (eq-eqb (slice_index registers i) (slice_index registers i) refl)))

    op_same : (insn : Insn) (list : List Arg) → ((i : ℕ) → i < length (operands insn) → AreSame (terms.arg_at list i))
        → terms.op_value ins left (terms.operation_of insn list) ≡ terms.op_value others right (terms.operation_of insn list)
    op_same (Alu op rd rs1 rs2) list same = λ i. operation op (same 0 (omega arith) i) (same 1 (omega arith) i)
    op_same (AluImm op rd rs1 imm) list same = λ i. operation op (same 0 (omega arith) i) (word_of imm)
    op_same (Lui rd upper) list same = refl
    op_same insn list same = refl

    in_members : (k : ℕ) → cut k ≡ true → count_below k cut < length (terms.members insns graph cut)
    in_members k member = omega (arith, count_below-more cut k (length insns) member (there k member), length-numbers_below (length insns) cut)

    in_ops : (k : ℕ) → cut k ≡ true → count_below k cut < length unit.ops
    in_ops k member = omega (arith, in_members k member, length-map (terms.members insns graph cut) (terms.op_of insns graph cut inputs))

    op_is : (k : ℕ) (member : cut k ≡ true) → terms.op_at unit (count_below k cut) ≡ terms.op_of insns graph cut inputs k
    op_is k member =
        get_or-map (terms.op_of insns graph cut inputs) (terms.members insns graph cut) (count_below k cut) 0 _ (in_members k member)
        ∙ ap (terms.op_of insns graph cut inputs) (number_there cut (length insns) k 0 (there k member) member)

    same_below : (bound k : ℕ) → k < bound → cut k ≡ true → IsSame k
    same_below zero k below member = absurd (omega arith)
    same_below (suc bound) k below member =
        left_are (count_below k cut) (in_ops k member)
        ∙ ap (terms.op_value ins left) (op_is k member)
        ∙ op_same (nth_insn insns k) (args k member (λ m before inside. same_below bound m (omega arith) inside))
        (arg_same k member (λ m before inside. same_below bound m (omega arith) inside))
        ∙ sym (ap (terms.op_value others right) (op_is k member))
        ∙ sym (right_are (count_below k cut) (in_ops k member))

    -- ---- the outputs

    abbrev numbers : List ℕ
    numbers = map (λ k. count_below k cut) outs

    out_member : (i : ℕ) → i < length outs → cut (slice_index outs i) ≡ true
    out_member i below = (and_parts (cut (slice_index outs i)) _ (passes_there (is_output graph cut) (length insns) outs refl i below)).0

    at_output : (x o : ℕ) → x ≡ count_below o cut → cut o ≡ true → slice_index left x ≡ slice_index right x
    at_output x o is member = subst (λ y. slice_index left y ≡ slice_index right y) (sym is) (same_below (suc o) o (omega arith) member)

    outputs_same : map (slice_index left) numbers ≡ map (slice_index right) numbers
    outputs_same =
        same_lists (map (slice_index left) numbers) (map (slice_index right) numbers)
        (length-map numbers (slice_index left) ∙ sym (length-map numbers (slice_index right)))
        (λ i d below.
        let within : i < length numbers = omega (arith, below, length-map numbers (slice_index left)) in
        let in_outs : i < length outs = omega (arith, within, length-map outs (λ k. count_below k cut)) in
        get_or-map (slice_index left) numbers i 0 d within
        ∙ at_output (get_or numbers i 0) (slice_index outs i) (get_or-map (λ k. count_below k cut) outs i 0 0 in_outs) (out_member i in_outs)
        ∙ sym (get_or-map (slice_index right) numbers i 0 d within))

  pub triple_is_one : ((i : ℕ) → i < length inputs → slice_index ins i ≡ slice_index others i) → (given also : List ℕ)
      → terms.IsTripleOf unit ins given → terms.IsTripleOf unit others also → given ≡ also
  triple_is_one agree given also one two =
      one.triple ∙ ap (padded 3) (one.value.outputs_are
      ∙ outputs_same agree one.value.results two.value.results (results_of_value unit ins one.outputs one.value) (results_of_value unit others two.outputs two.value)
      ∙ sym two.value.outputs_are) ∙ sym two.triple
