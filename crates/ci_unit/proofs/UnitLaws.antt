-- The unit of a cut is a unit.
use Rattle.std.proofs.Common.{◌≡◌, ℕ, zero, suc, ◌+◌, ◌*◌, ◌<◌, ◌≤◌, Bool, true, false, not, if◌then◌else◌, ◌==◌, IsTrue}
use Rattle.std.proofs.Common.{List, [], ◌∷◌, length, map, get_or, slice_index, All, Contains, refl, sym, ap, ◌∙◌, subst, inl, inr, arith, true≢false}
use Rattle.std.specs.Prelude.{⊤}
use Rattle.std.specs.List.{AllByRecursion}
use Rattle.std.proofs.lemmas.Bool.{and_parts, cases_lt, cases_Bool, not_from_false}
use Rattle.std.proofs.lemmas.Bool.Decides.{nat_tests}
use Rattle.std.proofs.lemmas.List.{get_or-map, length-map}
use Rattle.std.proofs.lemmas.List.Sums.{sum_by-cons}
use Rattle.ci_word.specs.Numbers.{numbers_below, count_below}
use Rattle.ci_word.proofs.NumberLaws.{count_below-le, length-numbers_below}
use Rattle.ci_isa.specs.declared.instruction.Insn.{Insn}
use Rattle.ci_isa.specs.declared.instruction.Insn.TheVariants.{Alu, AluImm, Lui}
use Rattle.ci_isa.specs.Effects.{operands, is_division, may_join, without_x0}
use Rattle.ci_isa.specs.Sequences.{nth_insn}
use Rattle.ci_cut.specs.declared.graph.Source.{Source}
use Rattle.ci_cut.specs.declared.graph.Source.TheVariants.{Entry, Made}
use Rattle.ci_cut.specs.declared.graph.Limits.{Limits}
use Rattle.ci_cut.specs.FlowGraph.{FlowGraph, node_at, reads}
use Rattle.ci_cut.specs.GraphRules.{IsFlowGraph}
use Rattle.ci_cut.specs.Gain.{Fits}
use Rattle.ci_cut.specs.Ports.{is_output}
use Rattle.ci_cut.specs.Hardware.{hardware, is_chain, delay_along}
use Rattle.ci_cut.proofs.CriticalPath.{chain_parts, chain_first, critical_path_delay-reached}
use Rattle.ci_cut.proofs.PrefixLaws.{eligible_below}
use Rattle.ci_cut.proofs.RisingCounts.{count_below-more, count_below-rises}
use Rattle.ci_unit.specs.declared.operations.Arg.{Arg}
use Rattle.ci_unit.specs.declared.operations.Arg.TheVariants.{Input, Earlier, Constant}
use Rattle.ci_unit.specs.declared.operations.UnitOp.{UnitOp}
use Rattle.ci_unit.specs.Units.{IsUnit, IsOp, IsArg, no_op, place_in, arg_from, args_from, arg_at, operation_of, op_of, inputs_of, unit_of}
use Rattle.ci_unit.specs.Operands.{AreOperands, FitsSomeLimits}
use Rattle.ci_unit.specs.private.Reading.{IsSmall, IsWordArg, HasWords, inputs_below}
use Rattle.ci_unit.proofs.CountLaws.{IsNumberAt, number_at}
use Rattle.ci_unit.proofs.SourceLaws.{not_true, own_sources, place_within}
use Rattle.ci_unit.proofs.InputLaws.{few_inputs, has_input}
use Rattle.ci_unit.proofs.ReadingLaws.{inputs_are}

-- ---- arguments and operations

-- the arguments of operands with these sources
module _ (cut : ℕ → Bool) (inputs : List Source) (f : ℕ → Source) where
  abbrev pub arg_in : ℕ → Arg
  arg_in r = if r == 0 then Constant 0 else arg_from cut inputs (f r)

  pub args_are : (registers : List ℕ) → args_from cut inputs registers (map f (without_x0 registers)) ≡ map arg_in registers
  args_are [] = refl
  args_are (zero ∷ rest) = ap (λ args. Constant 0 ∷ args) (args_are rest)
  args_are (suc r ∷ rest) = by_zero (args_are rest) (suc r == 0) (never r)
    where
      never : (n : ℕ) → (suc n == 0) ≡ false
      never n = grind (arith, nat_tests)

      by_zero : args_from cut inputs rest (map f (without_x0 rest)) ≡ map arg_in rest → (b : Bool) → b ≡ false
          → args_from cut inputs (suc r ∷ rest) (map f (if not b then suc r ∷ without_x0 rest else without_x0 rest))
          ≡ (if b then Constant 0 else arg_from cut inputs (f (suc r))) ∷ map arg_in rest
      by_zero more true is = cc
      by_zero more false is = ap (λ args. arg_from cut inputs (f (suc r)) ∷ args) more

-- an argument of operation n, whatever the constants are
abbrev IsPlaced : ℕ → Arg → Type 0
IsPlaced n (Input i) = i < 5
IsPlaced n (Earlier m) = m < n
IsPlaced n (Constant word) = ⊤

joined : (n : ℕ) (arg : Arg) → IsPlaced n arg → IsWordArg arg → IsArg n arg
joined n (Input i) placed word = placed
joined n (Earlier m) placed word = placed
joined n (Constant c) placed word = word

module _ (n : ℕ) where
  arg_at_placed : (args : List Arg) (j : ℕ) → AllByRecursion (IsPlaced n) args → IsPlaced n (arg_at args j)
  arg_at_placed [] j placed = tt
  arg_at_placed (arg ∷ args) zero placed = placed.0
  arg_at_placed (arg ∷ args) (suc j) placed = arg_at_placed args j placed.1

  operation_is : (insn : Insn) (args : List Arg) → may_join insn ≡ true → AllByRecursion (IsPlaced n) args → HasWords (operation_of insn args)
      → IsOp n (operation_of insn args)
  operation_is (Alu op rd rs1 rs2) args joins placed words =
      record {
        no_division = not_true (is_division op) (and_parts (not (is_division op)) _ joins).0;
        left = joined n (arg_at args 0) (arg_at_placed args 0 placed) words.0;
        right = joined n (arg_at args 1) (arg_at_placed args 1 placed) words.1;
      }
  operation_is (AluImm op rd rs1 imm) args joins placed words =
      record {
        no_division = not_true (is_division op) (and_parts (not (is_division op)) _ joins).0;
        left = joined n (arg_at args 0) (arg_at_placed args 0 placed) words.0;
        right = words.1;
      }
  operation_is (Lui rd upper) args joins placed words = record { no_division = refl; left = words.0; right = words.1 }
  operation_is insn args joins placed words = absurd (true≢false (sym joins))

-- ---- the time of a chain

module _ (graph : FlowGraph) (cut : ℕ → Bool) (kept : IsFlowGraph graph) where
  chain_delay : (a : ℕ) (rest : List ℕ) → IsTrue (is_chain graph cut (a ∷ rest)) → delay_along graph (a ∷ rest) ≤ 100000 * (a + 1)
  chain_delay a [] chain = omega (arith, kept.delay_most a, sum_by-cons (λ j. (node_at graph j).delay) a [])
  chain_delay a (b ∷ rest) chain =
      let parts = chain_parts graph cut a b rest chain in
      omega (arith, kept.delay_most a, sum_by-cons (λ j. (node_at graph j).delay) a (b ∷ rest), chain_delay b rest parts.1, kept.sources_rise b a parts.0)

  any_chain_delay : (are_nodes : (k : ℕ) → IsTrue (cut k) → k < length graph.nodes) (chain : List ℕ) → IsTrue (is_chain graph cut chain)
      → delay_along graph chain ≤ 25600000
  any_chain_delay are_nodes [] chain = omega arith
  any_chain_delay are_nodes (a ∷ rest) chain =
      omega (arith, chain_delay a rest chain, are_nodes a (chain_first graph cut a rest chain), kept.few)

  cycles_most : ((k : ℕ) → IsTrue (cut k) → k < length graph.nodes) → hardware graph cut ≤ 9999999
  cycles_most are_nodes =
      let longest = critical_path_delay-reached graph cut in
      let delay = any_chain_delay are_nodes longest.0 longest.1 in
      omega (arith, delay, longest.2)

-- ---- the unit of a cut that fits

module _ (insns : List Insn) (graph : FlowGraph) (cut : ℕ → Bool) (kept : IsFlowGraph graph) (are : AreOperands insns graph)
    (limits : Limits) (fits : Fits graph limits cut) (small : All IsSmall (inputs_of insns graph cut)) where
  is_node : (k : ℕ) → IsTrue (cut k) → k < length graph.nodes
  is_node k member = eligible_below graph k (fits.eligible k member)

  pub five_inputs : length (inputs_of insns graph cut) ≤ 5
  five_inputs = omega (arith, few_inputs insns graph cut kept.sources_rise are.same_length small, fits.inputs_within, limits.inputs_in_range.1)

  arg_placed : (k : ℕ) (s : Source) → k < length insns → IsTrue (cut k) → reads graph k s ≡ true
      → IsPlaced (count_below k cut) (arg_from cut (inputs_of insns graph cut) s)
  arg_placed k (Entry r) below member reading =
      omega (
        arith,
        five_inputs,
        place_within (Entry r) (inputs_of insns graph cut)
            (has_input insns graph cut k (Entry r) below member reading refl),
      )
  arg_placed k (Made m) below member reading = elim (cases_Bool (cut m)) [
    | inl inside ↦
        subst (λ b. IsPlaced (count_below k cut) (if b then Earlier (count_below m cut) else Input (place_in (inputs_of insns graph cut) (Made m))))
        (sym inside) (count_below-more cut m k inside (kept.sources_rise m k reading))
    | inr outside ↦
        subst (λ b. IsPlaced (count_below k cut) (if b then Earlier (count_below m cut) else Input (place_in (inputs_of insns graph cut) (Made m))))
        (sym outside)
        (omega (
          arith,
          five_inputs,
          place_within (Made m) (inputs_of insns graph cut)
              (has_input insns graph cut k (Made m) below member reading (not_from_false (cut m) outside)),
        ))
  ]

  args_placed : (k : ℕ) → k < length insns → IsTrue (cut k) → (registers : List ℕ) (sources : List Source)
      → AllByRecursion (λ s. reads graph k s ≡ true) sources
      → AllByRecursion (IsPlaced (count_below k cut)) (args_from cut (inputs_of insns graph cut) registers sources)
  args_placed k below member [] sources read = tt
  args_placed k below member (zero ∷ registers) sources read = (tt, args_placed k below member registers sources read)
  args_placed k below member (suc r ∷ registers) [] read = tt
  args_placed k below member (suc r ∷ registers) (s ∷ sources) read =
      (arg_placed k s below member read.0, args_placed k below member registers sources read.1)

  op_is : (k : ℕ) → k < length insns → IsTrue (cut k) → HasWords (op_of insns graph cut (inputs_of insns graph cut) k)
      → IsOp (count_below k cut) (op_of insns graph cut (inputs_of insns graph cut) k)
  op_is k below member words =
      operation_is (count_below k cut) (nth_insn insns k) _ (sym (are.eligible_is k below) ∙ fits.eligible k member)
      (args_placed k below member (operands (nth_insn insns k)) (node_at graph k).sources (own_sources (node_at graph k).sources))
      words

  abbrev ops_of : List UnitOp
  ops_of = map (op_of insns graph cut (inputs_of insns graph cut)) (numbers_below (length insns) cut)

  length-ops : length ops_of ≡ count_below (length insns) cut
  length-ops = length-map (numbers_below (length insns) cut) (op_of insns graph cut (inputs_of insns graph cut)) ∙ length-numbers_below (length insns) cut

  each_op : All HasWords ops_of → (n : ℕ) → n < length ops_of → IsOp n (get_or ops_of n no_op)
  each_op words n below =
      let found = number_at cut (length insns) n (omega (arith, below, length-ops)) in
      let k = found.0 in
      let is = found.1 in
      let same : get_or ops_of n no_op ≡ op_of insns graph cut (inputs_of insns graph cut) k =
      get_or-map (op_of insns graph cut (inputs_of insns graph cut)) (numbers_below (length insns) cut) n 0 no_op
      (omega (arith, below, length-map (numbers_below (length insns) cut) (op_of insns graph cut (inputs_of insns graph cut))))
      ∙ ap (op_of insns graph cut (inputs_of insns graph cut)) (is.there 0) in
      subst (IsOp n) (sym same)
      (subst (λ m. IsOp m (op_of insns graph cut (inputs_of insns graph cut) k)) is.counted
      (op_is k is.below is.passes (subst HasWords same (words n no_op below))))

  -- ---- outputs

  abbrev output_numbers : List ℕ
  output_numbers = map (λ k. count_below k cut) (numbers_below (length insns) (is_output graph cut))

  length-outputs : length output_numbers ≡ count_below (length insns) (is_output graph cut)
  length-outputs =
      length-map (numbers_below (length insns) (is_output graph cut)) (λ k. count_below k cut)
      ∙ length-numbers_below (length insns) (is_output graph cut)

  record IsOutputAt (j k : ℕ) : Type 0 where
    pub number : IsNumberAt (is_output graph cut) (length insns) j k
    pub member : IsTrue (cut k)
    pub there : (d : ℕ) → get_or output_numbers j d ≡ count_below k cut

  output_at : (j : ℕ) → j < length output_numbers → (k : ℕ) × IsOutputAt j k
  output_at j below =
      let found = number_at (is_output graph cut) (length insns) j (omega (arith, below, length-outputs)) in (
        found.0,
        record {
          number = found.1;
          member = (and_parts (cut found.0) _ found.1.passes).0;
          there = λ d.
              get_or-map (λ k. count_below k cut) (numbers_below (length insns) (is_output graph cut)) j 0 d
              (omega (arith, below, length-map (numbers_below (length insns) (is_output graph cut)) (λ k. count_below k cut)))
              ∙ ap (λ k. count_below k cut) (found.1.there 0);
        },
      )

  output_is_op : (n : ℕ) → Contains output_numbers n → n < length ops_of
  output_is_op n (j, below, is) =
      let found = output_at j below in
      omega (arith, is, found.1.there n, count_below-more cut found.0 (length insns) found.1.member found.1.number.below, length-ops)

  outputs_rise : (j k : ℕ) → j < k → k < length output_numbers → slice_index output_numbers j < slice_index output_numbers k
  outputs_rise j k order below =
      let first = output_at j (omega arith) in
      let second = output_at k below in
      let rises : first.0 < second.0 = elim (cases_lt first.0 second.0) [
        | inl less ↦ less
        | inr more ↦ absurd (omega (arith, count_below-rises (is_output graph cut) second.0 first.0 more, first.1.number.counted, second.1.number.counted))
      ] in
      omega (arith, first.1.there 0, second.1.there 0, count_below-more cut first.0 second.0 first.1.member rises)

  pub unit_is : All HasWords ops_of → IsUnit (unit_of insns graph cut)
  unit_is words =
      let outputs_count = ap (λ n. count_below n (is_output graph cut)) are.same_length in
      let size_count = ap (λ n. count_below n cut) are.same_length in
      record {
        some = omega (arith, fits.room, size_count, length-ops);
        few = omega (arith, length-ops, count_below-le (length insns) cut, kept.few, are.same_length);
        ops = each_op words;
        outputs = output_is_op;
        outputs_rise = outputs_rise;
        has_output = omega (arith, fits.has_output, outputs_count, length-outputs);
        few_outputs = omega (arith, fits.outputs_within, limits.outputs_in_range.1, outputs_count, length-outputs);
        cycles_least = omega arith;
        cycles_most = cycles_most graph cut kept is_node;
      }

-- ---- what is read of the block

module _ (insns : List Insn) (graph : FlowGraph) (cut : ℕ → Bool) (kept : IsFlowGraph graph) (are : AreOperands insns graph)
    (some : FitsSomeLimits graph cut) (inputs : List Source) (read : inputs ≡ inputs_below graph cut (length graph.nodes))
    (small : All IsSmall inputs) where
  inputs_read : inputs ≡ inputs_of insns graph cut
  inputs_read = read ∙ ap (inputs_below graph cut) are.same_length ∙ inputs_are graph cut (length insns)

  small_read : All IsSmall (inputs_of insns graph cut)
  small_read = subst (All IsSmall) inputs_read small

  pub five_read : length inputs ≤ 5
  five_read = subst (λ list. length list ≤ 5) (sym inputs_read) (five_inputs insns graph cut kept are some.0 some.1 small_read)

  module _ (ops : List UnitOp) (outputs : List ℕ) (cycles : ℕ)
      (ops_are : ops ≡ map (op_of insns graph cut inputs) (numbers_below (length insns) cut))
      (outputs_are : outputs ≡ map (λ k. count_below k cut) (numbers_below (length graph.nodes) (is_output graph cut)))
      (cycles_are : cycles ≡ hardware graph cut) where
    ops_read : ops ≡ map (op_of insns graph cut (inputs_of insns graph cut)) (numbers_below (length insns) cut)
    ops_read = ops_are ∙ ap (λ list. map (op_of insns graph cut list) (numbers_below (length insns) cut)) inputs_read

    pub unit_read : record { ops = ops; outputs = outputs; cycles = cycles } ≡ unit_of insns graph cut
    unit_read =
        let outputs_read = outputs_are ∙ ap (λ n. map (λ k. count_below k cut) (numbers_below n (is_output graph cut))) are.same_length in
        λ i. record { ops = ops_read i; outputs = outputs_read i; cycles = cycles_are i }

    pub unit_read_is : All HasWords ops → IsUnit (record { ops = ops; outputs = outputs; cycles = cycles })
    unit_read_is words =
        subst IsUnit (sym unit_read) (unit_is insns graph cut kept are some.0 some.1 small_read (subst (All HasWords) ops_read words))
