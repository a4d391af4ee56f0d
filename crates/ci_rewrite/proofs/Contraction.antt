-- The unit of a cut, in one step, makes what the members make one after the other.
use Rattle.std.specs.Prelude.{◌≡◌, ◌≢◌, ℕ, zero, suc, ◌+◌, ◌%◌, ◌^◌, ◌<◌, ◌≤◌, Bool, true, false, not, ◌&&◌, ◌||◌, ◌==◌, if◌then◌else◌}
use Rattle.std.specs.Prelude.{List, length, slice_index}
use Rattle.std.specs.FinSet as finite
use Rattle.std.specs.List.{list_any}
use Rattle.std.specs.Ordering.{nat_cmp}
use Rattle.std.proofs.Common.{refl, sym, ap, ◌∙◌, arith, inl, inr, true≢false}
use Rattle.std.proofs.lemmas.Bool.{cases_eq, cases_lt, cases_Bool, and_parts, and_from, and_left, and_right, or_right, eq-eqb, false_from_ne_true}
use Rattle.std.proofs.lemmas.List.{get_or-map, length-map}
use Rattle.std.proofs.lemmas.List.Folds.{list_any_at}
use Rattle.ci_word.specs.Arithmetic.{operation, word_of}
use Rattle.ci_word.specs.Numbers.{count_below}
use Rattle.ci_word.proofs.NumberLaws.{length-numbers_below}
use Rattle.ci_isa.specs.declared.instruction.Insn.{Insn}
use Rattle.ci_isa.specs.declared.instruction.Insn.TheVariants.{Alu, AluImm, Lui}
use Rattle.ci_isa.specs.FieldBounds.{FieldsFit}
use Rattle.ci_isa.specs.Effects.{operands, results, is_kept, may_join}
use Rattle.ci_isa.specs.Sequences.{nth_insn}
use Rattle.ci_isa.proofs.LastPassing.{IsLast, last_or_none}
use Rattle.ci_isa.proofs.LastWriter.{written, last_writer, latest_writer_is_last, no_writer}
use Rattle.ci_isa.proofs.OperandLaws.{operand_below, single_result, joins}
use Rattle.ci_lat.specs.Latencies.{Latencies}
use Rattle.ci_machine.specs.Cores.{Core, first_hidden, register, values_in}
use Rattle.ci_rewrite.specs.private.Bundles.{taken_from}
use Rattle.ci_machine.specs.Actions.{Units}
use Rattle.ci_machine.specs.Agreement.{acted}
use Rattle.ci_machine.specs.Blocks.{HaveSameStreams}
use Rattle.ci_machine.proofs.RegisterLaws.{register_written}
use Rattle.ci_machine.proofs.TestLaws.{either_first}
use Rattle.ci_cut.specs.declared.graph.Source.{Source}
use Rattle.ci_cut.specs.declared.graph.Source.TheVariants.{Entry}
use Rattle.ci_cut.specs.declared.graph.Source.TheVariants.{Made}
use Rattle.ci_cut.specs.FlowGraph.{FlowGraph, node_at, is_source}
use Rattle.ci_cut.specs.Ports.{is_outside, is_output}
use Rattle.ci_cut.proofs.RisingCounts.{count_below-more}
use Rattle.ci_dfg.specs.Arcs.{true_arc, anti_arc, output_arc}
use Rattle.ci_dfg.specs.BlockGraph.{source_from, source_of, graph_of}
use Rattle.ci_dfg.proofs.ArcLaws.{found_among}
use Rattle.ci_dfg.proofs.BlockIsGraph.{node_at_within}
use Rattle.ci_unit.specs.declared.operations.Arg.{Arg}
use Rattle.ci_unit.specs.declared.operations.Arg.TheVariants.{Input}
use Rattle.ci_unit.specs.declared.operations.Arg.TheVariants.{Earlier}
use Rattle.ci_unit.specs.declared.operations.Arg.TheVariants.{Constant}
use Rattle.ci_unit.specs.Units as terms
use Rattle.ci_unit.specs.Uses as uses
use Rattle.ci_unit.proofs.CountLaws.{number_there}
use Rattle.ci_unit.proofs.InputLaws.{has_input}
use Rattle.ci_unit.proofs.SourceLaws.{is_source-itself, place_within, at_place}
use Rattle.ci_unit.proofs.UnitLaws.{arg_in, args_are}
use Rattle.ci_unit.proofs.ValueLaws.{AreResults}
use Rattle.ci_rewrite.proofs.CutNodes.{IsFolding, is_dead, within, member_within, early_outside, before_early, before_member}
use Rattle.ci_rewrite.proofs.Tracking.{Tracks, core_at, register_stays, reads_at}
use Rattle.ci_rewrite.proofs.UnitPorts.{output_member}

-- ---- one operation

-- what a member makes is what its operation gives of its operands
made_by : (units : Units) (inputs values : List ℕ) (core : Core) (insn : Insn) (args : List Arg) → may_join insn ≡ true → FieldsFit insn
    → ((i : ℕ) → i < length (operands insn) → terms.arg_value inputs values (terms.arg_at args i) ≡ register core (slice_index (operands insn) i))
    → register (acted units insn core).state (slice_index (results insn) 0) ≡ terms.op_value inputs values (terms.operation_of insn args)
made_by units inputs values core (Alu op rd rs1 rs2) args may fit same =
    register_written core rd _ rd (joins (Alu op rd rs1 rs2) may).writes ∙ λ i. operation op (sym (same 0 (omega arith)) i) (sym (same 1 (omega arith)) i)
made_by units inputs values core (AluImm op rd rs1 imm) args may fit same =
    register_written core rd _ rd (joins (AluImm op rd rs1 imm) may).writes ∙ λ i. operation op (sym (same 0 (omega arith)) i) (word_of imm)
made_by units inputs values core (Lui rd upper) args may fit same =
    register_written core rd upper rd (joins (Lui rd upper) may).writes ∙ whole upper fit.1
  where
    whole : (u : ℕ) → u < 2 ^ 32 → u ≡ (u + 0) % 2 ^ 32
    whole u below = grind arith
made_by units inputs values core insn args may fit same = cc

-- ---- the members of a cut

module _ {insns : List Insn} {live_out : finite.FinSet nat_cmp} {table : Latencies} {cut early : ℕ → Bool} {n : ℕ}
    (known : IsFolding insns live_out table cut early n) {units : Units} {start now : Core}
    (tracks : Tracks units insns start n early (is_dead known) now) where
  abbrev graph : FlowGraph
  graph = graph_of insns live_out table

  abbrev before_node : ℕ → Core
  before_node = core_at units insns start

  abbrev inputs : List Source
  inputs = terms.inputs_of insns graph cut

  abbrev unit : terms.Unit
  unit = terms.unit_of insns graph cut

  abbrev result : ℕ → ℕ
  result = uses.result_register insns

  -- the inputs of the unit, as the unit word finds them
  abbrev pub input_now : ℕ → ℕ
  input_now i = register now (slice_index (uses.input_registers insns graph cut) i)

  abbrev pub inputs_now : List ℕ
  inputs_now = values_in now (taken_from true (uses.input_registers insns graph cut))

  -- what member k reads in a register
  module _ (k : ℕ) (member : cut k ≡ true) (r : ℕ) (kept : is_kept r ≡ true) (among : list_any (λ q. q == r) (operands (nth_insn insns k)) ≡ true) where
    there : k < length insns
    there = member_within known k member

    other : r < first_hidden
    other = operand_below (nth_insn insns k) r (known.fit k there) among

    read : reads_at insns k r ≡ true
    read = and_from (is_kept r) (list_any (λ q. q == r) (operands (nth_insn insns k))) kept among

    -- no early node behind the source of what a member reads writes the register
    quiet : (low : ℕ) → ((j : ℕ) → low ≤ j → j < k → written insns r j ≡ false) → (j : ℕ) → low ≤ j → j < n → (early j && written insns r j) ≡ false
    quiet low none_behind j behind below = elim (cases_Bool (early j)) [
      | inl j_early ↦ elim (cases_lt j k) [
        | inl before ↦ and_right (early j) (written insns r j) (none_behind j behind before)
        | inr from ↦
            let j_out = early_outside known j (within known j below) j_early in
            let later : k < j = elim (cases_eq j k) [ inl same ↦ absurd (true≢false (sym member ∙ ap cut (sym same) ∙ j_out)) | inr differs ↦ omega arith ] in
            and_right (early j) (written insns r j) (false_from_ne_true (written insns r j) (λ writes.
            let k_early = before_early known k j (within known j below) (anti_arc k j r later read writes) j_early in
            true≢false (sym member ∙ early_outside known k there k_early)))
      ]
      | inr late ↦ and_left (early j) (written insns r j) late
    ]

    -- it stands there as before the member, where no member made it
    outside_there : (w : ℕ) → cut w ≡ false → IsLast (written insns r) k w → register now r ≡ register (before_node k) r
    outside_there w out last =
        let none_behind : (j : ℕ) → suc w ≤ j → j < k → written insns r j ≡ false = λ j from to. last.none_behind j (omega arith) to in
        let w_early : early w ≡ true = either_first (early w) (cut w) (before_member known w k there (true_arc w k r (last_writer last) read) member) out in
        tracks.registers r w other (record {
          below = omega (arith, last.below, (known.members k member).0);
          passes = and_from (early w) (written insns r w) w_early last.passes;
          none_behind = λ j behind. quiet (suc w) none_behind j (omega arith);
        }) (and_left (cut w) (not (is_output graph cut w)) out)
        ∙ sym (register_stays units insns start r (suc w) k other (omega (arith, last.below)) none_behind)

    entry_there : ((j : ℕ) → j < k → written insns r j ≡ false) → register now r ≡ register (before_node k) r
    entry_there none =
        tracks.untouched r other (λ j. quiet 0 (λ i from to. none i to) j (omega arith))
        ∙ sym (register_stays units insns start r 0 k other (omega arith) (λ j from to. none j to))

    -- what it reads from outside is among the inputs
    among_inputs : (s : Source) → source_of insns k r ≡ s → is_outside cut s ≡ true → list_any (is_source s) inputs ≡ true
    among_inputs s same =
        has_input insns graph cut k s there member
        (ap (λ node. list_any (is_source s) node.sources) (node_at_within insns live_out table k there)
        ∙ found_among (is_source s) (source_of insns k) r (operands (nth_insn insns k)) (ap (is_source s) same ∙ is_source-itself s) kept among)

  -- ---- arguments

  input_value : (s : Source) → list_any (is_source s) inputs ≡ true → slice_index inputs_now (terms.place_in inputs s) ≡ register now (uses.register_of insns s)
  input_value s has =
      let below = place_within s inputs has in
      taken_there (terms.place_in inputs s) (omega (arith, below, known.few_inputs))
      ∙ ap (register now)
      (get_or-map (uses.register_of insns) inputs (terms.place_in inputs s) (Entry 0) 0 below ∙ ap (uses.register_of insns) (at_place s inputs (Entry 0) has))
    where
      taken_there : (i : ℕ) → i < 5 → slice_index inputs_now i ≡ input_now i
      taken_there zero below = refl
      taken_there (suc zero) below = refl
      taken_there (suc (suc zero)) below = refl
      taken_there (suc (suc (suc zero))) below = refl
      taken_there (suc (suc (suc (suc zero)))) below = refl
      taken_there (suc (suc (suc (suc (suc i))))) below = absurd (omega arith)

  module _ (values : List ℕ) where
    abbrev IsMade : ℕ → Type 0
    IsMade m = slice_index values (count_below m cut) ≡ register (before_node (suc m)) (result m)

    abbrev value : Arg → ℕ
    value = terms.arg_value inputs_now values

    -- an argument is what the member reads
    operand_value : (k : ℕ) (member : cut k ≡ true) → ((m : ℕ) → m < k → cut m ≡ true → IsMade m)
        → (r : ℕ) → list_any (λ q. q == r) (operands (nth_insn insns k)) ≡ true
        → value (arg_in cut inputs (source_of insns k) r) ≡ register (before_node k) r
    operand_value k member before r among = by_zero (r == 0) refl
      where
        from_writer : is_kept r ≡ true → (w : ℕ) → IsLast (written insns r) k w
            → value (terms.arg_from cut inputs (source_of insns k r)) ≡ register (before_node k) r
        from_writer kept w last =
            let source_is : source_of insns k r ≡ Made w = ap (source_from insns r) ((latest_writer_is_last insns r k w).1 (last_writer last)) in
            let result_is : result w ≡ r = single_result (nth_insn insns w) r last.passes in
            ap (λ s. value (terms.arg_from cut inputs s)) source_is
            ∙ elim (cases_Bool (cut w)) [
              | inl inside ↦
                  ap (λ b. value (if b then Earlier (count_below w cut) else Input (terms.place_in inputs (Made w)))) inside
                  ∙ before w last.below inside
                  ∙ ap (register (before_node (suc w))) result_is
                  ∙ sym (register_stays units insns start r (suc w) k (other k member r kept among) (omega (arith, last.below))
                  (λ j from to. last.none_behind j (omega arith) to))
              | inr out ↦
                  ap (λ b. value (if b then Earlier (count_below w cut) else Input (terms.place_in inputs (Made w)))) out
                  ∙ input_value (Made w) (among_inputs k member r kept among (Made w) source_is (ap not out))
                  ∙ ap (register now) result_is
                  ∙ outside_there k member r kept among w out last
            ]

        from_entry : is_kept r ≡ true → ((j : ℕ) → j < k → written insns r j ≡ false)
            → value (terms.arg_from cut inputs (source_of insns k r)) ≡ register (before_node k) r
        from_entry kept none =
            let source_is : source_of insns k r ≡ Entry r = ap (source_from insns r) (no_writer insns r k none) in
            ap (λ s. value (terms.arg_from cut inputs s)) source_is
            ∙ input_value (Entry r) (among_inputs k member r kept among (Entry r) source_is refl)
            ∙ entry_there k member r kept among none

        by_zero : (b : Bool) → (r == 0) ≡ b
            → value (if b then Constant 0 else terms.arg_from cut inputs (source_of insns k r)) ≡ register (before_node k) r
        by_zero true is = sym (ap (λ b. if b then 0 else (before_node k).registers r) is)
        by_zero false is = elim (last_or_none (written insns r) k) [
          | inl (w, last) ↦ from_writer (ap not is) w last
          | inr none ↦ from_entry (ap not is) none
        ]

    -- ---- the results of the members

    module _ (are : AreResults unit inputs_now values (length unit.ops)) where
      abbrev args_of : ℕ → List Arg
      args_of k = terms.args_from cut inputs (operands (nth_insn insns k)) (node_at graph k).sources

      count_there : (k : ℕ) → cut k ≡ true → count_below k cut < length (terms.members insns graph cut)
      count_there k member = omega (arith, count_below-more cut k (length insns) member (member_within known k member), length-numbers_below (length insns) cut)

      op_is : (k : ℕ) → cut k ≡ true → terms.op_at unit (count_below k cut) ≡ terms.operation_of (nth_insn insns k) (args_of k)
      op_is k member =
          get_or-map (λ j. terms.operation_of (nth_insn insns j) (args_of j)) (terms.members insns graph cut) (count_below k cut) 0 _ (count_there k member)
          ∙ ap (λ j. terms.operation_of (nth_insn insns j) (args_of j)) (number_there cut (length insns) k 0 (member_within known k member) member)

      args_value : (k : ℕ) → cut k ≡ true → ((m : ℕ) → m < k → cut m ≡ true → IsMade m) → (i : ℕ) → i < length (operands (nth_insn insns k))
          → value (terms.arg_at (args_of k) i) ≡ register (before_node k) (slice_index (operands (nth_insn insns k)) i)
      args_value k member before i below =
          let registers : List ℕ = operands (nth_insn insns k) in
          ap (λ args. value (terms.arg_at args i))
          (ap (λ node. terms.args_from cut inputs registers node.sources) (node_at_within insns live_out table k (member_within known k member))
          ∙ args_are cut inputs (source_of insns k) registers)
          ∙ ap value (get_or-map (arg_in cut inputs (source_of insns k)) registers i 0 (Constant 0) below)
          ∙ operand_value k member before (slice_index registers i)
          (list_any_at (λ q. q == slice_index registers i) registers i 0 below (eq-eqb (slice_index registers i) (slice_index registers i) refl))

      -- each result of the unit is what its member makes
      value_below : (bound k : ℕ) → k < bound → cut k ≡ true → IsMade k
      value_below zero k below member = absurd (omega arith)
      value_below (suc bound) k below member =
          are (count_below k cut)
          (omega (arith, count_there k member, length-map (terms.members insns graph cut) (λ j. terms.operation_of (nth_insn insns j) (args_of j))))
          ∙ ap (terms.op_value inputs_now values) (op_is k member)
          ∙ sym (made_by units inputs_now values (before_node k) (nth_insn insns k) (args_of k)
          (known.members k member).1 (known.fit k (member_within known k member))
          (args_value k member (λ m before m_member. value_below bound m (omega arith) m_member)))

      pub value_is : (k : ℕ) → cut k ≡ true → IsMade k
      value_is k member = value_below (suc k) k (omega arith) member

  -- ---- behind the use of the unit

  -- the nodes that have acted once the unit has
  abbrev pub gathered : ℕ → Bool
  gathered j = early j || cut j

  -- what a core has to be behind the unit: the outputs are in their registers, and all else is as before
  pub record HasOutputs (core : Core) : Type 0 where
    pub others : (q : ℕ) → q < first_hidden → ((o : ℕ) → is_output graph cut o ≡ true → result o ≢ q) → register core q ≡ register now q
    pub outputs :
        (w : ℕ) → is_output graph cut w ≡ true → ((o : ℕ) → w < o → is_output graph cut o ≡ true → result o ≢ result w)
        → register core (result w) ≡ register (before_node (suc w)) (result w)
    pub memory : core.memory ≡ now.memory
    pub rest : HaveSameStreams core start

  module _ (core : Core) (has : HasOutputs core) where
    -- an output has acted, and has written its result
    output_writes : (o r : ℕ) → is_output graph cut o ≡ true → result o ≡ r → (gathered o && written insns r o) ≡ true
    output_writes o r is same =
        let member = output_member known o is in
        and_from (gathered o) (written insns r o) (or_right (early o) (cut o) member)
        (ap (λ q. written insns q o) (sym same) ∙ (joins (nth_insn insns o) (known.members o member).1).writes)

    output_within : (o : ℕ) → is_output graph cut o ≡ true → o < n
    output_within o is = (known.members o (output_member known o is)).0

    inside_last : (r w : ℕ) → IsLast (λ j. gathered j && written insns r j) n w → is_dead known w ≡ false → cut w ≡ true
        → register core r ≡ register (before_node (suc w)) r
    inside_last r w last alive member =
        let same : result w ≡ r = single_result (nth_insn insns w) r (and_parts (gathered w) (written insns r w) last.passes).1 in
        ap (register core) (sym same)
        ∙ has.outputs w (living (cut w) (is_output graph cut w) alive member) (λ o behind o_is o_same.
        true≢false (sym (output_writes o r o_is (o_same ∙ same)) ∙ last.none_behind o behind (output_within o o_is)))
        ∙ ap (register (before_node (suc w))) same
      where
        living : (c o : Bool) → (c && not o) ≡ false → c ≡ true → o ≡ true
        living c o is member = grind arith

    early_part : (r j : ℕ) → (gathered j && written insns r j) ≡ false → (early j && written insns r j) ≡ false
    early_part r j none = first_of (early j) (cut j) (written insns r j) none
      where
        first_of : (p q w : Bool) → ((p || q) && w) ≡ false → (p && w) ≡ false
        first_of p q w is = grind arith

    outside_last : (r w : ℕ) → r < first_hidden → IsLast (λ j. gathered j && written insns r j) n w → is_dead known w ≡ false → cut w ≡ false
        → register core r ≡ register (before_node (suc w)) r
    outside_last r w other last alive out =
        let (acts, writes) = and_parts (gathered w) (written insns r w) last.passes in
        let w_early : early w ≡ true = either_first (early w) (cut w) acts out in
        has.others r other (λ o o_is same.
        let o_writes = output_writes o r o_is same in
        let member = output_member known o o_is in
        elim (cases_lt w o) [
          | inl behind ↦ true≢false (sym o_writes ∙ last.none_behind o behind (output_within o o_is))
          | inr from ↦
              let before : o < w = elim (cases_eq o w) [ inl at_it ↦ absurd (true≢false (sym member ∙ ap cut at_it ∙ out)) | inr differs ↦ omega arith ] in
              let o_early = before_early known o w (within known w last.below)
              (output_arc o w r before (and_parts (gathered o) (written insns r o) o_writes).1 writes) w_early in
              true≢false (sym member ∙ early_outside known o (member_within known o member) o_early)
        ])
        ∙ tracks.registers r w other (record {
          below = last.below;
          passes = and_from (early w) (written insns r w) w_early writes;
          none_behind = λ j behind below. early_part r j (last.none_behind j behind below);
        }) alive

    -- the nodes before the members and the members have acted
    pub tracks_gathered : Tracks units insns start n gathered (is_dead known) core
    tracks_gathered = record {
      registers = λ r w other last alive. elim (cases_Bool (cut w)) [
        | inl member ↦ inside_last r w last alive member
        | inr out ↦ outside_last r w other last alive out
      ];
      untouched = λ r other none.
          has.others r other (λ o o_is same. true≢false (sym (output_writes o r o_is same) ∙ none o (output_within o o_is)))
          ∙ tracks.untouched r other (λ j below. early_part r j (none j below));
      memory = λ a within acted address.
          ap (λ m. m address) has.memory
          ∙ tracks.memory a within (λ j below access. no_more (early j) (cut j) (false_from_ne_true (cut j) (λ member.
          true≢false (sym access ∙ (joins (nth_insn insns j) (known.members j member).1).no_access))) ∙ acted j below access) address;
      rest = has.rest;
    }
      where
        no_more : (p q : Bool) → q ≡ false → p ≡ (p || q)
        no_more p q is = grind arith
