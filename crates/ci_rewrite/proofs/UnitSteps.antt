-- What the use of a unit leaves: the outputs in their registers, and all else as before.
use Rattle.std.specs.Prelude.{◌-◌, replicate, ◌≡◌, ℕ, suc, ◌<◌, Bool, true, if◌then◌else◌, List, [], map, length, slice_index, slice_index_or}
use Rattle.std.specs.FinSet as finite
use Rattle.std.specs.Ordering.{nat_cmp}
use Rattle.std.proofs.Common.{sym, ap, ◌∙◌, subst, arith, inl, inr}
use Rattle.std.proofs.lemmas.Bool.{cases_lt, and_parts}
use Rattle.std.proofs.lemmas.List.{get_or-map, get_or_append_left, length-map}
use Rattle.ci_word.specs.Numbers.{count_below}
use Rattle.ci_word.proofs.NumberLaws.{length-numbers_below}
use Rattle.ci_isa.specs.declared.instruction.Insn.{Insn}
use Rattle.ci_isa.specs.Effects.{is_kept, padded}
use Rattle.ci_isa.specs.Sequences.{nth_insn}
use Rattle.ci_isa.proofs.OperandLaws.{result_below, joins}
use Rattle.ci_lat.specs.Latencies.{Latencies}
use Rattle.ci_machine.specs.Cores.{Core, first_hidden, hidden_operands, register, values_in}
use Rattle.ci_machine.specs.Outcomes.{at_start}
use Rattle.ci_machine.specs.Actions.{Units}
use Rattle.ci_machine.specs.Agreement.{act_all}
use Rattle.ci_rewrite.specs.private.Bundles.{IsLeft}
use Rattle.ci_cut.specs.FlowGraph.{FlowGraph}
use Rattle.ci_cut.specs.Ports.{is_output}
use Rattle.ci_dfg.specs.BlockGraph.{graph_of}
use Rattle.ci_unit.specs.Units as terms
use Rattle.ci_unit.specs.Uses as uses
use Rattle.ci_rewrite.specs.private.Bundles.{taken_from}
use Rattle.ci_unit.proofs.CountLaws.{IsNumberAt, number_at, number_there}
use Rattle.ci_cut.proofs.RisingCounts.{count_below-rises, count_below-more}
use Rattle.ci_unit.proofs.ValueLaws.{results_of_value}
use Rattle.ci_rewrite.proofs.Contraction.{HasOutputs, inputs_now, value_is}
use Rattle.ci_rewrite.proofs.CutNodes.{IsFolding, is_dead, member_within}
use Rattle.ci_rewrite.proofs.Tracking.{Tracks, core_at}
use Rattle.ci_rewrite.proofs.UnitPorts.{output_member, input_register_below}
use Rattle.ci_rewrite.proofs.UseLaws.{use_leaves}

-- a number of a list that is padded with 0
padded_at : (count : ℕ) (numbers : List ℕ) (i : ℕ) → i < length numbers → slice_index_or (padded count numbers) i 0 ≡ slice_index numbers i
padded_at count numbers i below = get_or_append_left numbers (replicate (count - length numbers) 0) 0 i below

module _ {insns : List Insn} {live_out : finite.FinSet nat_cmp} {table : Latencies} {cut early : ℕ → Bool} {n : ℕ}
    (known : IsFolding insns live_out table cut early n) {units : Units} {start now : Core}
    (tracks : Tracks units insns start n early (is_dead known) now) (number : ℕ) where
  abbrev graph : FlowGraph
  graph = graph_of insns live_out table

  abbrev is_out : ℕ → Bool
  is_out = is_output graph cut

  abbrev result : ℕ → ℕ
  result = uses.result_register insns

  abbrev outs : List ℕ
  outs = terms.outputs_of insns graph cut

  abbrev registers : List ℕ
  registers = uses.output_registers insns graph cut

  -- ---- the outputs by their places

  length-registers : length registers ≡ length outs
  length-registers = length-map outs result

  count_outs : length outs ≡ count_below (length insns) is_out
  count_outs = length-numbers_below (length insns) is_out

  at_place : (i : ℕ) → i < length registers → (o : ℕ) × IsNumberAt is_out (length insns) i o
  at_place i below = number_at is_out (length insns) i (omega (arith, length-registers, count_outs))

  register_at : (i : ℕ) (below : i < length registers) → slice_index registers i ≡ result (at_place i below).0
  register_at i below =
      get_or-map result outs i 0 0 (omega (arith, length-registers)) ∙ ap result ((at_place i below).1.there 0)

  place_below : (w : ℕ) → is_out w ≡ true → count_below w is_out < length registers
  place_below w is =
      omega (arith, length-registers, count_outs, count_below-more is_out w (length insns) is (member_within known w (output_member known w is)))

  register_of : (w : ℕ) → is_out w ≡ true → slice_index registers (count_below w is_out) ≡ result w
  register_of w is =
      get_or-map result outs (count_below w is_out) 0 0 (omega (arith, length-registers, place_below w is))
      ∙ ap result (number_there is_out (length insns) w 0 (member_within known w (output_member known w is)) is)

  -- a later place has a later output
  later_output : (w i : ℕ) → is_out w ≡ true → count_below w is_out < i → (below : i < length registers) → w < (at_place i below).0
  later_output w i is less below = elim (cases_lt w (at_place i below).0) [
    | inl before ↦ before
    | inr from ↦ absurd (let up = count_below-rises is_out (at_place i below).0 w from in omega (arith, up, (at_place i below).1.counted, less))
  ]

  -- ---- the use

  pub results_kept : (i : ℕ) → i < length registers → (slice_index registers i < first_hidden) × (is_kept (slice_index registers i) ≡ true)
  results_kept i below =
      let o = (at_place i below).0 in
      let member = output_member known o (at_place i below).1.passes in
      let named : result o < first_hidden = result_below (nth_insn insns o) (known.fit o (member_within known o member)) in
      let kept : is_kept (result o) ≡ true = (and_parts (is_kept (result o)) _ (joins (nth_insn insns o) (known.members o member).1).writes).0 in
      (subst (λ r. r < first_hidden) (sym (register_at i below)) named, subst (λ r. is_kept r ≡ true) (sym (register_at i below)) kept)

  module _ (takes : Bool) (further : units.further number ≡ (if takes then hidden_operands else [])) (passed : takes ≡ true → uses.passes graph cut ≡ true)
      (gives : terms.IsTripleOf (terms.unit_of insns graph cut) (inputs_now known tracks)
      (units.results number (values_in now (taken_from takes (uses.input_registers insns graph cut))))) where
    abbrev given : List ℕ
    given = units.results number (values_in now (taken_from takes (uses.input_registers insns graph cut)))

    value_of : (m : ℕ) → cut m ≡ true → slice_index gives.value.results (count_below m cut) ≡ register (core_at units insns start (suc m)) (result m)
    value_of = value_is known tracks gives.value.results
        (results_of_value (terms.unit_of insns graph cut) (inputs_now known tracks) gives.outputs gives.value)

    -- each output of the unit is what its member makes
    given_at_output : (w : ℕ) → is_out w ≡ true → slice_index_or given (count_below w is_out) 0 ≡ register (core_at units insns start (suc w)) (result w)
    given_at_output w is =
        let i = count_below w is_out in
        let numbers : List ℕ = map (λ k. count_below k cut) outs in
        let long : length outs ≡ length registers = sym length-registers in
        let made : List ℕ = map (slice_index gives.value.results) numbers in
        let same : gives.outputs ≡ made = gives.value.outputs_are in
        let within : i < length made = omega (arith, place_below w is, long, length-map numbers (slice_index gives.value.results), length-map outs (λ k. count_below k cut)) in
        ap (λ l. slice_index_or l i 0) gives.triple
        ∙ ap (λ l. slice_index_or (padded 3 l) i 0) same
        ∙ padded_at 3 made i within
        ∙ get_or-map (slice_index gives.value.results) numbers i 0 0 (omega (arith, within, length-map numbers (slice_index gives.value.results)))
        ∙ ap (slice_index gives.value.results)
        (get_or-map (λ k. count_below k cut) outs i 0 0 (omega (arith, place_below w is, long))
        ∙ ap (λ k. count_below k cut) (number_there is_out (length insns) w 0 (member_within known w (output_member known w is)) is))
        ∙ value_of w (output_member known w is)

    from_left : (behind : Core) → IsLeft registers given now behind → HasOutputs known tracks behind
    from_left behind left = record {
      others = λ q named none. left.others q named (λ i below same. none (at_place i below).0 (at_place i below).1.passes (sym (register_at i below) ∙ same));
      outputs = λ w is none.
          ap (register behind) (sym (register_of w is))
          ∙ left.there (count_below w is_out) (place_below w is) (λ j after below same.
          none (at_place j below).0 (later_output w j is after below) (at_place j below).1.passes
          (sym (register_at j below) ∙ same ∙ register_of w is))
          ∙ given_at_output w is;
      memory = left.memory;
      rest = record {
        heap_end = left.rest.heap_end ∙ tracks.rest.heap_end;
        input = left.rest.input ∙ tracks.rest.input;
        output = left.rest.output ∙ tracks.rest.output;
      };
    }

    pub use_makes : (behind : Core) × (act_all units (uses.use_of insns graph cut number) (at_start now) ≡ at_start behind) × HasOutputs known tracks behind
    use_makes =
        let (behind, run, left) =
        use_leaves units (uses.passes graph cut) takes number (uses.input_registers insns graph cut) registers now further passed
        (input_register_below insns live_out table cut known.fit) results_kept
        (omega (arith, length-registers, known.some_outputs)) (omega (arith, length-registers, known.few_outputs)) in
        (behind, run, from_left behind left)
