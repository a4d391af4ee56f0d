-- What a folded block needs of the registers, the block needs.
use Rattle.std.specs.Prelude.{◌≡◌, ◌≢◌, ℕ, zero, suc, ◌+◌, ◌<◌, ◌≤◌, ◌⊎◌, Bool, true, false, not, ◌&&◌, ◌==◌}
use Rattle.std.specs.Prelude.{List, [], ◌∷◌, ◌++◌, length, replicate, slice_index}
use Rattle.std.specs.FinSet as finite
use Rattle.std.specs.List.{list_any}
use Rattle.std.specs.Ordering.{nat_cmp}
use Rattle.std.proofs.Common.{refl, sym, ap, ◌∙◌, arith, inl, inr, true≢false}
use Rattle.std.proofs.lemmas.Bool.{cases_eq, cases_Bool, and_parts, and_from, and_left, or_cases, false_from_ne_true}
use Rattle.std.proofs.lemmas.Bool.Decides.{nat_tests}
use Rattle.ci_isa.specs.declared.instruction.Insn.{Insn}
use Rattle.ci_isa.specs.declared.instruction.Insn.TheVariants.{Unit, Cread, Cput}
use Rattle.ci_isa.specs.Effects.{operands, is_kept, is_among}
use Rattle.ci_isa.specs.Sequences.{nth_insn, latest_writer}
use Rattle.ci_isa.proofs.LastPassing.{last_or_none}
use Rattle.ci_isa.proofs.LastWriter.{written, last_writer, latest_writer_is_last, unwritten_before}
use Rattle.ci_isa.proofs.OperandLaws.{single_result}
use Rattle.ci_lat.specs.Latencies.{Latencies}
use Rattle.ci_machine.specs.Agreement.{writes}
use Rattle.ci_machine.specs.Cores.{first_hidden, hidden}
use Rattle.ci_machine.proofs.NamedReads.{reads, needed, needed-append}
use Rattle.ci_machine.proofs.TestLaws.{either_first}
use Rattle.ci_cut.specs.declared.graph.Source.{Source}
use Rattle.ci_cut.specs.declared.graph.Source.TheVariants.{Entry}
use Rattle.ci_cut.specs.declared.graph.Source.TheVariants.{Made}
use Rattle.ci_cut.specs.FlowGraph.{FlowGraph}
use Rattle.ci_cut.specs.Ports.{is_output}
use Rattle.ci_dfg.specs.Arcs.{true_arc}
use Rattle.ci_dfg.specs.BlockGraph.{graph_of}
use Rattle.ci_dfg.proofs.SourceLaws.{entry_is, made_is}
use Rattle.ci_unit.specs.Units as terms
use Rattle.ci_unit.specs.Uses as uses
use Rattle.ci_unit.proofs.SourceLaws.{not_true, given_at}
use Rattle.ci_rewrite.specs.FoldedBlock.{no_op, places_left}
use Rattle.ci_rewrite.proofs.Alive.{live_there}
use Rattle.ci_rewrite.proofs.CutNodes.{IsFolding, late, late_parts, is_dead, member_within, before_early, before_member, read_outside}
use Rattle.ci_rewrite.proofs.Lists.{whole_list}
use Rattle.ci_rewrite.proofs.ReadFirst.{IsReadFirst, no_ops_need, needed_parts, needed_from_set, needed_from_read}
use Rattle.ci_rewrite.proofs.Stages.{those_below}
use Rattle.ci_rewrite.proofs.Tracking.{reads_at}
use Rattle.ci_rewrite.proofs.UnitPorts.{IsInput, input_is, output_member}
use Rattle.ci_unit.proofs.CountLaws.{number_there}
use Rattle.ci_cut.proofs.RisingCounts.{count_below-more}
use Rattle.ci_unit.specs.UseWords.{reads_of, use_words}
use Rattle.ci_word.specs.Numbers.{count_below}
use Rattle.ci_word.proofs.NumberLaws.{length-numbers_below}
use Rattle.std.proofs.lemmas.List.{get_or-map, length-map}

module _ {insns : List Insn} {live_out : finite.FinSet nat_cmp} {table : Latencies} {cut early : ℕ → Bool} {n : ℕ}
    (known : IsFolding insns live_out table cut early n) (number r : ℕ) (other : r < first_hidden) where
  abbrev graph : FlowGraph
  graph = graph_of insns live_out table

  abbrev is_out : ℕ → Bool
  is_out = is_output graph cut

  abbrev result : ℕ → ℕ
  result = uses.result_register insns

  abbrev words : List Insn
  words = uses.use_of insns graph cut number

  abbrev alive : ℕ → Bool
  alive = finite.contains live_out

  abbrev IsNeeded : Type 0
  IsNeeded = needed insns alive r ≡ true

  -- no node of the test writes the register
  abbrev NoneOf : (ℕ → Bool) → Type 0
  NoneOf test = (j : ℕ) → j < length insns → test j ≡ true → written insns r j ≡ false

  -- ---- by a node

  -- node k reads it, before any node writes it
  entered : (k : ℕ) → k < length insns → reads_at insns k r ≡ true → ((j : ℕ) → j < k → written insns r j ≡ false) → IsNeeded
  entered k there read none =
      ap (λ l. needed l alive r) (whole_list insns)
      ∙ needed_from_read insns (λ _. true) r other (length insns) alive
      (record { node = k; below = there; passes = refl; read = read; unwritten = λ j below _. none j below })

  by_early : IsReadFirst insns early (length insns) r → IsNeeded
  by_early first = elim (last_or_none (written insns r) first.node) [
    | inl (w, last) ↦
        let w_early = before_early known w first.node first.below (true_arc w first.node r (last_writer last) first.read) first.passes in
        absurd (true≢false (sym last.passes ∙ first.unwritten w last.below w_early))
    | inr none ↦ entered first.node first.below first.read none
  ]

  -- what writes it is early, an output, late or dead
  someone : NoneOf early → NoneOf is_out → (w : ℕ) → w < length insns → written insns r w ≡ true → (late known w ≡ true → written insns r w ≡ false)
      → is_dead known w ≡ false → ⊥
  someone no_early no_output w there writes not_late not_dead =
      by_kind (cut w) (early w) (is_out w) (written insns r w) writes (no_early w there) (no_output w there) not_late not_dead
    where
      by_kind : (c e o w : Bool) → w ≡ true → (e ≡ true → w ≡ false) → (o ≡ true → w ≡ false) → ((not c && not e) ≡ true → w ≡ false)
          → (c && not o) ≡ false → ⊥
      by_kind c true o w is e_none o_none l_none alive_is = true≢false (sym is ∙ e_none refl)
      by_kind c false true w is e_none o_none l_none alive_is = true≢false (sym is ∙ o_none refl)
      by_kind true false false w is e_none o_none l_none alive_is = cc
      by_kind false false false w is e_none o_none l_none alive_is = true≢false (sym is ∙ l_none refl)

  -- by a late one, where no early node and no output writes it
  by_late : NoneOf early → NoneOf is_out → IsReadFirst insns (late known) (length insns) r → IsNeeded
  by_late no_early no_output first = elim (last_or_none (written insns r) first.node) [
    | inl (w, last) ↦ absurd (someone no_early no_output w (omega (arith, last.below, first.below)) last.passes (first.unwritten w last.below)
        (read_outside known first.node w r first.below (late_parts known first.node first.passes).0 first.read last))
    | inr none ↦ entered first.node first.below first.read none
  ]

  -- live behind the block, and written by none of them
  by_none : NoneOf early → NoneOf is_out → NoneOf (late known) → alive r ≡ true → IsNeeded
  by_none no_early no_output no_late live = elim (last_or_none (written insns r) (length insns)) [
    | inl (w, last) ↦ absurd (someone no_early no_output w last.below last.passes (no_late w last.below) (elim (cases_Bool (cut w)) [
      | inl member ↦
          live_there known r w (record {
            below = (known.members w member).0;
            passes = last.passes;
            none_behind = λ j behind below. last.none_behind j behind (omega (arith, known.actions.within));
          }) live last.none_behind
      | inr none ↦ and_left (cut w) (not (is_out w)) none
    ]))
    | inr none ↦ ap (λ l. needed l alive r) (whole_list insns) ∙ needed_from_set insns (λ _. true) r other (length insns) alive live (λ j below _. none j below)
  ]

  -- ---- by the unit word

  abbrev Input : Source → Type 0
  Input = IsInput insns live_out table cut known.fit

  -- a register that a member reads
  member_reads : (s : Source) (is : Input s) → is.register ≡ r → reads_at insns is.node r ≡ true
  member_reads s is same =
      ap (reads_at insns is.node) (sym same)
      ∙ and_from (is_kept is.register) (list_any (λ q. q == is.register) (operands (nth_insn insns is.node))) is.kept is.operand

  by_source : NoneOf early → (s : Source) → Input s → uses.register_of insns s ≡ r → IsNeeded
  by_source no_early (Entry q) is same =
      let (none, entry) = entry_is insns is.node is.register q is.same in
      let at_r : is.register ≡ r = entry ∙ same in
      entered is.node is.there (member_reads (Entry q) is at_r)
      (unwritten_before insns r is.node (ap (λ p. latest_writer insns p is.node) (sym at_r) ∙ none))
  by_source no_early (Made w) is same =
      let last = (latest_writer_is_last insns is.register is.node w).0 (made_is insns is.node is.register w is.same) in
      let at_r : is.register ≡ r = sym (single_result (nth_insn insns w) is.register last.writes) ∙ same in
      let before = before_member known w is.node is.there (true_arc w is.node is.register last
      (ap (reads_at insns is.node) at_r ∙ member_reads (Made w) is at_r)) is.member in
      absurd (true≢false (sym (ap (λ q. written insns q w) (sym at_r) ∙ last.writes)
      ∙ no_early w (omega (arith, last.before, is.there)) (either_first (early w) (cut w) before (not_true (cut w) is.outside))))

  abbrev input : ℕ → ℕ
  input = slice_index (uses.input_registers insns graph cut)

  abbrev registers : List ℕ
  registers = uses.output_registers insns graph cut

  no_zero : is_kept r ≡ true → r ≡ 0 → ⊥
  no_zero kept same = grind (arith, nat_tests)

  by_input : NoneOf early → is_kept r ≡ true → (i : ℕ) → r ≡ input i → IsNeeded
  by_input no_early kept i same = elim (given_at (uses.register_of insns) (terms.inputs_of insns graph cut) i) [
    | inl past ↦ absurd (no_zero kept (same ∙ past))
    | inr (s, among, is) ↦ by_source no_early s (input_is insns live_out table cut known.fit s among) (is ∙ sym same)
  ]

  kept_among : (list : List ℕ) → is_among list r ≡ true → is_kept r ≡ true
  kept_among list among = (and_parts (is_kept r) (list_any (λ n. n == r) list) among).0

  by_unit : NoneOf early → is_among (input 0 ∷ input 1 ∷ input 2 ∷ []) r ≡ true → IsNeeded
  by_unit no_early read = elim (cases_eq r (input 0)) [
    | inl same ↦ by_input no_early kept 0 same
    | inr not_first ↦ elim (cases_eq r (input 1)) [
      | inl same ↦ by_input no_early kept 1 same
      | inr not_second ↦ by_input no_early kept 2 (third (input 0) (input 1) (input 2) read not_first not_second)
    ]
  ]
    where
      kept : is_kept r ≡ true
      kept = kept_among (input 0 ∷ input 1 ∷ input 2 ∷ []) read

      third : (a b c : ℕ) → is_among (a ∷ b ∷ c ∷ []) r ≡ true → r ≢ a → r ≢ b → r ≡ c
      third a b c among no_a no_b = grind (arith, nat_tests, no_a, no_b)

  by_put : NoneOf early → is_among (input 3 ∷ input 4 ∷ []) r ≡ true → IsNeeded
  by_put no_early read = elim (cases_eq r (input 3)) [
    | inl same ↦ by_input no_early kept 3 same
    | inr not_first ↦ by_input no_early kept 4 (second (input 3) (input 4) read not_first)
  ]
    where
      kept : is_kept r ≡ true
      kept = kept_among (input 3 ∷ input 4 ∷ []) read

      second : (a b : ℕ) → is_among (a ∷ b ∷ []) r ≡ true → r ≢ a → r ≡ b
      second a b among no_a = grind (arith, nat_tests, no_a)

  -- ---- by the words of the use

  -- none of the registers is the one
  abbrev NoneIs : List ℕ → Type 0
  NoneIs list = (i : ℕ) → i < length list → is_among (slice_index list i ∷ []) r ≡ false

  not_hidden : (index : ℕ) → is_among ((32 + index) ∷ []) r ≡ true → ⊥
  not_hidden index among = grind (arith, nat_tests, other)

  by_reads : (index : ℕ) (list : List ℕ) (set : ℕ → Bool) → needed (reads_of index list) set r ≡ true → (set r ≡ true) × NoneIs list
  by_reads index [] set is = (is, λ i below. absurd (omega arith))
  by_reads index (q ∷ list) set is =
      elim (or_cases (reads (Cread q index) r) (needed (reads_of (suc index) list) set r && not (writes (Cread q index) r)) is) [
        | inl read ↦ absurd (not_hidden index read)
        | inr kept ↦
            let (rest, none) = and_parts (needed (reads_of (suc index) list) set r) (not (writes (Cread q index) r)) kept in
            let (is_set, others) = by_reads (suc index) list set rest in
            (is_set, first_too q list (not_true (is_among (q ∷ []) r) none) others)
      ]
    where
      first_too : (q : ℕ) (list : List ℕ) → is_among (q ∷ []) r ≡ false → NoneIs list → NoneIs (q ∷ list)
      first_too q list none others zero below = none
      first_too q list none others (suc i) below = others i (omega arith)

  by_unit_and_reads : NoneOf early → (rd : ℕ) (list : List ℕ) (set : ℕ → Bool)
      → needed (Unit number rd (input 0) (input 1) (input 2) ∷ reads_of 0 list) set r ≡ true
      → IsNeeded ⊎ ((set r ≡ true) × NoneIs (rd ∷ list))
  by_unit_and_reads no_early rd list set is =
      elim (or_cases (reads (Unit number rd (input 0) (input 1) (input 2)) r)
      (needed (reads_of 0 list) set r && not (writes (Unit number rd (input 0) (input 1) (input 2)) r)) is) [
        | inl read ↦ inl (by_unit no_early read)
        | inr kept ↦
            let (rest, none) = and_parts (needed (reads_of 0 list) set r) (not (writes (Unit number rd (input 0) (input 1) (input 2)) r)) kept in
            let (is_set, others) = by_reads 0 list set rest in
            inr (is_set, both rd list (alone rd (not_true (is_among (rd ∷ hidden) r) none)) others)
      ]
    where
      alone : (rd : ℕ) → is_among (rd ∷ hidden) r ≡ false → is_among (rd ∷ []) r ≡ false
      alone rd none = grind (arith, nat_tests)

      both : (q : ℕ) (list : List ℕ) → is_among (q ∷ []) r ≡ false → NoneIs list → NoneIs (q ∷ list)
      both q list none others zero below = none
      both q list none others (suc i) below = others i (omega arith)

  by_words : NoneOf early → (b : Bool) (list : List ℕ) (set : ℕ → Bool) → 1 ≤ length list
      → needed (use_words b number (uses.input_registers insns graph cut) list) set r ≡ true → IsNeeded ⊎ ((set r ≡ true) × NoneIs list)
  by_words no_early b [] set some is = absurd (omega arith)
  by_words no_early false (rd ∷ list) set some is = by_unit_and_reads no_early rd list set is
  by_words no_early true (rd ∷ list) set some is =
      elim (or_cases (reads (Cput (input 3) (input 4)) r)
      (needed (Unit number rd (input 0) (input 1) (input 2) ∷ reads_of 0 list) set r && not (writes (Cput (input 3) (input 4)) r)) is) [
        | inl read ↦ inl (by_put no_early read)
        | inr kept ↦ by_unit_and_reads no_early rd list set
            (and_parts (needed (Unit number rd (input 0) (input 1) (input 2) ∷ reads_of 0 list) set r) (not (writes (Cput (input 3) (input 4)) r)) kept).0
      ]

  itself : (q : ℕ) → is_kept q ≡ true → is_among (q ∷ []) q ≡ true
  itself q kept = grind (arith, nat_tests)

  by_used : NoneOf early → (set : ℕ → Bool) → needed words set r ≡ true → IsNeeded ⊎ ((set r ≡ true) × NoneOf is_out)
  by_used no_early set is =
      elim (by_words no_early (uses.passes graph cut) registers set (omega (arith, length-map (terms.outputs_of insns graph cut) result, known.some_outputs)) is) [
        | inl found ↦ inl found
        | inr (is_set, none) ↦ inr (is_set, λ o there o_is. unwritten o o_is none)
      ]
    where
      unwritten : (o : ℕ) → is_out o ≡ true → NoneIs registers → written insns r o ≡ false
      unwritten o o_is none = false_from_ne_true (written insns r o) (λ writes.
          let within = member_within known o (output_member known o o_is) in
          let i = count_below o is_out in
          let below : i < length registers = omega (
            arith,
            length-map (terms.outputs_of insns graph cut) result,
            length-numbers_below (length insns) is_out,
            count_below-more is_out o (length insns) o_is within,
          ) in
          let at : slice_index registers i ≡ result o =
          get_or-map result (terms.outputs_of insns graph cut) i 0 0 (omega (arith, below, length-map (terms.outputs_of insns graph cut) result))
          ∙ ap result (number_there is_out (length insns) o 0 within o_is) in
          let is_r : result o ≡ r = single_result (nth_insn insns o) r writes in
          true≢false (sym (itself r (and_parts (is_kept r) _ writes).0) ∙ sym (ap (λ q. is_among (q ∷ []) r) (at ∙ is_r)) ∙ none i below))

  -- ---- by the folded block

  abbrev early_list : List Insn
  early_list = those_below insns early (length insns)

  abbrev no_ops : List Insn
  no_ops = replicate (places_left graph cut) no_op

  abbrev late_list : List Insn
  late_list = those_below insns (late known) (length insns)

  pub needed_before :
      needed (early_list ++ words ++ no_ops ++ late_list) alive r ≡ true → IsNeeded
  needed_before is = elim (needed_parts insns early r other (length insns) (needed words behind) (sym (split alive) ∙ is)) [
    | inl first ↦ by_early first
    | inr (more, no_early) ↦ elim (by_used no_early behind more) [
      | inl found ↦ found
      | inr (rest, no_output) ↦
          elim (needed_parts insns (late known) r other (length insns) alive (sym (no_ops_need (places_left graph cut) (needed late_list alive) r) ∙ rest)) [
            | inl first ↦ by_late no_early no_output first
            | inr (live, no_late) ↦ by_none no_early no_output no_late live
          ]
    ]
  ]
    where
      behind : ℕ → Bool
      behind = needed no_ops (needed late_list alive)

      split : (set : ℕ → Bool) → needed (early_list ++ words ++ no_ops ++ late_list) set r
          ≡ needed early_list (needed words (needed no_ops (needed late_list set))) r
      split set =
          needed-append (early_list ++ words ++ no_ops) late_list set r
          ∙ needed-append (early_list ++ words) no_ops (needed late_list set) r
          ∙ needed-append early_list words (needed no_ops (needed late_list set)) r
