-- A folded block has the same effect as the block.
use Rattle.std.specs.Prelude.{◌≡◌, ℕ, zero, suc, ◌+◌, ◌<◌, ◌≤◌, if◌then◌else◌, Bool, true, false, not, ◌&&◌, ◌||◌, nat_lt}
use Rattle.std.specs.Prelude.{List, [], ◌∷◌, ◌++◌, replicate, slice_index, drop, None, Some}
use Rattle.std.specs.FinSet as finite
use Rattle.std.specs.List.{list_any}
use Rattle.std.specs.Ordering.{nat_cmp}
use Rattle.std.proofs.Common.{refl, sym, ap, ◌∙◌, subst, arith, inl, inr}
use Rattle.std.proofs.lemmas.Bool.{or_cases, lt-ltb}
use Rattle.std.proofs.lemmas.Bool.Decides.{nat_tests}
use Rattle.std.proofs.lemmas.List.Elements.{All-contains}
use Rattle.ci_isa.specs.declared.instruction.Insn.{Insn}
use Rattle.ci_isa.specs.Effects.{is_access, is_among}
use Rattle.ci_isa.specs.Sequences.{nth_insn}
use Rattle.ci_isa.proofs.LastPassing.{IsLast}
use Rattle.ci_isa.proofs.LastWriter.{written}
use Rattle.ci_isa.proofs.OperandLaws.{joins}
use Rattle.ci_lat.specs.Latencies.{Latencies}
use Rattle.ci_machine.specs.declared.ends.End.{End}
use Rattle.ci_machine.specs.Cores.{Core, first_hidden, hidden_operands, register, values_in}
use Rattle.ci_unit.specs.UseWords.{reads_of, use_words}
use Rattle.ci_rewrite.specs.private.Bundles.{taken_from}
use Rattle.ci_machine.specs.Agreement.{TakeHidden}
use Rattle.ci_rewrite.specs.private.Bundles.{TakeGiven}
use Rattle.ci_rewrite.proofs.FollowLaws.{take_given}
use Rattle.ci_machine.specs.Outcomes.{Reached, Next, at_start}
use Rattle.ci_machine.specs.Actions.{Units, act}
use Rattle.ci_machine.specs.Agreement.{act_all, AreRelated, LeavesText, AllLeaveText}
use Rattle.ci_machine.specs.Words.{HoldsWords, MakesWords}
use Rattle.ci_machine.proofs.TestLaws.{by_end, no_end}
use Rattle.ci_machine.proofs.BlockSteps.{over_stays}
use Rattle.ci_machine.proofs.InstructionFrame.{keeps}
use Rattle.ci_machine.proofs.LeavingLists.{leaves-append, quiet_list}
use Rattle.ci_machine.proofs.RegisterLaws.{x0_stays}
use Rattle.ci_machine.proofs.RelatedLists.{act_all-append, goes_on, idle_stays}
use Rattle.ci_machine.proofs.WordLaws.{values_words, lists_words}
use Rattle.ci_cut.specs.FlowGraph.{FlowGraph}
use Rattle.ci_dfg.specs.BlockGraph.{graph_of}
use Rattle.ci_unit.specs.Units as terms
use Rattle.ci_unit.specs.Uses as uses
use Rattle.ci_rewrite.specs.FoldedBlock.{no_op, places_left}
use Rattle.ci_rewrite.proofs.PassedUnits.{ServePassed, ComputesPassed}
use Rattle.ci_rewrite.proofs.AllNodes.{all_related, start_follows}
use Rattle.ci_rewrite.proofs.Contraction.{HasOutputs, tracks_gathered}
use Rattle.ci_rewrite.proofs.CutNodes.{IsFolding, late, is_dead, within}
use Rattle.ci_rewrite.proofs.Lists.{all_those}
use Rattle.ci_rewrite.proofs.Orders.{early_order, late_order, block_order}
use Rattle.ci_rewrite.proofs.Stages.{IsStage, those_below, up_to, stage}
use Rattle.ci_rewrite.proofs.Tracking.{Tracks, Follows, IsBody, core_at, end_at, goes_to_memory, follows_same}
use Rattle.ci_rewrite.proofs.UnitPorts.{in_place, folded_actions}
use Rattle.ci_rewrite.proofs.UnitSteps.{use_makes}

-- ---- no-ops

quiet_no_ops : (count : ℕ) → list_any is_access (replicate count no_op) ≡ false
quiet_no_ops zero = refl
quiet_no_ops (suc count) = quiet_no_ops count

-- ---- the folded block

module _ {insns : List Insn} {live_out : finite.FinSet nat_cmp} {table : Latencies} {cut early : ℕ → Bool} {n : ℕ}
    (known : IsFolding insns live_out table cut early n) {units : Units} (number : ℕ)
    (serve : ServePassed units insns) (gives : ComputesPassed units (uses.passes (graph_of insns live_out table) cut) number (terms.unit_of insns (graph_of insns live_out table) cut)) where
  abbrev graph : FlowGraph
  graph = graph_of insns live_out table

  abbrev dead : ℕ → Bool
  dead = is_dead known

  abbrev used : List Insn
  used = uses.use_of insns graph cut number

  abbrev in_its_place : List Insn
  in_its_place = in_place known number

  given : TakeGiven units insns
  given = take_given units insns serve.operands serve.bare

  abbrev passes : Bool
  passes = uses.passes graph cut

  abbrev in_registers : List ℕ
  in_registers = uses.input_registers insns graph cut

  -- what the unit gives, from a core of words
  gives_at : (core : Core) → HoldsWords core
      → terms.IsTripleOf (terms.unit_of insns graph cut) (values_in core (taken_from true in_registers))
      (units.results number (values_in core (taken_from gives.takes in_registers)))
  gives_at core holds =
      subst (λ l. terms.IsTripleOf (terms.unit_of insns graph cut) (values_in core (taken_from true in_registers)) (units.results number l))
      (pick gives.takes) (gives.value _ _ _ _ _ (values_words core holds (taken_from true in_registers)))
    where
      at : ℕ → ℕ
      at i = register core (slice_index in_registers i)

      pick : (b : Bool) → at 0 ∷ at 1 ∷ at 2 ∷ (if b then at 3 ∷ at 4 ∷ [] else []) ≡ values_in core (taken_from b in_registers)
      pick true = refl
      pick false = refl

  -- the use of the unit goes to no memory
  quiet_reads : (index : ℕ) (registers : List ℕ) → list_any is_access (reads_of index registers) ≡ false
  quiet_reads index [] = refl
  quiet_reads index (r ∷ registers) = quiet_reads (suc index) registers

  quiet_words : (b : Bool) (inputs outputs : List ℕ) → list_any is_access (use_words b number inputs outputs) ≡ false
  quiet_words true inputs outputs = quiet_reads 0 (drop 1 outputs)
  quiet_words false inputs outputs = quiet_reads 0 (drop 1 outputs)

  quiet_use : list_any is_access used ≡ false
  quiet_use = quiet_words passes (uses.input_registers insns graph cut) (uses.output_registers insns graph cut)

  module _ (start : Core) (holds : HoldsWords start) (text : ℕ → Bool)
      (clear : (k : ℕ) → k < n → goes_to_memory insns k ≡ true → ((j : ℕ) → j < k → end_at units insns start j ≡ None)
      → LeavesText text (nth_insn insns k) (core_at units insns start k)) where
    hidden_ones : TakeHidden units
    hidden_ones number r among = low r (serve.operands number r among)
      where
        low : (r : ℕ) → is_among hidden_operands r ≡ true → first_hidden ≤ r
        low r is = grind (arith, nat_tests)

    body : IsBody units insns start n text
    body = record {
      hidden_ones = hidden_ones;
      acts = known.actions.act;
      clear = clear;
    }

    -- the block
    block_stage : IsStage units insns start n text (λ _. false) (λ _. false) (λ _. true) (at_start start) n
    block_stage = stage units insns start n text (λ _. false) (λ _. false) (λ _. true) (at_start start) body
        (block_order known units given start) (start_follows units insns start n (λ _. false)) n (omega arith)

    -- the nodes before the unit
    early_stage : IsStage units insns start n text (λ _. false) dead early (at_start start) n
    early_stage = stage units insns start n text (λ _. false) dead early (at_start start) body
        (early_order known units given start) (start_follows units insns start n dead) n (omega arith)

    abbrev before_unit : Reached Core
    before_unit = act_all units (those_below insns early n) (at_start start)

    words_before : HoldsWords before_unit.state
    words_before = lists_words units (those_below insns early n) (at_start start)
        (λ insn. All-contains (MakesWords units) (those_below insns early n) insn
        (all_those (MakesWords units) insns early n (λ k below is. serve.words k (within known k below)))) holds

    early_follows : Follows units insns start n early dead before_unit
    early_follows =
        follows_same units insns start n (up_to (λ _. false) early n) early dead before_unit (λ j below. all_there (early j) j below) early_stage.follows
      where
        all_there : (e : Bool) (j : ℕ) → j < n → (false || (e && nat_lt j n)) ≡ e
        all_there e j below = grind (arith, nat_tests)

    -- the unit
    abbrev gathered : ℕ → Bool
    gathered j = early j || cut j

    abbrev behind_unit_run : Reached Core
    behind_unit_run = act_all units in_its_place before_unit

    unit_follows : Follows units insns start n gathered dead behind_unit_run
    unit_follows = by_end before_unit.end going_on over
      where
        no_ops : behind_unit_run ≡ act_all units used before_unit
        no_ops =
            act_all-append units used (replicate (places_left graph cut) no_op) before_unit
            ∙ idle_stays units no_op (λ core i. Next (x0_stays core 0 i)) (places_left graph cut) (act_all units used before_unit)

        going_on : before_unit.end ≡ None → Follows units insns start n gathered dead behind_unit_run
        going_on on =
            let (behind, run, has) = use_makes known tracks number gives.takes gives.further gives.passed (gives_at before_unit.state words_before) in
            made behind (no_ops ∙ ap (act_all units used) (λ i. record { state = before_unit.state; end = on i }) ∙ run) has
          where
            tracks : Tracks units insns start n early dead before_unit.state
            tracks = early_follows.going on

            made : (core : Core) → behind_unit_run ≡ at_start core → HasOutputs known tracks core
                → Follows units insns start n gathered dead behind_unit_run
            made core same has = subst (Follows units insns start n gathered dead) (sym same) (record {
              going = λ _. tracks_gathered known tracks core has;
              unended = λ _ j below acted. elim (or_cases (early j) (cut j) acted) [
                | inl is_early ↦ early_follows.unended on j below is_early
                | inr member ↦
                    (keeps units (nth_insn insns j) (core_at units insns start j)).goes_on (joins (nth_insn insns j) (known.members j member).1).no_access
              ];
              stopped = λ e is. cc;
            })

        over : (e : End) → before_unit.end ≡ Some e → Follows units insns start n gathered dead behind_unit_run
        over e ended = subst (Follows units insns start n gathered dead) (sym (over_stays units in_its_place before_unit e ended)) (record {
          going = λ on. absurd (no_end _ e on ended);
          unended = λ on. absurd (no_end _ e on ended);
          stopped = early_follows.stopped;
        })

    -- the nodes behind the unit
    late_stage : IsStage units insns start n text gathered dead (late known) behind_unit_run n
    late_stage = stage units insns start n text gathered dead (late known) behind_unit_run body (late_order known units given start) unit_follows n (omega arith)

    -- ---- the law

    pub folded_leaves_text : AllLeaveText units text (folded_actions known number) (at_start start)
    folded_leaves_text =
        leaves-append text units (those_below insns early n ++ in_its_place) (those_below insns (late known) n) (at_start start)
        (leaves-append text units (those_below insns early n) in_its_place (at_start start) early_stage.leaves_text
        (leaves-append text units used (replicate (places_left graph cut) no_op) before_unit (quiet_list text units used before_unit quiet_use)
        (quiet_list text units _ _ (quiet_no_ops (places_left graph cut)))))
        (subst (λ run. AllLeaveText units text (those_below insns (late known) n) run)
        (sym (act_all-append units (those_below insns early n) in_its_place (at_start start))) late_stage.leaves_text)

    folded_run : act_all units (folded_actions known number) (at_start start) ≡ act_all units (those_below insns (late known) n) behind_unit_run
    folded_run =
        act_all-append units (those_below insns early n ++ in_its_place) (those_below insns (late known) n) (at_start start)
        ∙ ap (act_all units (those_below insns (late known) n)) (act_all-append units (those_below insns early n) in_its_place (at_start start))

    module _ (alive : ℕ → Bool) (named : (r : ℕ) → alive r ≡ true → r < first_hidden)
        (living : (r w : ℕ) → alive r ≡ true → IsLast (written insns r) n w → dead w ≡ false) where
      pub same_runs : AreRelated (λ _. false) alive
          (act_all units (those_below insns (λ _. true) n) (at_start start)) (act_all units (folded_actions known number) (at_start start))
      same_runs = all_related
          (follows_same units insns start n (up_to (λ _. false) (λ _. true) n) (λ j. nat_lt j n) (λ _. false) _
          (λ j below. all_there (nat_lt j n)) block_stage.follows)
          (subst (Follows units insns start n (λ j. nat_lt j n) dead) (sym folded_run)
          (follows_same units insns start n (up_to gathered (late known) n) (λ j. nat_lt j n) dead _
          (λ j below. whole (early j) (cut j) j below) late_stage.follows))
          (λ j below. lt-ltb j n below) alive named (λ r w is last. (refl, living r w is last))
        where
          all_there : (t : Bool) → (false || (true && t)) ≡ t
          all_there t = grind arith

          whole : (e c : Bool) (j : ℕ) → j < n → ((e || c) || ((not c && not e) && nat_lt j n)) ≡ nat_lt j n
          whole true c j below = grind (arith, nat_tests)
          whole false c j below = grind (arith, nat_tests)
