-- Steps through instructions that stand in the text, and the list of these: what they touch, and what they cost.
use Rattle.std.proofs.Common.{◌≡◌, ◌↔◌, ℕ, zero, suc, ◌+◌, refl, ap, sym, subst, ◌∙◌, arith, List, [], ◌∷◌, length, Option, Some, None, find}
use Rattle.std.specs.Prelude.{Bool, true, false, is_none}
use Rattle.std.specs.List.{list_all, sum_by}
use Rattle.std.proofs.lemmas.List.Sums.{sum_by-cons}
use Rattle.ci_word.proofs.NumberLaws.{sum_below-first, sum_below-zero, sum_below-same}
use Rattle.ci_isa.specs.declared.instruction.Insn.{Insn}
use Rattle.ci_isa.specs.Effects.{ends_block}
use Rattle.ci_machine.specs.declared.ends.End.{End}
use Rattle.ci_machine.specs.Cores.{Core}
use Rattle.ci_machine.specs.Accesses.{addresses}
use Rattle.ci_machine.specs.Outcomes.{Outcome, Next, Ended, reached, at_start}
use Rattle.ci_machine.specs.Actions.{Units, act, accessed}
use Rattle.ci_machine.specs.Agreement.{acted}
use Rattle.ci_machine.specs.Agreement.{act_all, AreActions, LeavesText, AllLeaveText}
use Rattle.ci_machine.specs.Programs.{Program, State, at_pc, in_text}
use Rattle.ci_machine.specs.Steps.{Meaning, insn_in, fetched, following, then_onward, step}
use Rattle.ci_machine.specs.Touches.{moved, touched}
use Rattle.ci_machine.specs.Runs.{Latencies, latency, before_step, is_made, step_cost, cost}
use Rattle.ci_machine.specs.Touches.{LeavesTextFor}
use Rattle.ci_machine.specs.Blocks.{StandAt, HaveSameText, GoesThrough}
use Rattle.ci_machine.proofs.TestLaws.{neither_first, neither_second}
use Rattle.ci_machine.proofs.BlockSteps.{first_goes_on, first_ends, same_insn, acts_there, kept_text, over}
use Rattle.ci_machine.proofs.TextLaws.{none_found, find_none, same_moved}

-- ---- the first step and the others

module _ (meaning : Meaning) (program : Program) where
  leaving_rest : (n : ℕ) (state next : State) → step meaning program state ≡ Next next → LeavesTextFor meaning program (suc n) state
      → LeavesTextFor meaning program n next
  leaving_rest n state next same clear i lt made =
      let went = first_goes_on meaning program i state next same in
      subst (λ run. touched meaning program run.state ≡ None) went (clear (suc i) (omega arith) (ap (λ run. is_none run.end) went ∙ made))

  leaving_more : (n : ℕ) (state next : State) → step meaning program state ≡ Next next → touched meaning program state ≡ None
      → LeavesTextFor meaning program n next → LeavesTextFor meaning program (suc n) state
  leaving_more n state next same first rest zero lt made = first
  leaving_more n state next same first rest (suc i) lt made =
      let went = first_goes_on meaning program i state next same in
      subst (λ run. touched meaning program run.state ≡ None) (sym went) (rest i (omega arith) (sym (ap (λ run. is_none run.end) went) ∙ made))

  leaving_ended : (n : ℕ) (state : State) (e : End) → step meaning program state ≡ Ended e → touched meaning program state ≡ None
      → LeavesTextFor meaning program (suc n) state
  leaving_ended n state e same first zero lt made = first
  leaving_ended n state e same first (suc i) lt made =
      let never : false ≡ true = sym (ap (λ run. is_none run.end) (first_ends meaning program i state e same)) ∙ made in cc

  cost_more : (latencies : Latencies) (n : ℕ) (state next : State) → step meaning program state ≡ Next next
      → cost meaning program latencies (suc n) state ≡ step_cost meaning program latencies state + cost meaning program latencies n next
  cost_more latencies n state next same =
      sum_below-first n (is_made meaning program state) (λ i. step_cost meaning program latencies (before_step meaning program state i))
      ∙ ap (λ rest. step_cost meaning program latencies state + rest)
      (sum_below-same n _ _ _ _ (λ i lt. ap (λ run. is_none run.end) (first_goes_on meaning program i state next same))
      (λ i lt made. ap (λ run. step_cost meaning program latencies run.state) (first_goes_on meaning program i state next same)))

-- ---- lists

over_leaves : (units : Units) (text : ℕ → Bool) (insns : List Insn) (core : Core) (e : End)
    → AllLeaveText units text insns (record { state = core; end = Some e })
over_leaves units text [] core e = tt
over_leaves units text (insn ∷ insns) core e = (λ on. cc, over_leaves units text insns core e)

module _ (meaning : Meaning) (program : Program) (memory : ℕ → Option ℕ) where
  -- the instruction that stands there is fetched
  fetched_there : (insn : Insn) (state : State) → insn_in meaning program memory state.pc ≡ Some insn → list_all (in_text program) (addresses 4 state.pc) ≡ true
      → HaveSameText program memory state.core.memory → fetched meaning program state ≡ Some insn
  fetched_there insn state there all same = sym (same_insn meaning program memory state.core.memory state.pc same all) ∙ there

  touched_is : (insn : Insn) (state : State) → fetched meaning program state ≡ Some insn → ends_block insn ≡ false
      → touched meaning program state ≡ find (in_text program) (accessed insn state.core)
  touched_is insn state found acts =
      ap (λ (f : Option Insn). elim f as (λ _. Option ℕ) [ None ↦ None | Some other ↦ find (in_text program) (moved other state.core) ]) found
      ∙ ap (find (in_text program)) (same_moved insn state.core acts)

  step_cost_is : (latencies : Latencies) (insn : Insn) (state : State) → fetched meaning program state ≡ Some insn
      → step_cost meaning program latencies state ≡ latency latencies insn
  step_cost_is latencies insn state found = ap (λ (f : Option Insn). elim f as (λ _. ℕ) [ None ↦ 0 | Some other ↦ latency latencies other ]) found

  -- steps leave the text alone where the list does
  pub leaving_alike : (insns : List Insn) (state : State) → StandAt meaning program memory state.pc insns
      → HaveSameText program memory state.core.memory → AreActions insns
      → LeavesTextFor meaning program (length insns) state ↔ AllLeaveText meaning.units (in_text program) insns (at_start state.core)
  leaving_alike [] state stand same acts = (λ clear. tt, λ all i lt made. absurd (omega arith))
  leaving_alike (insn ∷ insns) state (there, all, stand) same acts =
      let acting = neither_first (ends_block insn) _ acts in
      by_outcome (act meaning.units insn state.core) refl (touched_is insn state (fetched_there insn state there all same) acting)
      (acts_there meaning program memory insn state there all same acting) (λ next. leaving_alike insns next)
    where
      by_outcome : (o : Outcome Core) → act meaning.units insn state.core ≡ o
          → touched meaning program state ≡ find (in_text program) (accessed insn state.core)
          → step meaning program state ≡ then_onward state.pc (act meaning.units insn state.core)
          → ((next : State) → StandAt meaning program memory next.pc insns → HaveSameText program memory next.core.memory → AreActions insns
          → LeavesTextFor meaning program (length insns) next ↔ AllLeaveText meaning.units (in_text program) insns (at_start next.core))
          → LeavesTextFor meaning program (suc (length insns)) state
          ↔ AllLeaveText meaning.units (in_text program) (insn ∷ insns) (at_start state.core)
      by_outcome (Ended e) is touches made more = (
        λ clear. (
          λ on. none_found (in_text program) (accessed insn state.core) (sym touches ∙ clear 0 (omega arith) refl),
          subst (λ o. AllLeaveText meaning.units (in_text program) insns (reached state.core o)) (sym is)
              (over_leaves meaning.units (in_text program) insns state.core e),
        ),
        λ list.
            leaving_ended meaning program (length insns) state e (made ∙ ap (then_onward state.pc) is)
            (touches ∙ find_none (in_text program) (accessed insn state.core) (list.0 refl)),
      )
      by_outcome (Next core) is touches made more = (
        λ clear.
            let first = none_found (in_text program) (accessed insn state.core) (sym touches ∙ clear 0 (omega arith) refl) in (
              λ on. first,
              subst (λ o. AllLeaveText meaning.units (in_text program) insns (reached state.core o)) (sym is)
                  ((rest first).0 (leaving_rest meaning program (length insns) state (at_pc (following state.pc) core) went clear)),
            ),
        λ list.
            leaving_more meaning program (length insns) state (at_pc (following state.pc) core) went
            (touches ∙ find_none (in_text program) (accessed insn state.core) (list.0 refl))
            ((rest (list.0 refl)).1 (subst (λ o. AllLeaveText meaning.units (in_text program) insns (reached state.core o)) is list.1)),
      )
        where
          went : step meaning program state ≡ Next (at_pc (following state.pc) core)
          went = made ∙ ap (then_onward state.pc) is

          rest : LeavesText (in_text program) insn state.core
              → LeavesTextFor meaning program (length insns) (at_pc (following state.pc) core)
              ↔ AllLeaveText meaning.units (in_text program) insns (at_start core)
          rest first =
              more (at_pc (following state.pc) core) stand (kept_text meaning program memory insn state core is first same)
              (neither_second (ends_block insn) _ acts)

  -- ---- a list that is passed

  -- the first instruction acts, and the run goes through the others from the core that it reaches
  record IsPassed (insn : Insn) (insns : List Insn) (state : State) : Type 0 where
    core : Core
    found : fetched meaning program state ≡ Some insn
    went : step meaning program state ≡ Next (at_pc (following state.pc) core)
    rest : GoesThrough meaning program memory insns (at_pc (following state.pc) core)

  passed : (insn : Insn) (insns : List Insn) (state : State) → GoesThrough meaning program memory (insn ∷ insns) state
      → IsPassed insn insns state
  passed insn insns state through =
      by_outcome (act meaning.units insn state.core) refl
      (acts_there meaning program memory insn state stand.0 stand.1 through.same (neither_first (ends_block insn) _ through.acts))
    where
      stand : StandAt meaning program memory state.pc (insn ∷ insns)
      stand = through.stand

      by_outcome : (o : Outcome Core) → act meaning.units insn state.core ≡ o
          → step meaning program state ≡ then_onward state.pc (act meaning.units insn state.core) → IsPassed insn insns state
      by_outcome (Ended e) is made =
          let stopped : act_all meaning.units insns (acted meaning.units insn state.core) ≡ record { state = state.core; end = Some e } =
          ap (λ o. act_all meaning.units insns (reached state.core o)) is ∙ over meaning.units insns state.core e in
          absurd (let never : Some e ≡ None = sym (ap (λ run. run.end) stopped) ∙ through.on in cc)
      by_outcome (Next core) is made = record {
        core = core;
        found = fetched_there insn state stand.0 stand.1 through.same;
        went = made ∙ ap (then_onward state.pc) is;
        rest = record {
          stand = stand.2;
          same = kept_text meaning program memory insn state core is (through.clear.0 refl) through.same;
          acts = neither_second (ends_block insn) _ through.acts;
          clear = subst (λ o. AllLeaveText meaning.units (in_text program) insns (reached state.core o)) is through.clear.1;
          on = subst (λ o. (act_all meaning.units insns (reached state.core o)).end ≡ None) is through.on;
        };
      }

  pub block_costs : (latencies : Latencies) (insns : List Insn) (state : State) → GoesThrough meaning program memory insns state
      → cost meaning program latencies (length insns) state ≡ sum_by (latency latencies) insns
  block_costs latencies [] state through =
      sum_below-zero (is_made meaning program state) (λ i. step_cost meaning program latencies (before_step meaning program state i))
  block_costs latencies (insn ∷ insns) state through =
      let p = passed insn insns state through in
      cost_more meaning program latencies (length insns) state (at_pc (following state.pc) p.core) p.went
      ∙ (λ i. step_cost_is latencies insn state p.found i + block_costs latencies insns (at_pc (following state.pc) p.core) p.rest i)
      ∙ sym (sum_by-cons (latency latencies) insn insns)
