-- A run through a block: what its first steps do, and what all of them cost.
use Rattle.std.specs.Prelude.{true, false, if◌then◌else◌, is_none, sum_by, All}
use Rattle.std.proofs.Common.{◌≡◌, ℕ, suc, ◌+◌, ◌-◌, ◌<◌, ◌≤◌, refl, sym, ap, ◌∙◌, subst, arith, inl, inr, List, [], ◌∷◌, length, take, Option, Some, None}
use Rattle.std.proofs.lemmas.Bool.{cases_lt}
use Rattle.std.proofs.lemmas.List.Folds.{list_any_none}
use Rattle.std.proofs.lemmas.List.Sums.{sum_by-take-drop}
use Rattle.ci_word.proofs.NumberLaws.{sum_below-suc}
use Rattle.ci_isa.specs.declared.instruction.Insn.{Insn}
use Rattle.ci_isa.specs.Effects.{ends_block}
use Rattle.ci_isa.specs.Sequences.{nth_insn}
use Rattle.ci_machine.specs.declared.ends.End.{End}
use Rattle.ci_machine.specs.Agreement.{act_all, AreActions, AllLeaveText}
use Rattle.ci_machine.specs.Blocks.{StandAt, HaveSameText, IsRunOf, behind}
use Rattle.ci_machine.specs.Outcomes.{at_start}
use Rattle.ci_machine.specs.Programs.{Program, State, in_text}
use Rattle.ci_machine.specs.Runs.{Latencies, latency, after, before_step, is_made, step_cost, cost}
use Rattle.ci_machine.specs.Steps.{Meaning, following}
use Rattle.ci_machine.specs.Touches.{LeavesTextFor}
use Rattle.ci_machine.proofs.BlockSteps.{block_steps, same_insn}
use Rattle.ci_machine.proofs.EndLaws.{lists_keep_streams}
use Rattle.ci_machine.proofs.RunLaws.{ends_stay}
use Rattle.ci_machine.proofs.StandingLists.{length_first, stand_first}
use Rattle.ci_machine.proofs.StepLists.{leaving_alike, block_costs}
use Rattle.ci_rewrite.specs.Blocks.{IsBlock}
use Rattle.ci_rewrite.specs.Costs.{cost_of}
use Rattle.ci_rewrite.proofs.Lists.{all_those, behind_first, take_those}
use Rattle.ci_rewrite.proofs.Steps.{last_is_fetched}

module _ (meaning : Meaning) (program : Program) where
  -- what stands in the text stands there in all memories with the same text
  pub stands_later : (memory later : ℕ → Option ℕ) → HaveSameText program memory later → (insns : List Insn) (address : ℕ)
      → StandAt meaning program memory address insns → StandAt meaning program later address insns
  stands_later memory later same [] address stand = tt
  stands_later memory later same (insn ∷ insns) address (there, all, stand) = (
    sym (same_insn meaning program memory later address same all) ∙ there,
    all,
    stands_later memory later same insns (following address) stand,
  )

  module _ (insns : List Insn) (n : ℕ) (state : State) (block : IsBlock insns n)
      (stands : StandAt meaning program state.core.memory state.pc insns) (leaves : LeavesTextFor meaning program n state) where
    -- ---- the first steps

    module _ (c : ℕ) (le : c ≤ n) where
      abbrev first : List Insn
      first = take c insns

      as_long : length first ≡ c
      as_long = length_first insns c (omega (arith, block.actions.within))

      stand : StandAt meaning program state.core.memory state.pc first
      stand = stand_first meaning program state.core.memory insns c state.pc stands

      acts : AreActions first
      acts =
          list_any_none ends_block first
          (subst (All (λ insn. ends_block insn ≡ false)) (sym (take_those insns c (omega (arith, block.actions.within))))
          (all_those (λ insn. ends_block insn ≡ false) insns (λ _. true) c (λ k below is. block.actions.act k (omega arith))))

      clear : AllLeaveText meaning.units (in_text program) first (at_start state.core)
      clear =
          (leaving_alike meaning program state.core.memory first state stand (λ a text. refl) acts).0
          (subst (λ m. LeavesTextFor meaning program m state) (sym as_long) (λ i below made. leaves i (omega arith) made))

      -- c steps do what the first c instructions do
      pub first_run : IsRunOf first state.pc (after meaning program c state) (act_all meaning.units first (at_start state.core))
      first_run =
          subst (λ m. IsRunOf first state.pc (after meaning program m state) (act_all meaning.units first (at_start state.core))) as_long
          (block_steps meaning program state.core.memory first state stand (λ a text. refl) acts clear)

      -- so they put no output,
      pub output_stays : (after meaning program c state).state.core.output ≡ state.core.output
      output_stays = ap (λ core. core.output) first_run.core ∙ sym (lists_keep_streams meaning.units first (at_start state.core)).output

      -- and lead behind those
      pub leads_behind : (after meaning program c state).end ≡ None → (after meaning program c state).state.pc ≡ behind first state.pc
      leads_behind on = first_run.pc (sym first_run.end ∙ on)

    -- where an action ends the run, all further steps put no output
    pub output_ended : (e : End) → (after meaning program n state).end ≡ Some e → (c : ℕ) → (after meaning program c state).state.core.output ≡ state.core.output
    output_ended e ended c = elim (cases_lt c n) [
      | inl below ↦ output_stays c (omega arith)
      | inr from ↦
          ap (λ m. (after meaning program m state).state.core.output) (let same : c ≡ n + (c - n) = omega arith in same)
          ∙ ap (λ run. run.state.core.output) (ends_stay meaning program n (c - n) state (λ none. let never : Some e ≡ None = sym ended ∙ none in cc))
          ∙ output_stays n (omega arith)
    ]

    -- ---- costs

    module _ (on : (after meaning program n state).end ≡ None) (latencies : Latencies) where
      actions_cost : cost meaning program latencies n state ≡ sum_by (latency latencies) (take n insns)
      actions_cost =
          let le : n ≤ n = omega arith in
          ap (λ m. cost meaning program latencies m state) (sym (as_long n le))
          ∙ block_costs meaning program state.core.memory latencies (take n insns) state (record {
            stand = stand n le;
            same = λ a text. refl;
            acts = acts n le;
            clear = clear n le;
            on = sym (first_run n le).end ∙ on;
          })

      last_cost : n < length insns → cost meaning program latencies (suc n) state
          ≡ sum_by (latency latencies) (take n insns) + latency latencies (nth_insn insns n)
      last_cost below =
          sum_below-suc n (is_made meaning program state) (λ i. step_cost meaning program latencies (before_step meaning program state i))
          ∙ (λ i. actions_cost i + (if is_none (on i) then step_cost meaning program latencies (after meaning program n state).state else 0))
          ∙ ap (λ (found : Option Insn). sum_by (latency latencies) (take n insns) + (elim found as (λ _. ℕ) [ None ↦ 0 | Some insn ↦ latency latencies insn ]))
          (last_is_fetched meaning program insns n state block below stands leaves on)

      -- Where no action of a block ends the run, all its steps, with that of its last instruction, cost what the block
      -- does.
      pub costs_of_block : cost meaning program latencies (length insns) state ≡ cost_of latencies insns
      costs_of_block = elim (behind_first insns n block.actions.most) [
        | inl (short, same) ↦
            let behind_cost = ap (sum_by (latency latencies)) same in
            let all = sum_by-take-drop (latency latencies) insns n in
            ap (λ m. cost meaning program latencies m state) (let as_many : length insns ≡ n = omega (arith, block.actions.within) in as_many)
            ∙ actions_cost ∙ whole (sum_by (latency latencies) (take n insns)) _ _ all behind_cost
        | inr (below, same) ↦
            let behind_cost = ap (sum_by (latency latencies)) same in
            let all = sum_by-take-drop (latency latencies) insns n in
            ap (λ m. cost meaning program latencies m state) (let as_many : length insns ≡ suc n = omega (arith, block.actions.most) in as_many)
            ∙ last_cost below ∙ more (sum_by (latency latencies) (take n insns)) _ _ _ all behind_cost
      ]
        where
          whole : (first rest all : ℕ) → first + rest ≡ all → rest ≡ 0 → first ≡ all
          whole first rest all sum none = omega arith

          more : (first rest all last : ℕ) → first + rest ≡ all → rest ≡ 0 + last → first + last ≡ all
          more first rest all last sum one = omega arith
