-- What is counted over m steps and n more.
use Rattle.std.proofs.Common.{◌≡◌, ℕ, ◌+◌, ◌-◌, ◌<◌, ◌≤◌, inl, inr, ap, sym, subst, ◌∙◌, arith, add-zero, Some, None}
use Rattle.std.specs.Prelude.{Bool, true, false, ◌==◌, ◌&&◌, is_none, ◌↔◌}
use Rattle.std.proofs.lemmas.Bool.{cases_lt}
use Rattle.ci_word.proofs.NumberLaws.{count_below-add, count_below-none, count_below-same, sum_below-add, sum_below-none, sum_below-same}
use Rattle.ci_machine.specs.Programs.{Program, State, in_text}
use Rattle.ci_machine.specs.Steps.{Meaning}
use Rattle.ci_machine.specs.Touches.{touched}
use Rattle.ci_machine.specs.Runs.{Latencies, after, before_step, is_made, step_cost, cost, steps_made}
use Rattle.ci_machine.specs.RunEvents.{entries, jalr_target, IsTame}
use Rattle.ci_machine.specs.Touches.{LeavesTextFor}
use Rattle.ci_machine.specs.RunLaws.{AreJoined, AreOver}
use Rattle.ci_machine.proofs.TestLaws.{by_end}
use Rattle.ci_machine.proofs.RunLaws.{runs_join, ends_stay}

module _ (meaning : Meaning) (program : Program) (m n : ℕ) (state : State) where
  -- the place behind the first m
  place : (i : ℕ) → m ≤ i → m + (i - m) ≡ i
  place i le = omega arith

  -- where the first steps met no end
  module _ (on : (after meaning program m state).end ≡ None) where
    abbrev then_from : State
    then_from = (after meaning program m state).state

    later : (i : ℕ) → after meaning program (m + i) state ≡ after meaning program i then_from
    later i = runs_join meaning program m i state on

    later_made : (i : ℕ) → is_made meaning program state (m + i) ≡ is_made meaning program then_from i
    later_made i = ap (λ run. is_none run.end) (later i)

    cost_join : (latencies : Latencies) → cost meaning program latencies (m + n) state
        ≡ cost meaning program latencies m state + cost meaning program latencies n then_from
    cost_join latencies =
        sum_below-add m n (is_made meaning program state) (λ i. step_cost meaning program latencies (before_step meaning program state i))
        ∙ ap (λ more. cost meaning program latencies m state + more)
        (sum_below-same n _ _ _ _ (λ i lt. later_made i) (λ i lt made. ap (λ run. step_cost meaning program latencies run.state) (later i)))

    entries_join : (address : ℕ) → entries meaning program (m + n) state address
        ≡ entries meaning program m state address + entries meaning program n then_from address
    entries_join address =
        count_below-add m n (λ i. is_made meaning program state i && (before_step meaning program state i).pc == address)
        ∙ ap (λ more. entries meaning program m state address + more)
        (count_below-same n _ _ (λ i lt. ap (λ run. is_none run.end && run.state.pc == address) (later i)))

    module _ (P : State → Type 0) where
      abbrev Each : ℕ → State → Type 0
      Each k from = (i : ℕ) → i < k → is_made meaning program from i ≡ true → P (before_step meaning program from i)

      first_of : Each (m + n) state → Each m state
      first_of each i lt made = each i (omega arith) made

      rest_of : Each (m + n) state → Each n then_from
      rest_of each i lt made = subst (λ run. P run.state) (later i) (each (m + i) (omega arith) (later_made i ∙ made))

      both_of : Each m state → Each n then_from → Each (m + n) state
      both_of first rest i lt made = elim (cases_lt i m) [
        | inl l ↦ first i l made
        | inr l ↦
            let at = place i l in
            subst (λ (j : ℕ). P (before_step meaning program state j)) at
            (subst (λ run. P run.state) (sym (later (i - m)))
            (rest (i - m) (omega arith) (sym (later_made (i - m)) ∙ ap (is_made meaning program state) at ∙ made)))
      ]

    abbrev Leaves : State → Type 0
    Leaves from = touched meaning program from ≡ None

    leaving_join : LeavesTextFor meaning program (m + n) state ↔ (LeavesTextFor meaning program m state × LeavesTextFor meaning program n then_from)
    leaving_join = (λ all. (first_of Leaves all, rest_of Leaves all), λ (first, rest). both_of Leaves first rest)

    tame_join : (is_listed : ℕ → Bool)
        → IsTame meaning program is_listed (m + n) state ↔ (IsTame meaning program is_listed m state × IsTame meaning program is_listed n then_from)
    tame_join is_listed = (
      λ all. (
        record {
          leaves_text = first_of Leaves all.leaves_text;
          listed = λ i target lt made. first_of Listed (λ j less is t. all.listed j t less is) i lt made target;
        },
        record {
          leaves_text = rest_of Leaves all.leaves_text;
          listed = λ i target lt made. rest_of Listed (λ j less is t. all.listed j t less is) i lt made target;
        },
      ),
      λ (first, rest). record {
        leaves_text = both_of Leaves first.leaves_text rest.leaves_text;
        listed = λ i target lt made.
            both_of Listed (λ j less is t. first.listed j t less is) (λ j less is t. rest.listed j t less is) i lt made target;
      },
    )
      where
        Listed : State → Type 0
        Listed from = (target : ℕ) → jalr_target meaning program from ≡ Some target → in_text program target ≡ true → is_listed target ≡ true

    pub counts_join : AreJoined meaning program m n state then_from
    counts_join = record {
      costs = cost_join;
      entered = entries_join;
      made =
          count_below-add m n (is_made meaning program state)
          ∙ ap (λ more. steps_made meaning program m state + more) (count_below-same n _ _ (λ i lt. later_made i));
      leaves_text = leaving_join;
      tame = tame_join;
    }

  -- and where they met one
  module _ (ended : ¬ ((after meaning program m state).end ≡ None)) where
    not_made : (i : ℕ) → is_made meaning program state (m + i) ≡ false
    not_made i =
        ap (λ run. is_none run.end) (ends_stay meaning program m i state ended)
        ∙ by_end (after meaning program m state).end (λ on. absurd (ended on)) (λ e is. ap is_none is)

    cost_stays : (latencies : Latencies) → cost meaning program latencies (m + n) state ≡ cost meaning program latencies m state
    cost_stays latencies =
        sum_below-add m n (is_made meaning program state) (λ i. step_cost meaning program latencies (before_step meaning program state i))
        ∙ ap (λ more. cost meaning program latencies m state + more) (sum_below-none n _ _ (λ i lt. not_made i))
        ∙ add-zero (cost meaning program latencies m state)

    entries_stay : (address : ℕ) → entries meaning program (m + n) state address ≡ entries meaning program m state address
    entries_stay address =
        count_below-add m n (λ i. is_made meaning program state i && (before_step meaning program state i).pc == address)
        ∙ ap (λ more. entries meaning program m state address + more)
        (count_below-none n _ (λ i lt. ap (λ made. made && (before_step meaning program state (m + i)).pc == address) (not_made i)))
        ∙ add-zero (entries meaning program m state address)

    made_before : (i : ℕ) → is_made meaning program state i ≡ true → i < m
    made_before i made = elim (cases_lt i m) [
      | inl l ↦ l
      | inr l ↦
          let never : false ≡ true = sym (not_made (i - m)) ∙ ap (is_made meaning program state) (place i l) ∙ made in
          cc
    ]

    pub counts_stay : AreOver meaning program m n state
    counts_stay = record {
      costs = cost_stays;
      entered = entries_stay;
      made =
          count_below-add m n (is_made meaning program state)
          ∙ ap (λ more. steps_made meaning program m state + more) (count_below-none n _ (λ i lt. not_made i))
          ∙ add-zero (steps_made meaning program m state);
      leaves_text = λ clear i lt made. clear i (made_before i made) made;
      tame = λ is_listed tame. record {
        leaves_text = λ i lt made. tame.leaves_text i (made_before i made) made;
        listed = λ i target lt made is there. tame.listed i target (made_before i made) made is there;
      };
    }
