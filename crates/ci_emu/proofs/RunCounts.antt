-- What is counted over a run, after one step more and after an end.
use Rattle.std.proofs.Common.{◌≡◌, ℕ, zero, suc, ◌+◌, ◌<◌, ap, sym, subst, ◌∙◌, refl, arith, Option, Some, None, inl}
use Rattle.std.proofs.Common.{inr, add-zero, add-one, add-suc, lt-suc_self}
use Rattle.std.specs.Prelude.{Bool, true, false, ◌==◌, ◌&&◌, is_none, if◌then◌else◌, ◌↔◌, ◌⊎◌}
use Rattle.std.specs.List.{list_any}
use Rattle.std.specs.Ordering.{nat_cmp}
use Rattle.std.specs.BTreeMap.{is_at}
use Rattle.std.specs.BTreeSet.{BTreeSet, IsEmpty}
use Rattle.std.proofs.lemmas.Bool.{cases_eq, true≢false}
use Rattle.ci_word.proofs.NumberLaws.{count_below-zero, count_below-suc, sum_below-zero, sum_below-suc}
use Rattle.ci_machine.specs.declared.ends.End.{End}
use Rattle.ci_machine.specs.Programs.{Program, State}
use Rattle.ci_machine.specs.Outcomes.{from_end}
use Rattle.ci_machine.specs.Steps.{Meaning, step}
use Rattle.ci_machine.specs.Touches.{touched}
use Rattle.ci_machine.specs.Runs.{Latencies, after, before_step, is_made, steps_made, cost, step_cost}
use Rattle.ci_machine.specs.RunEvents.{entries, jalr_target}
use Rattle.ci_machine.specs.Touches.{LeavesTextFor}
use Rattle.ci_machine.proofs.TestLaws.{by_end}
use Rattle.ci_machine.proofs.RunLaws.{ends_stay}
use Rattle.ci_emu.specs.declared.profile.Profile.{Profile}
use Rattle.ci_emu.specs.declared.tally.Tally.{Tally}
use Rattle.ci_emu.specs.Profiles.{IsTarget, IsTouch, IsProfileOf}
use Rattle.ci_emu.specs.private.Counting.{first_touch, Led, IsFresh, IsToldBy, IsCounted, IsStepCounted}

module _ (meaning : Meaning) (program : Program) (latencies : Latencies) (start : State) where
  abbrev made : ℕ → Bool
  made i = is_made meaning program start i

  abbrev at : ℕ → State
  at i = before_step meaning program start i

  -- ---- no step yet

  pub none_counted : (tally : Tally) → IsFresh tally → IsCounted meaning program latencies start 0 tally
  none_counted tally fresh = record {
    cost = fresh.cost ∙ sym (sum_below-zero made (λ i. step_cost meaning program latencies (at i)));
    touched = rw fresh.touched (λ i below. absurd (omega arith));
    entries = λ address word. fresh.entries address ∙ sym (count_below-zero (λ i. made i && (at i).pc == address));
    targets = λ address. (λ led. absurd (not_led tally.targets fresh.targets address led), λ target. let below = target.within in absurd (omega arith));
  }
    where
      not_led : (targets : BTreeSet ℕ) → IsEmpty targets → (address : ℕ) → ¬ (Led targets address)
      not_led targets empty address led = absurd (true≢false (sym led ∙ ap (list_any (is_at (nat_cmp address))) empty))

  -- ---- one number more, where that step is made or not

  cost_more : (n : ℕ) (b : Bool) → made n ≡ b
      → cost meaning program latencies (suc n) start ≡ cost meaning program latencies n start + (if b then step_cost meaning program latencies (at n) else 0)
  cost_more n b is =
      sum_below-suc n made (λ i. step_cost meaning program latencies (at i))
      ∙ ap (λ v. cost meaning program latencies n start + (if v then step_cost meaning program latencies (at n) else 0)) is

  entries_more : (n address : ℕ) (b : Bool) → made n ≡ b
      → entries meaning program (suc n) start address ≡ entries meaning program n start address + (if b && (at n).pc == address then 1 else 0)
  entries_more n address b is =
      count_below-suc n (λ i. made i && (at i).pc == address)
      ∙ ap (λ v. entries meaning program n start address + (if v && (at n).pc == address then 1 else 0)) is

  steps_more : (n : ℕ) (b : Bool) → made n ≡ b → steps_made meaning program (suc n) start ≡ steps_made meaning program n start + (if b then 1 else 0)
  steps_more n b is = count_below-suc n made ∙ ap (λ v. steps_made meaning program n start + (if v then 1 else 0)) is

  -- what holds of the steps before one, and of that one, holds of all up to it
  up_to : (n : ℕ) (P : ℕ → Type 0) → ((i : ℕ) → i < n → P i) → P n → (i : ℕ) → i < suc n → P i
  up_to n P before here i below = elim (cases_eq i n) [
    | inl same ↦ subst P (sym same) here
    | inr other ↦ before i (omega arith)
  ]

  -- ---- one step more

  leaves_more : (n : ℕ) → LeavesTextFor meaning program n start → (made n ≡ true → touched meaning program (at n) ≡ None)
      → LeavesTextFor meaning program (suc n) start
  leaves_more n before here i below is =
      up_to n (λ k. made k ≡ true → touched meaning program (at k) ≡ None) before here i below is

  touch_later : (n : ℕ) (touch : ℕ × ℕ) → IsTouch meaning program n start (Some touch) → IsTouch meaning program (suc n) start (Some touch)
  touch_later n touch first =
      record { place = first.place; within = omega arith; made = first.made; there = first.there; touches = first.touches; first = first.first }

  touch_more : (n : ℕ) (earlier : Option (ℕ × ℕ)) (now : Option ℕ) → made n ≡ true → IsTouch meaning program n start earlier
      → touched meaning program (at n) ≡ now → IsTouch meaning program (suc n) start (first_touch earlier (at n).pc now)
  touch_more n (Some touch) now is first here = touch_later n touch first
  touch_more n None None is leaves here = leaves_more n leaves (λ _. here)
  touch_more n None (Some address) is leaves here =
      record { place = n; within = lt-suc_self n; made = is; there = refl; touches = here; first = leaves }

  target_later : (n address : ℕ) → IsTarget meaning program n start address → IsTarget meaning program (suc n) start address
  target_later n address target = record { place = target.place; within = omega arith; made = target.made; leads = target.leads }

  target_before : (n address : ℕ) → (made n ≡ true → ¬ (jalr_target meaning program (at n) ≡ Some address))
      → IsTarget meaning program (suc n) start address → IsTarget meaning program n start address
  target_before n address not_here target = elim (cases_eq target.place n) [
    | inl same ↦ absurd (not_here (ap made (sym same) ∙ target.made) (ap (λ k. jalr_target meaning program (at k)) (sym same) ∙ target.leads))
    | inr other ↦ record { place = target.place; within = omega arith; made = target.made; leads = target.leads }
  ]

  target_more : (n address : ℕ) → made n ≡ true
      → (IsTarget meaning program n start address ⊎ (jalr_target meaning program (at n) ≡ Some address)) ↔ IsTarget meaning program (suc n) start address
  target_more n address is = (
    λ either. elim either [
      | inl earlier ↦ target_later n address earlier
      | inr here ↦ record { place = n; within = lt-suc_self n; made = is; leads = here }
    ],
    λ target. elim (cases_eq target.place n) [
      | inl same ↦ inr (ap (λ k. jalr_target meaning program (at k)) (sym same) ∙ target.leads)
      | inr other ↦ inl (record { place = target.place; within = omega arith; made = target.made; leads = target.leads })
    ],
  )

  pub one_more : (n : ℕ) (old new : Tally) → (after meaning program n start).end ≡ None
      → IsCounted meaning program latencies start n old → IsStepCounted meaning program latencies (at n) old new
      → IsCounted meaning program latencies start (suc n) new
  one_more n old new on so_far step = let is : made n ≡ true = ap is_none on in record {
    cost = step.cost ∙ ap (λ c. c + step_cost meaning program latencies (at n)) so_far.cost ∙ sym (cost_more n true is);
    touched = rw step.touched (touch_more n old.touches.first _ is so_far.touched refl);
    entries = λ address word.
        step.entries address word ∙ ap (λ k. k + (if (at n).pc == address then 1 else 0)) (so_far.entries address word)
        ∙ sym (entries_more n address true is);
    targets = λ address.
        let led = step.targets address in
        let before = so_far.targets address in
        let more = target_more n address is in (
          λ l. more.0 (elim (led.0 l) [ inl e ↦ inl (before.0 e) | inr h ↦ inr h ]),
          λ t. led.1 (elim (more.1 t) [ inl e ↦ inl (before.1 e) | inr h ↦ inr h ]),
        );
  }

  -- ---- nothing more after an end

  still : (n : ℕ) (tally : Tally) → made n ≡ false → IsCounted meaning program latencies start n tally → IsCounted meaning program latencies start (suc n) tally
  still n tally is so_far = record {
    cost = so_far.cost ∙ sym (cost_more n false is ∙ add-zero _);
    touched = touch_still tally.touches.first so_far.touched;
    entries = λ address word. so_far.entries address word ∙ sym (entries_more n address false is ∙ add-zero _);
    targets = λ address. (
      λ l. target_later n address ((so_far.targets address).0 l),
      λ t. (so_far.targets address).1 (target_before n address (λ yes. absurd (true≢false (sym yes ∙ is))) t),
    );
  }
    where
      touch_still : (touch : Option (ℕ × ℕ)) → IsTouch meaning program n start touch → IsTouch meaning program (suc n) start touch
      touch_still None leaves = leaves_more n leaves (λ yes. absurd (true≢false (sym yes ∙ is)))
      touch_still (Some touch) first = touch_later n touch first

  module _ (n : ℕ) (ended : ¬ ((after meaning program n start).end ≡ None)) where
    not_made : (m : ℕ) → made (n + m) ≡ false
    not_made m = ap (λ r. is_none r.end) (ends_stay meaning program n m start ended) ∙ over (after meaning program n start).end ended
      where
        over : {A : Type 0} (end : Option A) → ¬ (end ≡ None) → is_none end ≡ false
        over None never = absurd (never refl)
        over (Some e) some = refl

    pub nothing_more : (m : ℕ) (tally : Tally) → IsCounted meaning program latencies start n tally → IsCounted meaning program latencies start (n + m) tally
    nothing_more zero tally so_far = rw add-zero so_far
    nothing_more (suc m) tally so_far = rw add-suc (still (n + m) tally (not_made m) (nothing_more m tally so_far))

    pub no_steps_more : (m : ℕ) → steps_made meaning program (n + m) start ≡ steps_made meaning program n start
    no_steps_more zero = rw add-zero refl
    no_steps_more (suc m) = rw add-suc (steps_more (n + m) false (not_made m) ∙ add-zero _ ∙ no_steps_more m)

  -- ---- how many steps are made where the last did not end

  on_before : (n : ℕ) → (after meaning program (suc n) start).end ≡ None → (after meaning program n start).end ≡ None
  on_before n on = by_end (after meaning program n start).end (λ none. none)
      (λ e is. sym (ap (λ end. (from_end (step meaning program) (after meaning program n start) end).end) is) ∙ on)

  pub all_made : (n : ℕ) → (after meaning program n start).end ≡ None → steps_made meaning program n start ≡ n
  all_made zero on = count_below-zero made
  all_made (suc n) on =
      let before = on_before n on in
      steps_more n true (ap is_none before) ∙ ap (λ k. k + 1) (all_made n before) ∙ add-one n

  pub made_with_last : (n : ℕ) → (after meaning program n start).end ≡ None → steps_made meaning program (suc n) start ≡ n + 1
  made_with_last n on = steps_more n true (ap is_none on) ∙ ap (λ k. k + 1) (all_made n on)

  -- ---- the profile

  pub profile_of : (n steps : ℕ) (end : Option End) (tally : Tally) (profile : Profile)
      → IsCounted meaning program latencies start n tally → steps ≡ steps_made meaning program n start
      → end ≡ (after meaning program n start).end → IsToldBy tally steps end profile
      → IsProfileOf meaning program n start latencies profile
  profile_of n steps end tally profile counted made_of end_of told = record {
    steps = told.steps ∙ made_of;
    cost = told.cost ∙ counted.cost;
    end = told.end ∙ end_of;
    touched = subst (IsTouch meaning program n start) (sym told.touched) counted.touched;
    entries = λ address word. told.entries address ∙ counted.entries address word;
    ascending = told.ascending;
    targets = λ address.
        (λ c. (counted.targets address).0 ((told.targets address).0 c), λ t. (told.targets address).1 ((counted.targets address).1 t));
  }
