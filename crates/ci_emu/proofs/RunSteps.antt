-- A run goes on by one step, or ends with it.
use Rattle.std.proofs.Common.{◌≡◌, ℕ, ◌+◌, ◌-◌, ◌<◌, ◌≤◌, ◌^◌, ap, sym, subst, ◌∙◌, arith, Some, None, Ok, Err, add-one}
use Rattle.std.specs.Prelude.{Bool, true, false, ◌==◌, if◌then◌else◌, OnErr, OnOk, IfOk}
use Rattle.std.specs.declared.result.Result.{Result}
use Rattle.ci_elf.specs.Executables.{IsTextWord}
use Rattle.ci_emu.specs.declared.counts.Counts.{Counts}
use Rattle.ci_machine.specs.declared.ends.End.{End}
use Rattle.ci_machine.specs.Outcomes.{Reached, at_start, continued}
use Rattle.ci_machine.specs.Programs.{Program, State}
use Rattle.ci_machine.specs.Steps.{Meaning, step}
use Rattle.ci_machine.specs.Runs.{Latencies, after, steps_made}
use Rattle.ci_machine.proofs.RunLaws.{ends_stay, runs_join}
use Rattle.ci_emu.specs.declared.profile.Profile.{Profile}
use Rattle.ci_emu.specs.declared.steps.Outcome.{Outcome}
use Rattle.ci_emu.specs.declared.steps.Outcome.TheVariants.{Ended}
use Rattle.ci_emu.specs.declared.tally.Tally.{Tally}
use Rattle.ci_emu.specs.private.Counting.{IsCounted, IsStepCounted, IsToldBy}
use Rattle.ci_emu.specs.Profiles.{count_at, IsProfileOf}
use Rattle.ci_emu.specs.Steps.{end_of, IsStep, IsReached}
use Rattle.ci_emu.proofs.RunCounts.{one_more, nothing_more, no_steps_more, all_made, made_with_last, profile_of}

pub on_error : {A E P : Type 0} (result : Result A E) → P → OnErr result P
on_error (Ok value) fact = tt
on_error (Err e) fact = fact

-- The state of a run is of the run's program, which is known as that of its last state here.
module _ (Means : Meaning → Type 0) (program : Program) (start : State) (i : ℕ) (here : Program) (same : here ≡ program) (now : State)
    (reached : (meaning : Meaning) → Means meaning → after meaning program i start ≡ at_start now) where
  on : (meaning : Meaning) → Means meaning → (after meaning program i start).end ≡ None
  on meaning means = ap (λ (r : Reached State). r.end) (reached meaning means)

  state_is : (meaning : Meaning) → Means meaning → now ≡ (after meaning program i start).state
  state_is meaning means = sym (ap (λ (r : Reached State). r.state) (reached meaning means))

  -- some of the steps behind these
  pub reached_here : (n : ℕ) → i ≤ n → IsReached Means program start n now
  reached_here n within = record { steps = i; within = within; there = state_is }

  pub reached_more : (n k : ℕ) (next : State) → i + k ≤ n → IsReached Means here now k next → IsReached Means program start n next
  reached_more n k next within step = let more = subst (λ p. IsReached Means p now k next) same step in record {
    steps = i + more.steps;
    within = let few = more.within in omega arith;
    there = λ meaning means.
        more.there meaning means
        ∙ ap (λ (r : Reached State). r.state) (sym (runs_join meaning program i more.steps start (on meaning means)
        ∙ ap (λ (r : Reached State). after meaning program more.steps r.state) (reached meaning means)));
  }

  -- all steps were made, and none ended
  pub whole_state : (n : ℕ) → i ≡ n → {A E : Type 0} (result : Result A E)
      → OnOk result ((meaning : Meaning) → Means meaning → now ≡ (after meaning program n start).state)
  whole_state n all (Ok value) = λ meaning means. subst (λ k. now ≡ (after meaning program k start).state) all (state_is meaning means)
  whole_state n all (Err e) = tt

  -- one step more
  module _ (next : State) (outcome : Outcome) (step_here : IsStep Means here now next outcome) where
    stepped : IsStep Means program now next outcome
    stepped = subst (λ p. IsStep Means p now next outcome) same step_here

    pub stepped_to : (meaning : Meaning) → Means meaning → after meaning program (i + 1) start ≡ record { state = next; end = end_of outcome }
    stepped_to meaning means =
        rw add-one (ap (continued (step meaning program)) (reached meaning means) ∙ stepped meaning means)

    pub reached_next : (n : ℕ) → i < n → IsReached Means program start n next
    reached_next n below = record {
      steps = i + 1;
      within = omega arith;
      there = λ meaning means. sym (ap (λ (r : Reached State). r.state) (stepped_to meaning means));
    }

    module _ (latencies : Latencies) (old new : Tally) (counted : (meaning : Meaning) → Means meaning → IsCounted meaning program latencies start i old)
        (one_here : (meaning : Meaning) → Means meaning → IsStepCounted meaning here latencies now old new) where
      one : (meaning : Meaning) → Means meaning → IsStepCounted meaning program latencies now old new
      one meaning means = subst (λ p. IsStepCounted meaning p latencies now old new) same (one_here meaning means)

      pub counted_more : (meaning : Meaning) → Means meaning → IsCounted meaning program latencies start (i + 1) new
      counted_more meaning means =
          rw add-one (one_more meaning program latencies start i old new (on meaning means) (counted meaning means)
          (subst (λ state. IsStepCounted meaning program latencies state old new) (state_is meaning means) (one meaning means)))

      module _ (n : ℕ) (below : i < n) (end : End) (is : outcome ≡ Ended end) (meaning : Meaning) (means : Means meaning) where
        rest : i + 1 + (n - (i + 1)) ≡ n
        rest = omega arith

        last : after meaning program (i + 1) start ≡ record { state = next; end = Some end }
        last = subst (λ o. after meaning program (i + 1) start ≡ record { state = next; end = end_of o }) is (stepped_to meaning means)

        ended : ¬ ((after meaning program (i + 1) start).end ≡ None)
        ended none = some (sym (ap (λ (r : Reached State). r.end) last) ∙ none)
          where
            some : ¬ (Some end ≡ None)
            some never = cc

        stays : after meaning program n start ≡ record { state = next; end = Some end }
        stays = ap (λ k. after meaning program k start) (sym rest) ∙ ends_stay meaning program (i + 1) (n - (i + 1)) start ended ∙ last

        last_profile : (profile : Profile) → IsToldBy new (i + 1) (Some end) profile → IsProfileOf meaning program n start latencies profile
        last_profile profile told =
            profile_of meaning program latencies start n (i + 1) (Some end) new profile
            (subst (λ k. IsCounted meaning program latencies start k new) rest
            (nothing_more meaning program latencies start (i + 1) ended (n - (i + 1)) new (counted_more meaning means)))
            (sym (ap (λ k. steps_made meaning program k start) (sym rest)
            ∙ no_steps_more meaning program latencies start (i + 1) ended (n - (i + 1))
            ∙ ap (λ k. steps_made meaning program k start) (add-one i)
            ∙ made_with_last meaning program latencies start i (on meaning means)))
            (sym (ap (λ (r : Reached State). r.end) stays)) told

      -- the profile and the state of a run that ended with this step
      pub ended_profile : (n : ℕ) → i < n → (end : End) → outcome ≡ Ended end → {E : Type 0} (result : Result Profile E)
          → IfOk result (IsToldBy new (i + 1) (Some end))
          → IfOk result (λ profile. (meaning : Meaning) → Means meaning → IsProfileOf meaning program n start latencies profile)
      ended_profile n below end is (Ok profile) told = λ meaning means. last_profile n below end is meaning means profile told
      ended_profile n below end is (Err e) told = tt

      pub ended_state : (n : ℕ) → i < n → (end : End) → outcome ≡ Ended end → {A E : Type 0} (result : Result A E)
          → OnOk result ((meaning : Meaning) → Means meaning → next ≡ (after meaning program n start).state)
      ended_state n below end is (Ok profile) = λ meaning means. sym (ap (λ (r : Reached State). r.state) (stays n below end is meaning means))
      ended_state n below end is (Err e) = tt

  -- the profile of a run that met no end
  pub whole_profile : (latencies : Latencies) (tally : Tally)
      → ((meaning : Meaning) → Means meaning → IsCounted meaning program latencies start i tally) → (n : ℕ) → i ≡ n
      → {E : Type 0} (result : Result Profile E) → IfOk result (IsToldBy tally n None)
      → IfOk result (λ profile. (meaning : Meaning) → Means meaning → IsProfileOf meaning program n start latencies profile)
  whole_profile latencies tally counted n all (Ok profile) told = λ meaning means.
      let none = on meaning means in
      profile_of meaning program latencies start n n None tally profile
      (subst (λ k. IsCounted meaning program latencies start k tally) all (counted meaning means))
      (subst (λ k. k ≡ steps_made meaning program k start) all (sym (all_made meaning program latencies start i none)))
      (subst (λ k. None ≡ (after meaning program k start).end) all (sym none)) told
  whole_profile latencies tally counted n all (Err e) told = tt

-- ---- no word was counted more often than steps were made

abbrev pub HasFew : Program → Counts → ℕ → Type 0
HasFew program counts i = (address : ℕ) → IsTextWord program.text address → count_at counts address ≤ i

at_most_one : (b : Bool) (n i : ℕ) → n ≤ i → n + (if b then 1 else 0) ≤ i + 1
at_most_one true n i few = omega arith
at_most_one false n i few = omega arith

module _ (program here : Program) (same : here ≡ program) (i : ℕ) (old : Counts) (few : HasFew program old i) where
  -- so a count has room for one step more
  pub has_room : i < 2 ^ 32 → (address : ℕ) → IsTextWord here.text address → count_at old address < 2 ^ 32
  has_room below address word = let least = few address (subst (λ p. IsTextWord p.text address) same word) in omega arith

  pub few_more : (new : Counts) (pc : ℕ)
      → ((address : ℕ) → IsTextWord here.text address → count_at new address ≡ count_at old address + (if pc == address then 1 else 0))
      → HasFew program new (i + 1)
  few_more new pc entered address word =
      subst (λ (n : ℕ). n ≤ i + 1) (sym (entered address (subst (λ p. IsTextWord p.text address) (sym same) word)))
      (at_most_one (pc == address) (count_at old address) i (few address word))
