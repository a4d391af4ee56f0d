-- Drafts that grow: what stands at a place stays there.
use Rattle.std.specs.Prelude.{◌≡◌, ℕ, ◌+◌, ◌^◌, ◌<◌, ◌≤◌, List, [], ◌∷◌, ◌++◌, length, take, slice_index, slice_set}
use Rattle.std.proofs.Common.{refl, sym, ap, ◌∙◌, subst, arith, append_assoc, append-nil, length-append}
use Rattle.std.proofs.lemmas.List.{length-set, length-take-le, take_more_set, get_or-set_same, get_or-set_other}
use Rattle.std.proofs.lemmas.List.Elements.{All-push}
use Rattle.ci_verilog.specs.declared.vectors.Vector.{Vector}
use Rattle.ci_verilog.specs.Modules.{Module}
use Rattle.ci_plan.specs.declared.steps.Step.{Step}
use Rattle.ci_plan.specs.private.Steps.{IsStep, step_value, words_after}
use Rattle.ci_plan.specs.private.Drafts.{Draft, IsDraft, Grows, HasNumber, IsAdded, Run, Stands, StandsFor}
use Rattle.ci_plan.proofs.StepLaws.{IsAt, last_step, after_more, words_stay, untouched}

pub grows_not : (draft : Draft) → IsDraft draft → Grows draft draft
grows_not draft is = record {
  more = [];
  steps_are = sym (append-nil draft.steps);
  lower = omega arith;
  numbers_stay = λ p among. refl;
  is_draft = is;
}

pub grows_on : (first second third : Draft) → Grows first second → Grows second third → Grows first third
grows_on first second third one two = record {
  more = one.more ++ two.more;
  steps_are = two.steps_are ∙ ap (λ steps. steps ++ two.more) one.steps_are ∙ append_assoc first.steps one.more two.more;
  lower = let e = one.lower in let f = two.lower in omega (arith, e, f);
  numbers_stay = λ p among.
      let e = one.lower in two.numbers_stay p (omega (arith, e, among)) ∙ one.numbers_stay p among;
  is_draft = two.is_draft;
}

-- a number more, below the others
pub number_put : (draft : Draft) (words : List ℕ) (lowest n : ℕ) → IsDraft draft → 5 + length draft.steps < draft.lowest
    → lowest + 1 ≡ draft.lowest → words ≡ slice_set draft.words lowest n
    → IsDraft (record { words = words; lowest = lowest; steps = draft.steps })
number_put draft words lowest n is room one_less words_are = record {
  whole = ap length words_are ∙ length-set draft.words lowest n ∙ is.whole;
  room = omega (arith, room, one_less);
  numbers_within = let e = is.numbers_within in omega (arith, e, one_less);
  are_steps = is.are_steps;
}

pub grows_by_number : (draft : Draft) (words : List ℕ) (lowest n : ℕ) → IsDraft draft → 5 + length draft.steps < draft.lowest
    → lowest + 1 ≡ draft.lowest → words ≡ slice_set draft.words lowest n
    → Grows draft (record { words = words; lowest = lowest; steps = draft.steps })
grows_by_number draft words lowest n is room one_less words_are = record {
  more = [];
  steps_are = sym (append-nil draft.steps);
  lower = omega (arith, one_less);
  numbers_stay = λ p among.
      ap (λ ws. slice_index ws p) words_are
      ∙ get_or-set_other draft.words lowest p n 0 (λ same. absurd (omega (arith, among, one_less, same)));
  is_draft = number_put draft words lowest n is room one_less words_are;
}

pub number_is_put : (draft : Draft) (words : List ℕ) (lowest n : ℕ) → IsDraft draft → lowest + 1 ≡ draft.lowest
    → words ≡ slice_set draft.words lowest n
    → HasNumber (record { words = words; lowest = lowest; steps = draft.steps }) lowest n
number_is_put draft words lowest n is one_less words_are = record {
  below = let e = is.numbers_within in omega (arith, e, one_less);
  among = omega arith;
  is =
      ap (λ ws. slice_index ws lowest) words_are
      ∙ get_or-set_same draft.words lowest n 0
      (let e = is.numbers_within in let f = is.whole in omega (arith, e, f, one_less));
}

-- a step more, behind the others
pub step_put : (draft : Draft) (step : Step) → IsDraft draft → 5 + length draft.steps < draft.lowest → IsStep 64 step
    → IsDraft (record { words = draft.words; lowest = draft.lowest; steps = draft.steps ++ step ∷ [] })
step_put draft step is room is_step = record {
  whole = is.whole;
  room = let e = length-append draft.steps (step ∷ []) in omega (arith, e, room);
  numbers_within = is.numbers_within;
  are_steps = All-push (IsStep 64) draft.steps step is.are_steps is_step;
}

pub grows_by_step : (draft : Draft) (step : Step) → IsDraft draft → 5 + length draft.steps < draft.lowest → IsStep 64 step
    → Grows draft (record { words = draft.words; lowest = draft.lowest; steps = draft.steps ++ step ∷ [] })
grows_by_step draft step is room is_step = record {
  more = step ∷ [];
  steps_are = refl;
  lower = omega arith;
  numbers_stay = λ p among. refl;
  is_draft = step_put draft step is room is_step;
}

-- a step more, as the code puts it
pub grows_in_array : (old : Draft) (words : List ℕ) (lowest count place : ℕ) (steps : List Step) (step : Step)
    → record { words = words; lowest = lowest; steps = take count steps } ≡ old
    → IsDraft (record { words = words; lowest = lowest; steps = take count steps })
    → place ≡ count → count < length steps → 5 + count < lowest → IsStep 64 step
    → Grows old (record { words = words; lowest = lowest; steps = take (count + 1) (slice_set steps place step) })
grows_in_array old words lowest count place steps step same is there below room is_step =
    let before : Draft = record { words = words; lowest = lowest; steps = take count steps } in
    let whole : length (take count steps) ≡ count = length-take-le count steps (omega (arith, below)) in
    let more : take (count + 1) (slice_set steps place step) ≡ take count steps ++ step ∷ [] =
    ap (λ p. take (count + 1) (slice_set steps p step)) there ∙ take_more_set steps count step below in
    subst (λ o. Grows o (record { words = words; lowest = lowest; steps = take (count + 1) (slice_set steps place step) })) same
    (subst (λ after. Grows before (record { words = words; lowest = lowest; steps = after })) (sym more)
    (grows_by_step before step is (omega (arith, whole, room)) is_step))

-- ---- runs

module _ (m : Module) where
  -- a run of what was added to a draft is one of the draft
  abbrev pub run_before : (old new : Draft) → Grows old new → Run m new → Run m old
  run_before old new grows run = record {
    arguments = run.arguments;
    words = run.words;
    names = run.names;
    opens = record {
      room =
          let e = run.opens.room in
          let f = ap length grows.steps_are ∙ length-append old.steps grows.more in
          omega (arith, e, f);
      inputs = run.opens.inputs;
      numbers = λ p among.
          let e = grows.lower in run.opens.numbers p (omega (arith, e, among)) ∙ grows.numbers_stay p among;
    };
    are_words = run.are_words;
    settles = run.settles;
  }

  -- what stands at a place is also what is equal to it
  pub stands_as : (draft : Draft) (place : ℕ) (value other : (List ℕ → Vector) → ℕ) → Stands m draft place value
      → ((run : Run m draft) → value run.names ≡ other run.names) → Stands m draft place other
  stands_as draft place value other stands same = record {
    below = stands.below;
    kept = stands.kept;
    is = λ run. stands.is run ∙ same run;
  }

  pub stands_later : (old new : Draft) (place : ℕ) (value : (List ℕ → Vector) → ℕ) → Grows old new → Stands m old place value
      → Stands m new place value
  stands_later old new place value grows stands =
      let long : length new.steps ≡ length old.steps + length grows.more =
      ap length grows.steps_are ∙ length-append old.steps grows.more in
      let room = grows.is_draft.room in
      let lower = grows.lower in
      record {
        below = stands.below;
        kept = λ past. let e : old.lowest ≤ place = stands.kept (omega (arith, past, long)) in omega (arith, e, lower);
        is = λ run.
            ap (λ steps. slice_index (words_after run.words 5 steps) place) grows.steps_are
            ∙ ap (λ ws. slice_index ws place) (after_more run.words 5 old.steps grows.more)
            ∙ untouched (words_after run.words 5 old.steps) (5 + length old.steps) grows.more place
            (λ past. let e : old.lowest ≤ place = stands.kept past in omega (arith, e, lower, room, long))
            ∙ stands.is (run_before old new grows run);
      }

  pub stands_for_later : (old new : Draft) (place width : ℕ) (bits : (List ℕ → Vector) → Vector) → Grows old new
      → StandsFor m old place width bits → StandsFor m new place width bits
  stands_for_later old new place width bits grows found = record {
    stands = stands_later old new place (λ names. (bits names).value) grows found.stands;
    narrow = found.narrow;
    fit = λ run. found.fit (run_before old new grows run);
  }

  pub number_stands : (draft : Draft) (place n : ℕ) → IsDraft draft → HasNumber draft place n → Stands m draft place (λ names. n)
  number_stands draft place n is number =
      let room = is.room in
      let among = number.among in
      record {
        below = number.below;
        kept = λ past. among;
        is = λ run.
            untouched run.words 5 draft.steps place (λ past. omega (arith, room, among))
            ∙ run.opens.numbers place among ∙ number.is;
      }

  -- the step's word stands at its place
  pub added_stands : (old new : Draft) (place : ℕ) (step : Step) (value : (List ℕ → Vector) → ℕ) → IsAdded old new place step
      → Grows old new → ((run : Run m old) → step_value (words_after run.words 5 old.steps) step ≡ value run.names)
      → Stands m new place value
  added_stands old new place step value added grows makes =
      let long : length new.steps ≡ length old.steps + 1 =
      ap length added.steps_are ∙ length-append old.steps (step ∷ []) in
      let there = added.place_is in
      let below = added.below in
      record {
        below = below;
        kept = λ past. absurd (omega (arith, past, long, there));
        is = λ run.
            let before = words_after run.words 5 old.steps in
            let whole : length before ≡ length run.words = words_stay run.words 5 old.steps in
            let room = run.opens.room in
            ap (λ steps. slice_index (words_after run.words 5 steps) place) added.steps_are
            ∙ ap (λ ws. slice_index ws place) (last_step run.words 5 old.steps step)
            ∙ ap (λ p. slice_index (slice_set before (5 + length old.steps) (step_value before step)) p) there
            ∙ get_or-set_same before (5 + length old.steps) (step_value before step) 0 (omega (arith, whole, room, long))
            ∙ makes (run_before old new grows run);
      }

  -- in a run the vector stands at the place
  pub is_at : (draft : Draft) (place width : ℕ) (bits : (List ℕ → Vector) → Vector) → StandsFor m draft place width bits
      → (run : Run m draft) → IsAt (words_after run.words 5 draft.steps) (bits run.names) place
  is_at draft place width bits found run =
      let fits = found.fit run in
      record {
        value_is = found.stands.is run;
        in_range = subst (λ w. (bits run.names).value < 2 ^ w) (sym fits.width_is) fits.in_range;
        narrow = subst (λ w. w ≤ 64) (sym fits.width_is) found.narrow;
      }
