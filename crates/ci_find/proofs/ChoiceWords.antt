-- The settings of a choice, as words say them: the numbers are in their ranges, and there is one plan of the limits.
use Rattle.std.proofs.Common.{◌≡◌, ◌≤◌, ℕ, inl, inr, Bool, List, Result, Ok, Err, refl, subst}
use Rattle.ci_io.specs.Outcomes.{ShelfState}
use Rattle.ci_select.specs.declared.plan.Plan.{Plan}
use Rattle.ci_arguments.specs.Ranges.{KeepsRanges}
use Rattle.ci_arguments.specs.Tables.{commands}
use Rattle.ci_arguments.specs.Words.{Reading, name_at, number_set}
use Rattle.ci_arguments.specs.declared.tables.CommandName.TheVariants.{Find, Check, Area}
use Rattle.ci_arguments.specs.declared.tables.OptionName.TheVariants as option
use Rattle.ci_calls.specs.declared.refusals.Refusal.{Refusal}
use Rattle.ci_calls.specs.declared.success.Success.{Success}
use Rattle.ci_calls.specs.Inputs.{Input}
use Rattle.ci_calls.specs.Reads.{IsAnswerOf}
use Rattle.ci_find.specs.private.Chosen.{KeepsChoiceRanges}
use Rattle.ci_find.specs.ChoiceReading.{settings_of, IsPlanOf}
use Rattle.ci_find.specs.Profiled.{Settings}

-- ---- ranges

-- of `find`
pub find_ranges : (reading : Reading) → KeepsRanges Find reading → KeepsChoiceRanges reading
unfolding commands
find_ranges reading keeps = record {
  steps = (keeps option.Steps 1 4294967296 refl).1;
  inputs = keeps option.Inputs 1 5 refl;
  outputs = keeps option.Outputs 1 3 refl;
  count = keeps option.Count 1 32 refl;
  budget = keeps option.Budget 1 4194304 refl;
}

-- of `check`
pub check_ranges : (reading : Reading) → KeepsRanges Check reading → KeepsChoiceRanges reading
unfolding commands
check_ranges reading keeps = record {
  steps = (keeps option.Steps 1 4294967296 refl).1;
  inputs = keeps option.Inputs 1 5 refl;
  outputs = keeps option.Outputs 1 3 refl;
  count = keeps option.Count 1 32 refl;
  budget = keeps option.Budget 1 4194304 refl;
}

-- of `area`
pub area_ranges : (reading : Reading) → KeepsRanges Area reading → KeepsChoiceRanges reading
unfolding commands
area_ranges reading keeps = record {
  steps = (keeps option.Steps 1 4294967296 refl).1;
  inputs = keeps option.Inputs 1 5 refl;
  outputs = keeps option.Outputs 1 3 refl;
  count = keeps option.Count 1 32 refl;
  budget = keeps option.Budget 1 4194304 refl;
}

pub limit_range : (reading : Reading) → KeepsRanges Area reading → number_set reading option.Limit ≤ 4294967295
unfolding commands
limit_range reading keeps = (keeps option.Limit 0 4294967295 refl).1

-- ---- the plan

module _
    (reading : Reading) (plan : Plan) (is_plan : IsPlanOf reading plan)
    (read_may_fail write_may_fail : List ℕ → Bool) (before after : ShelfState) where
  abbrev IsAnswer :
      List Input → (List (List ℕ) → Success → Type 0) → (List (List ℕ) → Refusal → Type 0) → Result Success Refusal
      → Type 0
  IsAnswer = IsAnswerOf read_may_fail write_may_fail before after

  -- what is answered by a plan of the reading
  by_plan :
      (inputs : List Input) (Makes : Plan → List (List ℕ) → Success → Type 0)
      (Refuses : Plan → List (List ℕ) → Refusal → Type 0) (result : Result Success Refusal)
      → IsAnswer inputs (Makes plan) (Refuses plan) result
      → IsAnswer inputs (λ read success. (p : Plan) × IsPlanOf reading p × Makes p read success)
      (λ read refusal. (p : Plan) × IsPlanOf reading p × Refuses p read refusal) result
  by_plan inputs Makes Refuses (Ok success) made =
      record { answered = made.answered; read = made.read; made = (plan, is_plan, made.made) }
  by_plan inputs Makes Refuses (Err refusal) (inl unread) = inl unread
  by_plan inputs Makes Refuses (Err refusal) (inr once) =
      inr (record { answered = once.answered; read = once.read; refused = (plan, is_plan, once.refused) })

  -- and by a file, names and settings that are those of the words
  pub answered_by :
      {Names : Type 0} {file : List ℕ} {names said : Names} {settings : Settings}
      (inputs : List ℕ → Names → Settings → List Input) (Makes : Names → Settings → List (List ℕ) → Success → Type 0)
      (Refuses : Settings → List (List ℕ) → Refusal → Type 0) (result : Result Success Refusal)
      → file ≡ name_at reading 0 → names ≡ said → settings ≡ settings_of reading plan
      → IsAnswer (inputs file names settings) (Makes names settings) (Refuses settings) result
      → IsAnswer (inputs (name_at reading 0) said (settings_of reading plan))
      (λ read success. (p : Plan) × IsPlanOf reading p × Makes said (settings_of reading p) read success)
      (λ read refusal. (p : Plan) × IsPlanOf reading p × Refuses (settings_of reading p) read refusal) result
  answered_by {said = said} inputs Makes Refuses result file_is names_are settings_are answer =
      by_plan (inputs (name_at reading 0) said (settings_of reading plan)) (λ p. Makes said (settings_of reading p))
      (λ p. Refuses (settings_of reading p)) result
      (subst (λ T. T) (λ i. IsAnswer (inputs (file_is i) (names_are i) (settings_are i))
      (Makes (names_are i) (settings_are i)) (Refuses (settings_are i)) result) answer)
