-- `check` accepts what `find` wrote, with the same names and options except --log.
use Rattle.std.proofs.Common.{◌≡◌, ◌≢◌, ◌∙◌, ℕ, List, Some, map, sym, ap, subst, lit<, arith}
use Rattle.std.specs.Prelude.{option_map, slice_get, unwrap_or}
use Rattle.ci_io.specs.Outcomes.{Files}
use Rattle.ci_arguments.specs.Words.{Reading, ReadsAs, name_at, name_in, number_in, number_set, word_in}
use Rattle.ci_arguments.specs.declared.tables.CommandName.TheVariants.{Find, Check}
use Rattle.ci_arguments.specs.declared.tables.OptionName.{OptionName}
use Rattle.ci_arguments.specs.declared.tables.OptionName.TheVariants as option
use Rattle.ci_arguments.proofs.Readings.{one_reading}
use Rattle.ci_select.specs.declared.plan.Plan.{Plan}
use Rattle.ci_calls.specs.declared.refusals.Refusal.{Refusal}
use Rattle.ci_calls.specs.declared.success.Success.{Success}
use Rattle.ci_calls.specs.Evaluations.{Evaluates}
use Rattle.ci_calls.specs.Files.{book_input}
use Rattle.ci_calls.specs.Finishing.{with_files}
use Rattle.ci_calls.specs.Inputs.{Input, AreRead, IsFileRefusal}
use Rattle.ci_find.specs.CheckCommand.{check_inputs, IsCheckRefused}
use Rattle.ci_find.specs.ChoiceReading.{find_output, settings_of, IsPlanOf}
use Rattle.ci_find.specs.Commands.{inputs_by, MakesBy, RefusesBy}
use Rattle.ci_find.specs.Endings.{IsDone, IsRefusal, usage, file, once_read}
use Rattle.ci_find.specs.Laws.{AreSameChoice, CheckAcceptsChoices, HoldTheSame, IsOfLongBook}
use Rattle.ci_find.proofs.CheckedFiles.{file_case, once_case}
use Rattle.ci_find.proofs.FoundChoices.{all_else, found, names_differ}
use Rattle.ci_find.proofs.OneChoice.{one_plan}
use Rattle.ci_find.proofs.SameFiles.{read_there, refusal_there}

module _ (find check : Reading) (same : AreSameChoice find check) where
  -- both have the same settings,
  same_settings : (plan : Plan) → settings_of check plan ≡ settings_of find plan
  same_settings plan =
      let steps = sym (same.settings option.Steps (λ e. cc)) in
      let leaders = sym (same.settings option.Leader (λ e. cc)) in
      let table = sym (same.settings option.Table (λ e. cc)) in
      let input = sym (same.settings option.Input (λ e. cc)) in
      λ i. record {
        steps = unwrap_or (option_map number_in (slice_get (steps i) 0)) 0;
        named = map word_in (leaders i);
        plan = plan;
        table = option_map name_in (slice_get (table i) 0);
        input = option_map name_in (slice_get (input i) 0);
      }

  -- the same limits
  same_plan : (plan : Plan) → IsPlanOf check plan → IsPlanOf find plan
  same_plan plan is = record {
    inputs = is.inputs ∙ same_number option.Inputs (λ e. cc);
    outputs = is.outputs ∙ same_number option.Outputs (λ e. cc);
    count = is.count ∙ same_number option.Count (λ e. cc);
    budget = is.budget ∙ same_number option.Budget (λ e. cc);
  }
    where
      same_number : (o : OptionName) → o ≢ option.LogVersion → number_set check o ≡ number_set find o
      same_number o other =
          ap (λ values. unwrap_or (option_map number_in (slice_get values 0)) 0) (sym (same.settings o other))

  -- and files of the same names
  same_inputs : (plan : Plan) → inputs_by Check check
      ≡ check_inputs (name_at find 0)
      (record { new = name_at find 1; units = name_at find 2; logs = name_at find 3 })
      (settings_of find plan).table (settings_of find plan).input
  same_inputs plan =
      let old = sym (same.names 0 (lit< tt)) in
      let new = sym (same.names 1 (lit< tt)) in
      let units = sym (same.names 2 (lit< tt)) in
      let logs = sym (same.names 3 (lit< tt)) in
      λ i. check_inputs (old i) (record { new = new i; units = units i; logs = logs i }) (same_settings plan i).table
      (same_settings plan i).input

module _
    (held : Files) (find_words check_words : List (List ℕ)) (find check : Reading) (success : Success)
    (reads_find : ReadsAs find_words find) (reads_check : ReadsAs check_words check) (same : AreSameChoice find check)
    (done : IsDone (Some held) find_words success) where
  -- what the choice makes
  choice : Evaluates (Some held) (inputs_by Find find) (MakesBy Find find) success
  choice = found find_words find reads_find same.finds (Some held) success done

  -- its limits
  abbrev plan : Plan
  plan = choice.made.0

  -- the files that it leaves
  abbrev after : Files
  after = with_files success.writes.items held

  -- the log book among them is too long
  abbrev IsLong : Refusal → Type 0
  IsLong refusal = IsOfLongBook (Some after) (name_at find 3) refusal

  -- what its check reads
  abbrev read_inputs : List Input
  read_inputs =
      check_inputs (name_at find 0) (record { new = name_at find 1; units = name_at find 2; logs = name_at find 3 })
      (settings_of find plan).table (settings_of find plan).input

  -- of these nothing else is refused,
  of_files : (refusal : Refusal) → IsFileRefusal (Some after) read_inputs refusal → IsLong refusal
  of_files refusal is =
      file_case held (name_at find 0) (find_output find) (settings_of find plan) success choice.read choice.made.2 choice.files
      (names_differ find_words find reads_find same.finds) (all_else find_words find reads_find same.finds) refusal is

  -- nor is anything once they are read
  of_choice : (refusal : Refusal) (bytes : List (List ℕ)) → AreRead (Some after) read_inputs bytes
      → IsCheckRefused (settings_of find plan) bytes refusal → ⊥
  of_choice refusal bytes are is =
      once_case held (name_at find 0) (find_output find) (settings_of find plan) success choice.read choice.made.2 choice.files
      (names_differ find_words find reads_find same.finds) (all_else find_words find reads_find same.finds) refusal bytes are
      is

  module _ (now : Files) (alike : HoldTheSame (inputs_by Check check) now after) where
    -- nor of the reading of the check, over files of which those that it reads are as the choice left them,
    checked_files : (refusal : Refusal) → IsFileRefusal (Some now) (inputs_by check.command check) refusal → IsLong refusal
    checked_files refusal is =
        of_files refusal
        (subst (λ inputs. IsFileRefusal (Some after) inputs refusal) (same_inputs find check same plan)
        (refusal_there now after (inputs_by Check check) refusal alike
        (subst (λ c. IsFileRefusal (Some now) (inputs_by c check) refusal) same.checks is)))

    -- nor once these are read
    checked_choice : (refusal : Refusal) (bytes : List (List ℕ)) → AreRead (Some now) (inputs_by check.command check) bytes
        → RefusesBy check.command check bytes refusal → ⊥
    checked_choice refusal bytes are is =
        let refused : RefusesBy Check check bytes refusal =
        subst (λ c. RefusesBy c check bytes refusal) same.checks is in
        let one = one_plan find refused.0 plan (same_plan find check same refused.0 refused.1) choice.made.1 in
        of_choice refusal bytes
        (subst (λ inputs. AreRead (Some after) inputs bytes) (same_inputs find check same plan)
        (read_there now after (inputs_by Check check) bytes alike
        (subst (λ c. AreRead (Some now) (inputs_by c check) bytes) same.checks are)))
        (subst (λ settings. IsCheckRefused settings bytes refusal) (same_settings find check same plan)
        (subst (λ p. IsCheckRefused (settings_of check p) bytes refusal) one refused.2))

    -- nor of all words of the check
    long_alone : (refusal : Refusal) → IsRefusal (Some now) check_words refusal → IsLong refusal
    long_alone refusal (usage none) = absurd (none check reads_check)
    long_alone refusal (file {refusal = r} reading reads is) =
        checked_files r
        (subst (λ (reading : Reading). IsFileRefusal (Some now) (inputs_by reading.command reading) r)
        (one_reading check_words reading check reads reads_check) is)
    long_alone refusal (once_read {refusal = r} reading bytes reads are is) =
        let one = one_reading check_words reading check reads reads_check in
        absurd (checked_choice r bytes
        (subst (λ (reading : Reading). AreRead (Some now) (inputs_by reading.command reading) bytes) one are)
        (subst (λ (reading : Reading). RefusesBy reading.command reading bytes r) one is))

    -- a log book is too long now if it was so
    long_now : (refusal : Refusal) → IsLong refusal → IsOfLongBook (Some now) (name_at check 3) refusal
    long_now refusal long =
        let is : IsOfLongBook (Some after) (name_at check 3) refusal =
        subst (λ name. IsOfLongBook (Some after) name refusal) (same.names 3 (lit< tt)) long in
        record {
          name = is.name;
          is_name = is.is_name;
          refusal_is = is.refusal_is;
          bytes = is.bytes;
          there = alike 3 (book_input (name_at check 3)) (omega arith) ∙ is.there;
          too_long = is.too_long;
        }

-- the check of a choice refuses nothing but a log book that is too long
pub check_accepts : CheckAcceptsChoices
check_accepts held now find_words check_words find check success refusal reads_find reads_check same done alike is =
    long_now held find_words check_words find check success reads_find reads_check same done now alike refusal
    (long_alone held find_words check_words find check success reads_find reads_check same done now alike refusal is)
