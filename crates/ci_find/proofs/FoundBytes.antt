-- The bytes of what `find` makes, of which all of the headline holds.
use Rattle.std.proofs.Common.{ℕ, List, refl}
use Rattle.ci_elf.specs.Rules.{rules, KeepsRules}
use Rattle.ci_vemit.specs.Templates.{modules_of}
use Rattle.ci_vemit.specs.Texts.{text_of}
use Rattle.ci_runs.proofs.ChosenFileLaws.{chosen_files_run_alike}
use Rattle.ci_runs.proofs.ProfiledRunLaws.{choices_save_in_profile}
use Rattle.ci_select.specs.declared.plan.Plan.{Plan}
use Rattle.ci_arguments.specs.Words.{Reading}
use Rattle.ci_calls.specs.declared.success.Success.{Success}
use Rattle.ci_calls.specs.Files.{input_bytes}
use Rattle.ci_find.specs.ChoiceReading.{IsPlanOf, settings_of, find_output}
use Rattle.ci_find.specs.FindCommand.{IsFindMade}
use Rattle.ci_find.specs.Headline.{FoundBytes, IsChosen}
use Rattle.ci_find.specs.Profiled.{instance_by}
use Rattle.ci_find.proofs.ChoiceFiles.{chosen_file}
use Rattle.ci_find.proofs.ChoiceLaws.{choices_tell}

module _ (reading : Reading) (read : List (List ℕ)) (success : Success) (plan : Plan) (is_plan : IsPlanOf reading plan)
    (made : IsFindMade (find_output reading) (settings_of reading plan) read success) where
  abbrev pub found_bytes : FoundBytes
  found_bytes = record {
    executable = made.executable;
    others = made.others;
    units = text_of (modules_of made.choice.units);
    logs = made.choice.logs_text;
    report = made.choice.report_text;
    new = made.choice.new_bytes;
    text = success.text.items;
  }

  pub all_chosen : KeepsRules made.executable (rules made.executable) → IsChosen reading found_bytes
  all_chosen kept =
      let settings = settings_of reading plan in
      let choice = made.choice in
      let run = made.profiled.is_profiled in
      let is_chosen = chosen_file (find_output reading) settings read success made kept in
      let told = choices_tell (find_output reading) settings read success made kept in
      record {
        files = record {
          plan = plan;
          is_plan = is_plan;
          profiled = made.profiled;
          modules = modules_of choice.units;
          book = choice.book;
          modules_are = told.0;
          book_is = choice.logs_are;
          acceptable = record {
            legal = choice.legal;
            modules_are = (choice.units, choice.units_are, refl);
            new_is = choice.new_is;
          };
          report_is = choice.report_is;
          saved = choice.saved;
          saved_is = choice.saved_is;
          text_is = choice.text_is;
        };
        runs =
            chosen_files_run_alike (instance_by made.profiled) made.profiled.files.file choice.book choice.units
            choice.new_bytes is_chosen;
        profiled =
            choices_save_in_profile made.profiled.files.file made.profiled.files.latencies settings.steps
            (input_bytes made.profiled.files.input) settings.named made.profiled.profile made.profiled.blocks
            made.profiled.live run.meaning plan choice.book choice.units choice.new_bytes choice.saved run.plain
            run.of_bytes run.profile_is run.leaves_text run.analysis is_chosen choice.saved_is;
        best = told.1;
      }
