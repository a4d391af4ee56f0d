-- The success of words that read as `find`: what it makes, and that the names of its files differ.
use Rattle.std.proofs.Common.{◌≡◌, ℕ, inl, inr, List, Option, Some, None, refl, subst, lit<}
use Rattle.ci_io.specs.Outcomes.{Files}
use Rattle.ci_arguments.specs.Words.{Reading, ReadsAs, name_at, name_set}
use Rattle.ci_arguments.specs.declared.tables.CommandName.{CommandName}
use Rattle.ci_arguments.specs.declared.tables.CommandName.TheVariants.{Find}
use Rattle.ci_arguments.specs.declared.tables.OptionName.{OptionName}
use Rattle.ci_arguments.specs.declared.tables.OptionName.TheVariants as option
use Rattle.ci_arguments.proofs.Readings.{one_reading}
use Rattle.ci_calls.specs.declared.success.Success.{Success}
use Rattle.ci_calls.specs.Evaluations.{Evaluates}
use Rattle.ci_find.specs.ChoiceReading.{find_output}
use Rattle.ci_find.specs.Commands.{inputs_by, MakesBy}
use Rattle.ci_find.specs.Endings.{IsDone}
use Rattle.ci_find.specs.FindCommand.{FindOutput, find_inputs}
use Rattle.ci_find.specs.Profiled.{run_files}
use Rattle.ci_find.proofs.LeftFiles.{AreElse, IsElse, NamesDiffer}
use Rattle.ci_find.proofs.WrittenNames.{logs_are_written, name_apart, new_is_written, report_is_written, set_apart, units_are_written}

-- where the table and the input, if there are any, are no file that is written, neither of both is
else_optional : (output : FindOutput) (table input : Option (List ℕ))
    → ((name : List ℕ) → table ≡ Some name → IsElse output name)
    → ((name : List ℕ) → input ≡ Some name → IsElse output name) → AreElse output (run_files table input)
else_optional output None None of_table of_input = tt
else_optional output None (Some y) of_table of_input = (of_input y refl, tt)
else_optional output (Some x) None of_table of_input = (of_table x refl, tt)
else_optional output (Some x) (Some y) of_table of_input = (of_table x refl, (of_input y refl, tt))

-- what is due is what the command makes
pub evaluated_by : (words : List (List ℕ)) (reading : Reading) → ReadsAs words reading → (command : CommandName)
    → reading.command ≡ command → (told : Option Files) (success : Success) → IsDone told words success
    → Evaluates told (inputs_by command reading) (MakesBy command reading) success
evaluated_by words reading reads command is told success done =
    subst (λ c. Evaluates told (inputs_by c reading) (MakesBy c reading) success) is
    (subst (λ (r : Reading). Evaluates told (inputs_by r.command r) (MakesBy r.command r) success)
    (one_reading words done.reading reading done.reads reads) done.made)

module _ (words : List (List ℕ)) (reading : Reading) (reads : ReadsAs words reading) (finds : reading.command ≡ Find) where
  -- what is due is what `find` makes
  pub found : (told : Option Files) (success : Success) → IsDone told words success
      → Evaluates told (inputs_by Find reading) (MakesBy Find reading) success
  found told success done = evaluated_by words reading reads Find finds told success done

  -- the names of the files that it writes differ
  pub names_differ : NamesDiffer (find_output reading)
  names_differ = record {
    new_of_report = name_apart words reading reads finds 1 new_is_written 4 (inr (lit< tt));
    new_of_logs = name_apart words reading reads finds 1 new_is_written 3 (inr (lit< tt));
    new_of_units = name_apart words reading reads finds 1 new_is_written 2 (inr (lit< tt));
    report_of_logs = name_apart words reading reads finds 4 report_is_written 3 (inl (lit< tt));
    report_of_units = name_apart words reading reads finds 4 report_is_written 2 (inl (lit< tt));
    logs_of_units = name_apart words reading reads finds 3 logs_are_written 2 (inl (lit< tt));
  }

  -- from them that of OLD,
  old_is_else : IsElse (find_output reading) (name_at reading 0)
  old_is_else = record {
    units = name_apart words reading reads finds 2 units_are_written 0 (inl (lit< tt));
    logs = name_apart words reading reads finds 3 logs_are_written 0 (inl (lit< tt));
    report = name_apart words reading reads finds 4 report_is_written 0 (inl (lit< tt));
    new = name_apart words reading reads finds 1 new_is_written 0 (inl (lit< tt));
  }

  -- those of files that options name,
  set_is_else : (o : OptionName) (name : List ℕ) → name_set reading o ≡ Some name → IsElse (find_output reading) name
  set_is_else o name is = record {
    units = set_apart words reading reads finds 2 units_are_written o name is;
    logs = set_apart words reading reads finds 3 logs_are_written o name is;
    report = set_apart words reading reads finds 4 report_is_written o name is;
    new = set_apart words reading reads finds 1 new_is_written o name is;
  }

  -- and so those of all files that it reads
  pub all_else :
      AreElse (find_output reading) (find_inputs (name_at reading 0) (name_set reading option.Table) (name_set reading option.Input))
  all_else = (
    old_is_else,
    else_optional (find_output reading) (name_set reading option.Table) (name_set reading option.Input)
        (set_is_else option.Table) (set_is_else option.Input),
  )
