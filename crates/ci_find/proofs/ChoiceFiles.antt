-- What `find` makes is of a file, with latencies that are a table.
use Rattle.std.proofs.Common.{ℕ, List, Option, Some, None, sym, subst}
use Rattle.ci_elf.specs.Rules.{rules, KeepsRules}
use Rattle.ci_elf.proofs.TextPlaceLaws.{formed}
use Rattle.ci_lat.specs.Latencies.{Latencies}
use Rattle.ci_lat.specs.TableRules.{IsLatencyTable}
use Rattle.ci_lat.proofs.SettingsFit.{IsLatencyTable-table_of, usual_is_table}
use Rattle.ci_machine.specs.Words.{AreBytes}
use Rattle.ci_emu.specs.Profiles.{targets_in}
use Rattle.ci_select.specs.Instances.{AreOfSomeFile}
use Rattle.ci_runs.specs.ChosenFiles.{IsChosenFile}
use Rattle.ci_calls.specs.declared.success.Success.{Success}
use Rattle.ci_calls.specs.Files.{AreLatencies}
use Rattle.ci_find.specs.FindCommand.{FindOutput, IsFindMade}
use Rattle.ci_find.specs.Profiled.{Settings, instance_by}

-- the latencies are a table
are_table : (table : Option (List ℕ)) (latencies : Latencies) → AreLatencies table latencies → IsLatencyTable latencies
are_table None latencies are = subst IsLatencyTable (sym are) usual_is_table
are_table (Some bytes) latencies (document, is_document, sound, is) =
    subst IsLatencyTable (sym is) (IsLatencyTable-table_of document sound)

module _ (output : FindOutput) (settings : Settings) (read : List (List ℕ)) (success : Success)
    (made : IsFindMade output settings read success) (kept : KeepsRules made.executable (rules made.executable)) where
  -- it is a chosen file, with its units and its new file,
  pub chosen_file :
      IsChosenFile (instance_by made.profiled) made.profiled.files.file made.choice.book made.choice.units made.choice.new_bytes
  chosen_file =
      let files = made.profiled.files in
      let choice = made.choice in
      record {
        old = made.executable;
        old_is = (kept, files.file_is);
        old_bytes = subst AreBytes files.file_is.same_bytes choice.file_of_bytes;
        no_custom = made.profiled.is_profiled.no_custom;
        blocks = (targets_in made.profiled.profile, settings.named, made.profiled.is_profiled.analysis);
        table = are_table files.table files.latencies files.latencies_are;
        legal = choice.legal;
        units_are = choice.units_are;
        units_keep = choice.units_keep;
        new_is = choice.new_is;
        new_bytes = choice.new_of_bytes;
      }

  -- and its blocks are those of some file
  pub of_some_file : AreOfSomeFile (instance_by made.profiled).blocks (instance_by made.profiled).live
  of_some_file =
      let files = made.profiled.files in (
        files.file,
        chosen_file.blocks,
        formed made.executable kept files.file files.file_is,
        made.choice.file_of_bytes,
      )
