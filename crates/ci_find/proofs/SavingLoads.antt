-- In the line of a load the cost of the program less that of the new one is the gain.
use Rattle.std.proofs.Common.{◌≡◌, ◌∙◌, ℕ, ◌+◌, List, [], Option, Some, None, refl, sym, ap, lit<, lit≤}
use Rattle.ci_lat.specs.Latencies.{usual}
use Rattle.ci_lat.proofs.SettingsFit.{usual_is_table}
use Rattle.ci_machine.specs.declared.ends.End.TheVariants.{Exit}
use Rattle.ci_machine.specs.Programs.{Program, State, loaded_program, opening}
use Rattle.ci_machine.specs.Runs.{after}
use Rattle.ci_machine.specs.Steps.{Meaning}
use Rattle.ci_machine.specs.Touches.{LeavesTextFor}
use Rattle.ci_emu.specs.Profiles.{IsTouch, targets_in}
use Rattle.ci_vemit.specs.Templates.{modules_of}
use Rattle.ci_select.specs.Instances.{instance_of}
use Rattle.ci_runs.specs.ChosenFiles.{IsChosenFile, rewriting_of}
use Rattle.ci_runs.specs.ProfiledRuns.{SavesInProfile}
use Rattle.ci_runs.proofs.ProfiledRunLaws.{choices_save_in_profile}
use Rattle.ci_gen.proofs.ProgramLaws.{plain_words}
use Rattle.ci_gen.proofs.RunLaws.{programs_exit}
use Rattle.ci_calls.specs.declared.success.Success.{Success}
use Rattle.ci_find.specs.Laws.{LoadsSave}
use Rattle.ci_find.specs.LoadCommand.{IsLoadMade, steps_of_load}

-- of a run that leaves the text alone no touch is told
none_told : (meaning : Meaning) (program : Program) (n : ℕ) (state : State) (touch : Option (ℕ × ℕ))
    → LeavesTextFor meaning program n state → IsTouch meaning program n state touch → touch ≡ None
none_told meaning program n state None clear is = refl
none_told meaning program n state (Some (pc, address)) clear is =
    let none : None ≡ Some address = sym (clear is.place is.within is.made) ∙ is.touches in
    absurd (cc)

module _ (seed : ℕ) (read : List (List ℕ)) (success : Success) (made : IsLoadMade seed read success) where
  -- the run of the program
  run_exits : LeavesTextFor made.run.meaning (loaded_program made.file) steps_of_load (opening made.file [])
      × ((after made.run.meaning (loaded_program made.file) steps_of_load (opening made.file [])).end ≡ Some (Exit 0))
  run_exits =
      programs_exit seed made.file [] made.run.meaning steps_of_load made.program made.file_is made.run.plain (lit≤ tt)

  -- ends by an exit
  exit : made.profile.end ≡ Some (Exit 0)
  exit = made.run.profile_is.end ∙ run_exits.1

  -- the program with the units is the file of a choice
  chosen : IsChosenFile (instance_of made.profile made.blocks made.live usual made.plan) made.file made.book made.units
      made.new_bytes
  chosen = record {
    old = made.file.bytes;
    old_is = made.file_is;
    old_bytes = made.file_of_bytes;
    no_custom = plain_words seed made.file.bytes made.program made.file made.file_is;
    blocks = (targets_in made.profile, [], made.analysis);
    table = usual_is_table;
    legal = made.legal;
    units_are = made.units_are;
    units_keep = made.units_keep;
    new_is = made.new_is;
    new_bytes = made.new_of_bytes;
  }

  -- which saves its total in this run
  saves : SavesInProfile
      (rewriting_of (instance_of made.profile made.blocks made.live usual made.plan) made.file (modules_of made.units)
      made.new_bytes) usual steps_of_load [] made.profile made.saved
  saves =
      choices_save_in_profile made.file usual steps_of_load [] [] made.profile made.blocks made.live made.run.meaning
      made.plan made.book made.units made.new_bytes made.saved made.run.plain (λ k. lit< tt) made.run.profile_is
      (none_told made.run.meaning (loaded_program made.file) steps_of_load (opening made.file []) made.profile.touched
      run_exits.0 made.run.profile_is.touched) made.analysis chosen made.saved_is

pub loads_save : LoadsSave
loads_save seed read success made = (
  exit seed read success made,
  (saves seed read success made).costs made.new_run.meaning (Exit 0) made.new_run.extended
      (exit seed read success made) refl
      ∙ ap (λ cycles. cycles + made.saved) (sym made.new_run.cycles_are),
)
