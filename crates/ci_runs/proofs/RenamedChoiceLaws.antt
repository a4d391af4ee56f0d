-- The new file of a choice in a renamed file runs as the original does.
use Rattle.std.specs.Prelude.{ℕ, ◌+◌, ◌≤◌, Bool, List}
use Rattle.std.proofs.Common.{sym, ap, ◌∙◌, subst, arith}
use Rattle.ci_elf.specs.Executables.{Executable}
use Rattle.ci_live.specs.Sets.{Sets}
use Rattle.ci_machine.specs.Agreement.{AgreeOutside}
use Rattle.ci_machine.specs.Cores.{Core}
use Rattle.ci_machine.specs.Outcomes.{Reached}
use Rattle.ci_machine.specs.Programs.{State, in_text, loaded_program, opening}
use Rattle.ci_machine.specs.RunEvents.{IsTame}
use Rattle.ci_machine.specs.Runs.{after}
use Rattle.ci_machine.specs.Steps.{Meaning}
use Rattle.ci_select.specs.NewFiles.{with_bytes}
use Rattle.ci_runs.specs.RenamedChoices.{RenamedChoicesRunAlike}
use Rattle.ci_runs.specs.RenamedRuns.{AreInStepAt}
use Rattle.ci_runs.specs.WholeRuns.{AreAlikeAt, is_among}
use Rattle.ci_runs.proofs.ChosenFileLaws.{chosen_files_run_alike}
use Rattle.ci_runs.proofs.RenamedFileLaws.{renamed_files_run_in_step, renamed_runs_are_tame}

module _ (places : ℕ → Bool) where
  joined : (one two three : Core) → AgreeOutside places one two → AgreeOutside places two three → AgreeOutside places one three
  joined one two three first second = record {
    memory = λ address apart. first.memory address apart ∙ second.memory address apart;
    heap_end = first.heap_end ∙ second.heap_end;
    input = first.input ∙ second.input;
    output = first.output ∙ second.output;
  }

  turned : (one two : Core) → AgreeOutside places one two → AgreeOutside places two one
  turned one two same = record {
    memory = λ address apart. sym (same.memory address apart);
    heap_end = sym same.heap_end;
    input = sym same.input;
    output = sym same.output;
  }

  -- what runs as the second of two runs in step does, runs as the first one
  in_step_alike : (live : Sets) (n : ℕ) (old middle new : ℕ → Reached State) → AreInStepAt places live (old n) (middle n)
      → AreInStepAt places live (old (n + 256)) (middle (n + 256)) → AreAlikeAt places n middle new → AreAlikeAt places n old new
  in_step_alike live n old middle new here later alike = record {
    output = here.outside.output ∙ alike.output;
    old_ends = λ end ended.
        let found = alike.old_ends end (sym here.end ∙ ended) in
        record {
          ended = found.ended;
          outside = joined (old n).state.core (middle n).state.core (new (n + 256)).state.core here.outside found.outside;
        };
    new_ends = λ end ended.
        let found = alike.new_ends end ended in
        record {
          ended = later.end ∙ found.ended;
          outside =
              joined (new n).state.core (middle (n + 256)).state.core (old (n + 256)).state.core found.outside
              (turned (old (n + 256)).state.core (middle (n + 256)).state.core later.outside);
        };
    same_steps = λ end other.
        let same = alike.same_steps end other in (λ ended. same.0 (sym here.end ∙ ended), λ ended. here.end ∙ same.1 ended);
  }

-- a run that is tame for more steps is tame for fewer
fewer : (plain : Meaning) (file : Executable) (is_listed : ℕ → Bool) (m n : ℕ) (input : List ℕ) → n ≤ m
    → IsTame plain (loaded_program file) is_listed m (opening file input) → IsTame plain (loaded_program file) is_listed n (opening file input)
fewer plain file is_listed m n input less tame = record {
  leaves_text = λ i below made. tame.leaves_text i (omega arith) made;
  listed = λ i target below made is there. tame.listed i target (omega arith) made is there;
}

pub renamed_choices_run_alike : RenamedChoicesRunAlike
renamed_choices_run_alike original renamed live values changed is instance book units new chosen plain extended input n tame =
    let in_step = renamed_files_run_in_step original renamed live values changed is plain input in
    let alike =
    (chosen_files_run_alike instance renamed book units new chosen).runs plain extended input n
    (record { is_plain = tame.is_plain; is_extended = tame.is_extended; bytes = tame.bytes })
    (renamed_runs_are_tame original renamed live values changed is plain input (n + 256) (is_among instance.live.leaders) tame.is_plain
    tame.by_renaming tame.by_choice) in
    in_step_alike (in_text (loaded_program original)) live n
    (λ m. after plain (loaded_program original) m (opening original input))
    (λ m. after plain (loaded_program renamed) m (opening renamed input))
    (λ m. after extended (loaded_program (with_bytes renamed new)) m (opening (with_bytes renamed new) input))
    (in_step n tame.is_plain (fewer plain original (is_among live.leaders) (n + 256) n input (omega arith) tame.by_renaming))
    (in_step (n + 256) tame.is_plain tame.by_renaming)
    (subst (λ p. AreAlikeAt (in_text p) n (λ m. after plain (loaded_program renamed) m (opening renamed input))
    (λ m. after extended (loaded_program (with_bytes renamed new)) m (opening (with_bytes renamed new) input)))
    (ap loaded_program is.new_is) alike)
