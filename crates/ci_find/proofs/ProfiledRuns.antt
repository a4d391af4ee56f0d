-- The run that a choice is made from, what the commands `find` and `area` make of it, and what they refuse.
use Rattle.std.proofs.Common.{◌≡◌, ℕ, inl, inr, Bool, List, ◌∷◌, ◌++◌, Option, Some, refl, subst}
use Rattle.ci_io.specs.Outcomes.{ShelfState}
use Rattle.ci_elf.specs.Executables.{Executable, IsImageOf}
use Rattle.ci_lat.specs.Latencies.{Latencies}
use Rattle.ci_machine.specs.Programs.{Program, State, loaded_program, opening}
use Rattle.ci_machine.specs.Runs.{Latencies as Costs}
use Rattle.ci_machine.specs.Steps.{Meaning}
use Rattle.ci_machine.specs.Touches.{IsFirstTouch}
use Rattle.ci_block.specs.declared.blocks.Block.{Block}
use Rattle.ci_block.specs.CustomWords.{IsFirstCustomWord}
use Rattle.ci_live.specs.Sets.{Sets}
use Rattle.ci_emu.specs.declared.profile.Profile.{Profile}
use Rattle.ci_emu.specs.Profiles.{IsProfileOf, IsTouch}
use Rattle.ci_select.specs.Instances.{instance_of}
use Rattle.ci_calls.specs.declared.refusals.Refusal.{Refusal}
use Rattle.ci_calls.specs.declared.refusals.Refusal.TheVariants.{Unsupported}
use Rattle.ci_calls.specs.declared.success.Success.{Success}
use Rattle.ci_calls.specs.Files.{optional_bytes, AreGiven, AreLatencies, input_bytes}
use Rattle.ci_calls.specs.Evaluations.{IsUnsupported}
use Rattle.ci_calls.specs.Inputs.{Input}
use Rattle.ci_calls.specs.Reads.{HaveRead, IsSuccessOf, IsRefusalOf}
use Rattle.ci_calls.proofs.InputLaws.{read_without_memory}
use Rattle.ci_find.specs.AreaCommand.{IsAreaChoice, IsAreaMade}
use Rattle.ci_find.specs.Profiled.{Settings, RunFiles, Profiled, IsProfiled, IsUnprofiled, custom}
use Rattle.ci_find.specs.FindCommand.{FindOutput, IsChoice, IsFindMade, IsFindRefused}
use Rattle.ci_find.specs.private.Unprofiled.{IsUnprofiledCause}

-- ---- the run

-- the first word of a custom opcode is why the executable can't be chosen from
pub custom_refused :
    (file : Executable) (input : List ℕ) (steps : ℕ) (refusal : Refusal)
    → IsUnsupported (IsFirstCustomWord file) refusal → IsUnprofiledCause file input steps refusal
custom_refused file input steps (Unsupported position word) first = inl (custom first)
custom_refused file input steps refusal cause = absurd cause

module _ (meaning : Meaning) (file : Executable) (input : List ℕ) (steps : ℕ) where
  -- the profile of a run from a state that is the opening one
  pub opened :
      (latencies : Costs) (program : Program) (start : State) (profile : Profile)
      → program ≡ loaded_program file → start ≡ opening file input
      → IsProfileOf meaning program steps start latencies profile
      → IsProfileOf meaning (loaded_program file) steps (opening file input) latencies profile
  opened latencies program start profile same_program same_start counted =
      subst (λ T. T) (λ i. IsProfileOf meaning (same_program i) steps (same_start i) latencies profile) counted

  -- the first touch of the text that the profile tells
  pub first_touch :
      (touch : Option (ℕ × ℕ)) (pc address : ℕ) → touch ≡ Some (pc, address)
      → IsTouch meaning (loaded_program file) steps (opening file input) touch
      → IsFirstTouch meaning (loaded_program file) steps (opening file input) pc address
  first_touch touch pc address is told = subst (IsTouch meaning (loaded_program file) steps (opening file input)) is told

-- ---- the files

-- what the bytes of the files of a run say
abbrev pub files_of :
    (settings : Settings) (executable : List ℕ) (table input : Option (List ℕ)) (file : Executable)
    (latencies : Latencies) → AreGiven settings.table table → AreGiven settings.input input
    → IsImageOf executable file → AreLatencies table latencies
    → RunFiles settings executable (optional_bytes table ++ optional_bytes input)
files_of settings executable table input file latencies table_given input_given file_is latencies_are = record {
  table = table;
  input = input;
  others_are = refl;
  table_given = table_given;
  input_given = input_given;
  file = file;
  latencies = latencies;
  file_is = file_is;
  latencies_are = latencies_are;
}

module _
    (settings : Settings) (executable : List ℕ) (others : List (List ℕ)) (inputs : List Input)
    (run : RunFiles settings executable others) (input : List ℕ) (same : input ≡ input_bytes run.input)
    (read_may_fail write_may_fail : List ℕ → Bool) (before after : ShelfState)
    (files : HaveRead read_may_fail write_may_fail before after inputs (executable ∷ others)) where
  -- an executable that can't be chosen from
  pub find_refused :
      (refusal : Refusal) → IsUnprofiledCause run.file input settings.steps refusal
      → IsRefusalOf read_may_fail write_may_fail before after inputs (IsFindRefused settings) refusal
  find_refused refusal (inl is) = inr (record {
    answered = executable ∷ others;
    read = files;
    refused = record {
      executable = executable;
      others = others;
      read_is = refl;
      files = run;
      unprofiled = subst (λ bytes. IsUnprofiled run.file bytes settings.steps refusal) same is;
    };
  })
  find_refused refusal (inr none) =
      rw none (inl (read_without_memory read_may_fail write_may_fail before after inputs (executable ∷ others) files))

  module _
      (profile : Profile) (blocks : List Block) (live : Sets)
      (is : IsProfiled run.file run.latencies input settings.steps settings.named profile blocks live) where
    -- the files can be chosen from
    abbrev profiled : Profiled settings executable others
    profiled = record {
      files = run;
      profile = profile;
      blocks = blocks;
      live = live;
      is_profiled =
          subst (λ bytes. IsProfiled run.file run.latencies bytes settings.steps settings.named profile blocks live)
          same is;
    }

    -- a choice for it
    pub find_made :
        (output : FindOutput) (success : Success)
        → IsChoice (instance_of profile blocks live run.latencies settings.plan) profile run.file output success
        → IsSuccessOf read_may_fail write_may_fail before after inputs (IsFindMade output settings) success
    find_made output success choice = record {
      answered = executable ∷ others;
      read = files;
      made = record {
        executable = executable;
        others = others;
        read_is = refl;
        profiled = profiled;
        choice = choice;
      };
    }

    -- the best of the units of a choice for it
    pub area_made :
        (limit : ℕ) (success : Success)
        → IsAreaChoice (instance_of profile blocks live run.latencies settings.plan) limit success
        → IsSuccessOf read_may_fail write_may_fail before after inputs (IsAreaMade settings limit) success
    area_made limit success choice = record {
      answered = executable ∷ others;
      read = files;
      made = record {
        executable = executable;
        others = others;
        read_is = refl;
        profiled = profiled;
        choice = choice;
      };
    }
