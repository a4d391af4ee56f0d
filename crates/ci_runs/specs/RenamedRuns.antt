-- What the runs of a renamed executable share with those of the original. For every reader.
use Rattle.std.specs.Prelude.{◌≡◌, ℕ, Bool, true, List}
use Rattle.std.specs.FinSet as finite
use Rattle.ci_elf.specs.Executables.{Executable}
use Rattle.ci_live.specs.Sets.{Sets, at_leader}
use Rattle.ci_machine.specs.Agreement.{AgreeOn, AgreeOutside}
use Rattle.ci_machine.specs.Outcomes.{Reached}
use Rattle.ci_machine.specs.Programs.{State, in_text, loaded_program, opening}
use Rattle.ci_machine.specs.RunEvents.{IsTame}
use Rattle.ci_machine.specs.Runs.{after}
use Rattle.ci_machine.specs.Steps.{IsPlain, Meaning}
use Rattle.ci_rename.specs.RenamedFiles.{IsRenamedFile}
use Rattle.ci_runs.specs.WholeRuns.{is_among}

-- Both runs have come to the same end, or to none, with equal output, heap end and input left, and equal memory outside
-- the text, and stand at one pc. At a listed leader they agree on the registers that are live there.
pub record AreInStepAt (text : ℕ → Bool) (live : Sets) (old new : Reached State) : Type 0 where
  pub end : old.end ≡ new.end
  pub outside : AgreeOutside text old.state.core new.state.core
  pub pc : old.state.pc ≡ new.state.pc
  pub fronts :
      is_among live.leaders old.state.pc ≡ true
      → AgreeOn (finite.contains (at_leader live old.state.pc)) old.state.core new.state.core

-- On every input, after each number of steps for which the original run is tame, both are in step.
abbrev pub RenamedFilesRunInStep : Type 0
RenamedFilesRunInStep =
    (old new : Executable) (live : Sets) (values changed : ℕ) → IsRenamedFile old new live values changed
    → (plain : Meaning) (input : List ℕ) (n : ℕ) → IsPlain plain
    → IsTame plain (loaded_program old) (is_among live.leaders) n (opening old input)
    → AreInStepAt (in_text (loaded_program old)) live (after plain (loaded_program old) n (opening old input))
    (after plain (loaded_program new) n (opening new input))

-- And wherever the original run is tame so is that of the renamed file, whatever leaders are listed further.
abbrev pub RenamedRunsAreTame : Type 0
RenamedRunsAreTame =
    (old new : Executable) (live : Sets) (values changed : ℕ) → IsRenamedFile old new live values changed
    → (plain : Meaning) (input : List ℕ) (n : ℕ) (is_listed : ℕ → Bool) → IsPlain plain
    → IsTame plain (loaded_program old) (is_among live.leaders) n (opening old input)
    → IsTame plain (loaded_program old) is_listed n (opening old input)
    → IsTame plain (loaded_program new) is_listed n (opening new input)
