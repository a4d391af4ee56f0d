-- For every reader: the command `rename`, which renames the values of the blocks of an executable.
use Rattle.std.specs.Prelude.{◌≡◌, ℕ, List, [], ◌∷◌, ◌++◌, codes, map, Ok, Option}
use Rattle.std.specs.Fmt.{decimal}
use Rattle.ci_reading.specs.Lines.{line}
use Rattle.ci_elf.specs.Executables.{Executable, IsImageOf}
use Rattle.ci_elf.specs.Rules.{IsReadAs}
use Rattle.ci_lat.specs.Latencies.{usual}
use Rattle.ci_block.specs.declared.blocks.Block.{Block}
use Rattle.ci_live.specs.Sets.{Sets}
use Rattle.ci_emu.specs.declared.profile.Profile.{Profile}
use Rattle.ci_rename.specs.RenamedFiles.{IsRenamedFile}
use Rattle.ci_calls.specs.declared.refusals.Refusal.{Refusal}
use Rattle.ci_calls.specs.declared.success.Success.{Success}
use Rattle.ci_calls.specs.Files.{executable_input, program_input, optional_input, optional_bytes, AreGiven, input_bytes}
use Rattle.ci_calls.specs.Inputs.{Input}
use Rattle.ci_find.specs.FindCommand.{written}
use Rattle.ci_find.specs.Profiled.{IsProfiled, IsUnprofiled}

-- What a call says of a renaming: the greatest number of steps of the run, the addresses that it names as leaders, and
-- the name of the file with the input of the program, where it gives one.
pub record RenameSettings : Type 0 where
  pub steps : ℕ
  pub named : List ℕ
  pub input : Option (List ℕ)

-- ---- what is read

-- the executable and the input
abbrev pub rename_inputs : List ℕ → Option (List ℕ) → List Input
rename_inputs file input = executable_input file ∷ optional_input program_input input

-- what the bytes of these say
pub record RenameFiles (settings : RenameSettings) (read : List (List ℕ)) : Type 0 where
  pub executable : List ℕ
  pub input : Option (List ℕ)
  pub read_is : read ≡ executable ∷ optional_bytes input
  pub input_given : AreGiven settings.input input
  pub file : Executable
  pub file_is : IsImageOf executable file

-- ---- the line

-- how many values are renamed, and in how many blocks some are
abbrev pub rename_line : ℕ → ℕ → List ℕ
rename_line values changed =
    line (codes "renamed " ++ decimal values ++ codes " blocks " ++ decimal changed)

-- ---- the command

-- The bytes are an executable: the file with all its blocks renamed, by what is live around them. The text is the line
-- of its numbers.
pub record IsRenaming (file : Executable) (live : Sets) (new text : List ℕ) : Type 0 where
  pub renamed : Executable
  pub values : ℕ
  pub changed : ℕ
  pub is_renamed : IsRenamedFile file renamed live values changed
  pub new_is : IsReadAs new (Ok renamed)
  pub text_is : text ≡ rename_line values changed

-- These are so of the executable that is read. Its blocks begin at the leaders that the file, its profiled run and the
-- call give.
pub record IsRenamingOf (settings : RenameSettings) (read : List (List ℕ)) (new text : List ℕ) : Type 0 where
  pub files : RenameFiles settings read
  pub profile : Profile
  pub blocks : List Block
  pub live : Sets
  pub is_profiled :
      IsProfiled files.file usual (input_bytes files.input) settings.steps settings.named profile blocks live
  pub renaming : IsRenaming files.file live new text

-- It writes the renamed file under the name, and no other file, and puts the line.
pub record IsRenameMade (name : List ℕ) (settings : RenameSettings) (read : List (List ℕ)) (success : Success) :
    Type 0 where
  pub new : List ℕ
  pub writes_are : map written success.writes.items ≡ (name, new) ∷ []
  pub renaming : IsRenamingOf settings read new success.text.items

-- it refuses the executables that `find` refuses
pub record IsRenameRefused (settings : RenameSettings) (read : List (List ℕ)) (refusal : Refusal) : Type 0 where
  pub files : RenameFiles settings read
  pub unprofiled : IsUnprofiled files.file (input_bytes files.input) settings.steps refusal
