-- For every reader: the run that a choice of cuts is made from, and the basic blocks that it enters.
use Rattle.std.specs.Prelude.{◌≡◌, ℕ, List, ◌++◌, Option, None}
use Rattle.ci_elf.specs.Executables.{Executable, IsImageOf}
use Rattle.ci_lat.specs.Latencies.{Latencies}
use Rattle.ci_machine.specs.Programs.{loaded_program, opening}
use Rattle.ci_machine.specs.Steps.{Meaning, IsPlain}
use Rattle.ci_machine.specs.Touches.{IsFirstTouch}
use Rattle.ci_machine.specs.Words.{AreBytes}
use Rattle.ci_block.specs.declared.blocks.Block.{Block}
use Rattle.ci_block.specs.CustomWords.{HasNoCustomWord, IsFirstCustomWord}
use Rattle.ci_live.specs.Analyses.{IsAnalysis}
use Rattle.ci_live.specs.Sets.{Sets}
use Rattle.ci_emu.specs.declared.profile.Profile.{Profile}
use Rattle.ci_emu.specs.Profiles.{IsProfileOf, targets_in}
use Rattle.ci_emu.specs.TableLatencies.{latencies_of}
use Rattle.ci_select.specs.declared.plan.Plan.{Plan}
use Rattle.ci_select.specs.Instances.{Instance, instance_of}
use Rattle.ci_calls.specs.declared.refusals.Refusal.{Refusal}
use Rattle.ci_calls.specs.declared.refusals.Refusal.TheVariants.{Unsupported, TextTouched}
use Rattle.ci_calls.specs.Files.{table_input, program_input, optional_input, optional_bytes}
use Rattle.ci_calls.specs.Files.{AreGiven, AreLatencies, input_bytes}
use Rattle.ci_calls.specs.Inputs.{Input}

-- What a call says of a choice: the greatest number of steps of the run, the addresses that it names as leaders, the
-- limits, and the names of the files with the latencies and with the input of the program, where it gives them.
pub record Settings : Type 0 where
  pub steps : ℕ
  pub named : List ℕ
  pub plan : Plan
  pub table : Option (List ℕ)
  pub input : Option (List ℕ)

-- the table and the input
abbrev pub run_files : Option (List ℕ) → Option (List ℕ) → List Input
run_files table input = optional_input table_input table ++ optional_input program_input input

-- what the bytes of an executable, and of these files, say
pub record RunFiles (settings : Settings) (executable : List ℕ) (others : List (List ℕ)) : Type 0 where
  pub table : Option (List ℕ)
  pub input : Option (List ℕ)
  pub others_are : others ≡ optional_bytes table ++ optional_bytes input
  pub table_given : AreGiven settings.table table
  pub input_given : AreGiven settings.input input
  pub file : Executable
  pub latencies : Latencies
  pub file_is : IsImageOf executable file
  pub latencies_are : AreLatencies table latencies

-- The profile is that of the plain run of the file from its opening state on the input, which is bytes, to its end or
-- for so many steps. The text has no word of a custom opcode, and the run leaves it alone. The blocks begin at the
-- leaders that the file, this run and the call give.
pub record IsProfiled (file : Executable) (latencies : Latencies) (input : List ℕ) (steps : ℕ) (named : List ℕ)
    (profile : Profile) (blocks : List Block) (live : Sets) : Type 0 where
  pub no_custom : HasNoCustomWord file
  pub of_bytes : AreBytes input
  pub meaning : Meaning
  pub plain : IsPlain meaning
  pub profile_is :
      IsProfileOf meaning (loaded_program file) steps (opening file input) (latencies_of latencies) profile
  pub leaves_text : profile.touched ≡ None
  pub analysis : IsAnalysis file (targets_in profile) named blocks live

-- These files can be chosen from: the profile of the run, with the blocks and what is live around them.
pub record Profiled (settings : Settings) (executable : List ℕ) (others : List (List ℕ)) : Type 0 where
  pub files : RunFiles settings executable others
  pub profile : Profile
  pub blocks : List Block
  pub live : Sets
  pub is_profiled :
      IsProfiled files.file files.latencies (input_bytes files.input) settings.steps settings.named profile blocks live

-- what the choice is about
abbrev pub instance_by :
    {settings : Settings} {executable : List ℕ} {others : List (List ℕ)}
    → Profiled settings executable others → Instance
instance_by {settings = settings} profiled =
    instance_of profiled.profile profiled.blocks profiled.live profiled.files.latencies settings.plan

-- Why they can't: the first word of a custom opcode, or, where there is none, the first touch of the text.
pub data IsUnprofiled (file : Executable) (input : List ℕ) (steps : ℕ) : Refusal → Type 0 where
  custom :
      {position word : ℕ} → IsFirstCustomWord file position word
      → IsUnprofiled file input steps (Unsupported position word)
  touches :
      {meaning : Meaning} {pc address : ℕ} → HasNoCustomWord file → IsPlain meaning
      → IsFirstTouch meaning (loaded_program file) steps (opening file input) pc address
      → IsUnprofiled file input steps (TextTouched pc address)
