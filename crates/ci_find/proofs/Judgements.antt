-- What the command `check` makes of a verdict on the files of a choice, and what it refuses.
use Rattle.std.proofs.Common.{ℕ, inl, inr, Bool, List, [], ◌∷◌, ◌++◌, Option, Result, Ok, Err, refl}
use Rattle.ci_io.specs.Outcomes.{ShelfState}
use Rattle.ci_elf.specs.Executables.{Executable, IsImageOf}
use Rattle.ci_lat.specs.Latencies.{Latencies}
use Rattle.ci_log.specs.Books.{Spells}
use Rattle.ci_vread.specs.Spelling.{Spell}
use Rattle.ci_calls.specs.declared.refusals.Refusal.{Refusal}
use Rattle.ci_calls.specs.declared.refusals.Refusal.TheVariants.{Rejected, NoMemory}
use Rattle.ci_calls.specs.declared.success.Success.{Success}
use Rattle.ci_calls.specs.Files.{optional_bytes, AreGiven, AreLatencies, input_bytes}
use Rattle.ci_calls.specs.Inputs.{Input}
use Rattle.ci_calls.specs.Reads.{HaveRead, IsRefusalOf, IsAnswerOf}
use Rattle.ci_calls.proofs.InputLaws.{HaveRead-append, read_without_memory}
use Rattle.ci_find.specs.declared.check.ChoiceFiles.{ChoiceFiles}
use Rattle.ci_find.specs.declared.profiling.Profiled.{Profiled as Run}
use Rattle.ci_find.specs.Profiled.{Settings, RunFiles, Profiled, IsProfiled, instance_by}
use Rattle.ci_find.specs.CheckCommand.{CheckFiles, IsCheckMade, IsCheckRefused, unprofiled, rejected}
use Rattle.ci_find.specs.private.Judged.{IsAnswerOn}
use Rattle.ci_find.specs.private.Unprofiled.{IsUnprofiledCause}

-- the executable is read, then the files of a choice, then the others
pub all_read :
    (read_may_fail write_may_fail : List ℕ → Bool) (before then last after : ShelfState) (file : Input)
    (inputs others : List Input) (bytes : List ℕ) (answered more : List (List ℕ))
    → HaveRead read_may_fail write_may_fail before then (file ∷ []) (bytes ∷ [])
    → HaveRead read_may_fail write_may_fail then last inputs answered
    → HaveRead read_may_fail write_may_fail last after others more
    → HaveRead read_may_fail write_may_fail before after (file ∷ inputs ++ others) (bytes ∷ answered ++ more)
all_read read_may_fail write_may_fail before then last after file inputs others bytes answered more first a b =
    HaveRead-append read_may_fail write_may_fail before then after (file ∷ []) (inputs ++ others) (bytes ∷ [])
    (answered ++ more) first
    (HaveRead-append read_may_fail write_may_fail then last after inputs others answered more a b)

module _
    (settings : Settings) (executable : List ℕ) (file : Executable) (latencies : Latencies)
    (table input : Option (List ℕ)) (file_is : IsImageOf executable file) (table_given : AreGiven settings.table table)
    (input_given : AreGiven settings.input input) (latencies_are : AreLatencies table latencies) where
  -- what the executable, the table and the input say
  abbrev pub run_held : RunFiles settings executable (optional_bytes table ++ optional_bytes input)
  run_held = record {
    table = table;
    input = input;
    others_are = refl;
    table_given = table_given;
    input_given = input_given;
    file = file;
    latencies = latencies;
    file_is = file_is;
    latencies_are = latencies_are;
  }

  -- with the profile of the run
  abbrev pub profiled_held :
      (run : Run)
      → IsProfiled file latencies (input_bytes input) settings.steps settings.named run.profile run.analysis.blocks
      run.analysis.live
      → Profiled settings executable (optional_bytes table ++ optional_bytes input)
  profiled_held run is = record {
    files = run_held;
    profile = run.profile;
    blocks = run.analysis.blocks;
    live = run.analysis.live;
    is_profiled = is;
  }

-- of files that hold a choice, and of the others that are read with them
module _
    (choice : ChoiceFiles) (executable units_text logs_text : List ℕ) (others : List (List ℕ))
    (modules_are : Spell units_text choice.modules.items) (book_is : Spells logs_text choice.book)
    (settings : Settings) where
  -- all bytes that are read
  abbrev bytes_read : List (List ℕ)
  bytes_read = executable ∷ choice.new.items ∷ units_text ∷ logs_text ∷ others

  -- what they say
  abbrev holding : CheckFiles bytes_read
  holding = record {
    executable = executable;
    new_bytes = choice.new.items;
    units_text = units_text;
    logs_text = logs_text;
    others = others;
    read_is = refl;
    modules = choice.modules.items;
    book = choice.book;
    modules_are = modules_are;
    book_is = book_is;
  }

  module _
      (read_may_fail write_may_fail : List ℕ → Bool) (before after : ShelfState) (inputs : List Input)
      (files : HaveRead read_may_fail write_may_fail before after inputs bytes_read) where
    -- memory runs out once they are read
    without_memory : IsRefusalOf read_may_fail write_may_fail before after inputs (IsCheckRefused settings) NoMemory
    without_memory = inl (read_without_memory read_may_fail write_may_fail before after inputs bytes_read files)

    -- files that are accepted, or those of no choice, by their first wrong place
    pub judged :
        (profiled : Profiled settings executable others) (result : Result Success Refusal)
        → IsAnswerOn (instance_by profiled) profiled.files.file choice result
        → IsAnswerOf read_may_fail write_may_fail before after inputs (IsCheckMade settings) (IsCheckRefused settings) result
    judged profiled (Ok success) is = record {
      answered = bytes_read;
      read = files;
      made = record { files = holding; profiled = profiled; accepted = is.0; text_is = is.1; writes_none = is.2 };
    }
    judged profiled (Err (Rejected round leader item reason)) is =
        inr (record { answered = bytes_read; read = files; refused = rejected holding profiled is })
    judged profiled (Err NoMemory) is = without_memory
    judged profiled (Err refusal) is = absurd is

    -- an executable that can't be chosen from
    pub unprofiled_refused :
        (run : RunFiles settings executable others) (refusal : Refusal)
        → IsUnprofiledCause run.file (input_bytes run.input) settings.steps refusal
        → IsRefusalOf read_may_fail write_may_fail before after inputs (IsCheckRefused settings) refusal
    unprofiled_refused run refusal (inl is) =
        inr (record { answered = bytes_read; read = files; refused = unprofiled holding run is })
    unprofiled_refused run refusal (inr none) = rw none without_memory
