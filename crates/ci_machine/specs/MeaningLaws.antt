-- What meanings have to do with the runs that they make.
use Rattle.std.specs.Prelude.{◌≡◌, ℕ, Bool, false, List}
use Rattle.std.specs.List.{list_any}
use Rattle.ci_isa.specs.declared.instruction.Insn.{Insn}
use Rattle.ci_isa.specs.Fields.{HasCustomOpcode}
use Rattle.ci_isa.specs.Laws.{IsInsnAtX}
use Rattle.ci_isa.specs.Effects.{is_unit}
use Rattle.ci_elf.specs.Executables.{Executable, IsTextWord, IsWellFormed, text_word}
use Rattle.ci_machine.specs.Cores.{Core}
use Rattle.ci_machine.specs.Outcomes.{Reached}
use Rattle.ci_machine.specs.Actions.{Units, act}
use Rattle.ci_machine.specs.Agreement.{act_all, AllLeaveText}
use Rattle.ci_machine.specs.Programs.{Program, State, loaded_program, opening}
use Rattle.ci_machine.specs.Steps.{Meaning, IsPlain}
use Rattle.ci_machine.specs.Touches.{LeavesTextFor}
use Rattle.ci_machine.specs.Words.{IsOfWords, GivesWords}
use Rattle.ci_machine.specs.Meanings.{RunAlike, AreOneOnWords, AreOneRun, ReadTextAlike}

-- ---- meanings that make one run

-- Meanings that fetch the same at each step, with units that give the same there, make one run.
abbrev pub MeaningsAgree : Type 0
MeaningsAgree =
    (left right : Meaning) (program : Program) (n : ℕ) (state : State) → RunAlike left right program n state
    → AreOneRun left right program n state

-- So do those that read all words alike, with units that give the same of words.
abbrev pub WordMeaningsAgree : Type 0
WordMeaningsAgree =
    (left right : Meaning) (program : Program) (n : ℕ) (state : State) → AreOneOnWords left right → GivesWords left
    → IsOfWords state → AreOneRun left right program n state

-- So do those that read the words of a file's text alike, as long as no step touches it.
abbrev pub FileMeaningsAgree : Type 0
FileMeaningsAgree =
    (left right : Meaning) (file : Executable) (input : List ℕ) (n : ℕ) → IsWellFormed file
    → ReadTextAlike left right file → LeavesTextFor left (loaded_program file) n (opening file input)
    → AreOneRun left right (loaded_program file) n (opening file input)

-- ---- plain meanings

-- there is a plain meaning
abbrev pub PlainExists : Type 0
PlainExists = (meaning : Meaning) × IsPlain meaning

-- all plain machines make one run, whatever they say of units
abbrev pub PlainIsOne : Type 0
PlainIsOne =
    (left right : Meaning) → IsPlain left → IsPlain right → (program : Program) (n : ℕ) (state : State)
    → AreOneRun left right program n state

-- It reads the text of a file alike as one that reads by the extended table, whatever that one makes of words with a
-- custom opcode, where the text has no such word.
abbrev pub PlainAndExtendedAgree : Type 0
PlainAndExtendedAgree =
    (plain extended : Meaning) (file : Executable) → IsPlain plain
    → ((word : ℕ) → ¬ HasCustomOpcode word → IsInsnAtX word (extended.insn word))
    → ((address : ℕ) → IsTextWord file.ranges address → ¬ HasCustomOpcode (text_word file address))
    → ReadTextAlike plain extended file

-- ---- units

-- Units matter to unit words alone.
abbrev pub UnitsUnused : Type 0
UnitsUnused =
    (left right : Units) (insn : Insn) (core : Core) → is_unit insn ≡ false → act left insn core ≡ act right insn core

-- So lists without unit words do the same, and leave the same text alone.
abbrev pub UnitsUnusedByLists : Type 0
UnitsUnusedByLists =
    (left right : Units) (insns : List Insn) (run : Reached Core) → list_any is_unit insns ≡ false
    → act_all left insns run ≡ act_all right insns run

abbrev pub UnitsLeaveText : Type 0
UnitsLeaveText =
    (left right : Units) (text : ℕ → Bool) (insns : List Insn) (run : Reached Core) → list_any is_unit insns ≡ false
    → AllLeaveText left text insns run → AllLeaveText right text insns run
