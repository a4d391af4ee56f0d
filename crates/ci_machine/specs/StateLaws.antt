-- What holds of all states of a run: their values are words, and their text is that of the state in which it opened.
use Rattle.std.specs.Prelude.{ℕ, List}
use Rattle.std.specs.List.{Contains}
use Rattle.ci_isa.specs.declared.instruction.Insn.{Insn}
use Rattle.ci_elf.specs.Executables.{Executable, IsWellFormed}
use Rattle.ci_machine.specs.Cores.{Core}
use Rattle.ci_machine.specs.Outcomes.{Reached, reached}
use Rattle.ci_machine.specs.Actions.{Units}
use Rattle.ci_machine.specs.Agreement.{act_all}
use Rattle.ci_machine.specs.Programs.{Program, State, loaded_program, opening}
use Rattle.ci_machine.specs.Steps.{Meaning, IsPlain, control}
use Rattle.ci_machine.specs.Runs.{after}
use Rattle.ci_machine.specs.Touches.{LeavesTextFor}
use Rattle.ci_machine.specs.Words.{AreBytes, HoldsWords, IsOfWords, MakesWords, GivesWords}
use Rattle.ci_machine.specs.Texts.{HasText, HasTextOf}

-- ---- words

-- Instructions that make words of words lead from words to words,
abbrev pub WordsStayByLists : Type 0
WordsStayByLists =
    (units : Units) (insns : List Insn) (run : Reached Core)
    → ((insn : Insn) → Contains insns insn → MakesWords units insn) → HoldsWords run.state
    → HoldsWords (act_all units insns run).state

-- and so does each that ends a block, environment calls among them.
abbrev pub WordsStayByControl : Type 0
WordsStayByControl =
    (program : Program) (insn : Insn) (state : State) → IsOfWords state
    → IsOfWords (reached state (control program insn state.pc state.core)).state

-- So does each run.
abbrev pub WordsStay : Type 0
WordsStay =
    (meaning : Meaning) (program : Program) → GivesWords meaning → (n : ℕ) (state : State) → IsOfWords state
    → IsOfWords (after meaning program n state).state

-- A run of a file on an input opens in words.
abbrev pub OpensInWords : Type 0
OpensInWords =
    (file : Executable) (input : List ℕ) → IsWellFormed file → AreBytes file.bytes → AreBytes input
    → IsOfWords (opening file input)

-- The plain machine makes words of words.
abbrev pub PlainGivesWords : Type 0
PlainGivesWords = (meaning : Meaning) → IsPlain meaning → GivesWords meaning

-- ---- text

-- While no step touches the text, a run that has its text keeps it, byte by byte.
abbrev pub TextStays : Type 0
TextStays =
    (meaning : Meaning) (program : Program) (n : ℕ) (state : State) → HasText program state.core
    → LeavesTextFor meaning program n state
    → HasTextOf program state.core (after meaning program n state).state.core

-- The run of a file opens with its text.
abbrev pub OpensWithText : Type 0
OpensWithText =
    (file : Executable) (input : List ℕ) → IsWellFormed file → HasText (loaded_program file) (opening file input).core
