-- Meanings by which the steps of a run are the same.
use Rattle.std.specs.Prelude.{◌≡◌, ℕ, ◌<◌, ◌≤◌, ◌↔◌, Bool, true, false, ⊤, List, [], ◌∷◌, ◌++◌, Some}
use Rattle.ci_isa.specs.declared.instruction.Insn.{Insn}
use Rattle.ci_isa.specs.declared.instruction.Insn.TheVariants.{Unit}
use Rattle.ci_isa.specs.Effects.{is_unit}
use Rattle.ci_elf.specs.Executables.{Executable, IsTextWord, text_word}
use Rattle.ci_machine.specs.Cores.{Core, values_in}
use Rattle.ci_machine.specs.Actions.{Units}
use Rattle.ci_machine.specs.Programs.{Program, State}
use Rattle.ci_machine.specs.Steps.{Meaning, fetched}
use Rattle.ci_machine.specs.Words.{AreTaken}
use Rattle.ci_machine.specs.Runs.{Latencies, after, before_step, is_made, cost}
use Rattle.ci_machine.specs.RunEvents.{entries, IsTame}
use Rattle.ci_machine.specs.Touches.{LeavesTextFor}

-- what a unit gives of the registers of its word and its further ones
abbrev pub given : Units → ℕ → List ℕ → Core → List ℕ
given units number sources core = units.results number (values_in core (sources ++ units.further number))

-- the units give the same of the instruction's operands, if it is a unit word
abbrev pub GiveSame : Units → Units → Insn → Core → Type 0
GiveSame left right (Unit number rd rs1 rs2 rs3) core =
    given left number (rs1 ∷ rs2 ∷ rs3 ∷ []) core ≡ given right number (rs1 ∷ rs2 ∷ rs3 ∷ []) core
GiveSame left right insn core = ⊤

module _ (left right : Meaning) (program : Program) where
  -- from this state both fetch one instruction, and do the same by it
  pub record StepAlike (state : State) : Type 0 where
    pub fetches : fetched left program state ≡ fetched right program state
    pub gives :
        (insn : Insn) → fetched left program state ≡ Some insn → GiveSame left.units right.units insn state.core

  -- so it is at each of n steps
  abbrev pub RunAlike : ℕ → State → Type 0
  RunAlike n state =
      (i : ℕ) → i < n → is_made left program state i ≡ true → StepAlike (before_step left program state i)

  -- the runs of n steps are one, and so is what is counted over them
  pub record AreOneRun (n : ℕ) (state : State) : Type 0 where
    pub runs : (m : ℕ) → m ≤ n → after left program m state ≡ after right program m state
    pub costs : (latencies : Latencies) → cost left program latencies n state ≡ cost right program latencies n state
    pub entered : (address : ℕ) → entries left program n state address ≡ entries right program n state address
    pub leaves_text : LeavesTextFor left program n state ↔ LeavesTextFor right program n state
    pub tame : (is_listed : ℕ → Bool) → IsTame left program is_listed n state ↔ IsTame right program is_listed n state

-- the units take the same registers, and give the same of all words that they may be given, if it is a unit word
abbrev pub GiveSameOfWords : Units → Units → Insn → Type 0
GiveSameOfWords left right (Unit number rd rs1 rs2 rs3) =
    (left.further number ≡ right.further number)
    × ((values : List ℕ) → AreTaken left number values → left.results number values ≡ right.results number values)
GiveSameOfWords left right insn = ⊤

-- Both read each word as one instruction, and the units give the same of words.
pub record AreOneOnWords (left right : Meaning) : Type 0 where
  pub reads : (word : ℕ) → left.insn word ≡ right.insn word
  pub gives : (word : ℕ) → GiveSameOfWords left.units right.units (left.insn word)

-- Both read each word of the file's text as one instruction, and none as a unit word.
abbrev pub ReadTextAlike : Meaning → Meaning → Executable → Type 0
ReadTextAlike left right file =
    (address : ℕ) → IsTextWord file.ranges address
    → let word = text_word file address in
    (left.insn word ≡ right.insn word) × (is_unit (left.insn word) ≡ false)
