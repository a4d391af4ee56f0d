-- States of words: 32 bits in registers, bytes in memory, in the input and in the output.
use Rattle.std.specs.Prelude.{◌≡◌, ℕ, ◌+◌, ◌<◌, ◌^◌, ⊤, List, length, slice_index, Option, Some}
use Rattle.ci_isa.specs.declared.instruction.Insn.{Insn}
use Rattle.ci_isa.specs.declared.instruction.Insn.TheVariants.{Lui, Unit}
use Rattle.ci_elf.specs.WordLists.{AreWords}
use Rattle.ci_machine.specs.Cores.{Core, register}
use Rattle.ci_machine.specs.Actions.{Units}
use Rattle.ci_machine.specs.Programs.{State}
use Rattle.ci_machine.specs.Steps.{Meaning}

-- a number of 32 bits
abbrev pub IsWord : ℕ → Type 0
IsWord n = n < 2 ^ 32

-- numbers of 8 bits
abbrev pub AreBytes : List ℕ → Type 0
AreBytes bytes = (k : ℕ) → slice_index bytes k < 256

-- what is mapped is bytes
abbrev pub MapsBytes : (ℕ → Option ℕ) → Type 0
MapsBytes memory = (address byte : ℕ) → memory address ≡ Some byte → byte < 256

-- Words in all registers, with the hidden ones, and bytes elsewhere.
pub record HoldsWords (core : Core) : Type 0 where
  pub registers : (r : ℕ) → IsWord (register core r)
  pub memory : MapsBytes core.memory
  pub heap_end : IsWord core.heap_end
  pub input : AreBytes core.input
  pub output : AreBytes core.output

pub record IsOfWords (state : State) : Type 0 where
  pub pc : IsWord state.pc
  pub core : HoldsWords state.core

-- ---- instructions and meanings

-- words that a unit may be given: those of three sources and of its further registers
pub record AreTaken (units : Units) (number : ℕ) (values : List ℕ) : Type 0 where
  pub count : length values ≡ 3 + length (units.further number)
  pub words : AreWords values

-- The instruction makes words of words: the constant of LUI is one, and a unit gives words.
abbrev pub MakesWords : Units → Insn → Type 0
MakesWords units (Lui rd upper) = IsWord upper
MakesWords units (Unit number rd rs1 rs2 rs3) =
    (values : List ℕ) → AreTaken units number values → AreWords (units.results number values)
MakesWords units insn = ⊤

abbrev pub GivesWords : Meaning → Type 0
GivesWords meaning = (word : ℕ) → MakesWords meaning.units (meaning.insn word)
