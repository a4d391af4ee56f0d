-- The extended machine, for everybody: it reads words by the extended table, and its unit words do what the modules of
-- a list compute. Module k is the one at place k, from 0.
use Rattle.std.specs.Prelude.{◌≡◌, ℕ, ◌<◌, ⊤, List, length, map, slice_get, slice_index, Some}
use Rattle.ci_isa.specs.declared.instruction.Insn.{Insn}
use Rattle.ci_isa.specs.declared.instruction.Insn.TheVariants.{Unit, Illegal}
use Rattle.ci_isa.specs.Table.{ReadsX}
use Rattle.ci_elf.specs.WordLists.{AreWords}
use Rattle.ci_verilog.specs.Modules.{Module}
use Rattle.ci_verilog.specs.Values.{IsValueOf}
use Rattle.ci_machine.specs.Cores.{hidden_operands}
use Rattle.ci_machine.specs.Actions.{Units}
use Rattle.ci_machine.specs.Runs.{Latencies}
use Rattle.ci_machine.specs.Steps.{Meaning}

-- ---- what a word stands for

-- a unit word has a module where there is one of its number, and no other instruction needs one
abbrev pub HasModule : List Module → Insn → Type 0
HasModule modules (Unit number rd rs1 rs2 rs3) = number < length modules
HasModule modules insn = ⊤

-- the word has this row: it reads as the instruction in the extended table, and a unit word has its module
abbrev pub ReadsWith : List Module → ℕ → Insn → Type 0
ReadsWith modules word insn = ReadsX word insn × HasModule modules insn

-- what stands at a word: the instruction whose row it has, or the bare word where it has none
abbrev pub IsInsnWith : List Module → ℕ → Insn → Type 0
IsInsnWith modules word (Illegal bare) = (bare ≡ word) × ((insn : Insn) → ¬ ReadsWith modules word insn)
IsInsnWith modules word insn = ReadsWith modules word insn

-- ---- the machine

-- The unit of this number gives what the module does of five words: y, which goes to rd, and z and x, which go to the
-- hidden results.
abbrev pub Computes : Units → ℕ → Module → Type 0
Computes units number m =
    (values : List ℕ) → length values ≡ 5 → AreWords values
    → IsValueOf m values (units.results number values)

-- The meanings of the extended machine with these modules. Units take the registers that their words name, and
-- the hidden operands.
pub record IsExtended (modules : List Module) (meaning : Meaning) : Type 0 where
  pub reads : (word : ℕ) → IsInsnWith modules word (meaning.insn word)
  pub further : (number : ℕ) → meaning.units.further number ≡ hidden_operands
  pub computes : (number : ℕ) (m : Module) → slice_get modules number ≡ Some m → Computes meaning.units number m

-- ---- latencies

-- A unit takes the cycles of its module. A unit word without one is illegal, and costs nothing.
abbrev pub latencies_with : Latencies → List Module → Latencies
latencies_with latencies modules =
    record latencies { of_unit = λ number. slice_index (map (λ m. m.cycles) modules) number }
