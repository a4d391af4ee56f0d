-- What holds of words and of instructions in a row: the contracts of the functions of `src/laws.rt`.
use Rattle.std.specs.Prelude.{◌≡◌, ℕ, ◌↔◌, List, Some}
use Rattle.std.specs.FinSet as set
use Rattle.ci_isa.specs.declared.instruction.Insn.{Insn}
use Rattle.ci_isa.specs.declared.instruction.Insn.TheVariants.{Illegal}
use Rattle.ci_isa.specs.Effects.{reads_register, writes_register}
use Rattle.ci_isa.specs.RegisterSets.{registers_read, registers_written}
use Rattle.ci_isa.specs.Fields.{HasCustomOpcode}
use Rattle.ci_isa.specs.FieldBounds.{FieldsFit}
use Rattle.ci_isa.specs.Sequences.{latest_writer, IsLastWriter}
use Rattle.ci_isa.specs.Table.{ReadsX, IsWellFormed, IsInsnAt}

-- some word stands for an instruction exactly where its fields are within their bounds
abbrev pub WellFormedWhereFieldsFit : Type 0
WellFormedWhereFieldsFit = (insn : Insn) → IsWellFormed insn ↔ FieldsFit insn

-- what stands at a word by the extended table, as `IsInsnAt` says it of the plain one
abbrev pub IsInsnAtX : ℕ → Insn → Type 0
IsInsnAtX w (Illegal word) = (word ≡ w) × ((insn : Insn) → ¬ ReadsX w insn)
IsInsnAtX w insn = ReadsX w insn

-- Both tables say the same of each word whose opcode is neither custom-0 nor custom-1.
abbrev pub TablesAgree : Type 0
TablesAgree = (word : ℕ) → ¬ HasCustomOpcode word → (insn : Insn) → IsInsnAt word insn ↔ IsInsnAtX word insn

-- the instruction that stands at a word, and that it is the only one
pub record IsOnlyInsn (StandsThere : Insn → Type 0) : Type 0 where
  pub insn : Insn
  pub stands : StandsThere insn
  pub only : (other : Insn) → StandsThere other → other ≡ insn

-- By each table one instruction stands at a word, and one alone.
abbrev pub OneInsnAtEachWord : Type 0
OneInsnAtEachWord = (word : ℕ) → IsOnlyInsn (IsInsnAt word) × IsOnlyInsn (IsInsnAtX word)

-- The test of one register finds what the set has, among the registers that an instruction reads,
abbrev pub ReadTestsAreSets : Type 0
ReadTestsAreSets = (insn : Insn) (r : ℕ) → reads_register insn r ≡ set.contains (registers_read insn) r

-- and among those that it writes.
abbrev pub WriteTestsAreSets : Type 0
WriteTestsAreSets = (insn : Insn) (r : ℕ) → writes_register insn r ≡ set.contains (registers_written insn) r

-- The latest writer of a register before a place is the last instruction there that writes it.
abbrev pub LatestWriterIsLast : Type 0
LatestWriterIsLast =
    (insns : List Insn) (r k j : ℕ) → latest_writer insns r k ≡ Some j ↔ IsLastWriter insns r k j
