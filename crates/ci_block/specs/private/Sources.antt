-- For private contracts: what marks words, part by part.
use Rattle.std.specs.Prelude.{◌≡◌, ℕ, ◌+◌, ◌-◌, ◌*◌, ◌<◌, ◌⊎◌, true, List, Some, length}
use Rattle.ci_isa.specs.declared.instruction.Insn.{Insn}
use Rattle.ci_isa.specs.Effects.{ends_block}
use Rattle.ci_elf.specs.declared.ranges.Range.{Range}
use Rattle.ci_elf.specs.Executables.{Executable, end_of}
use Rattle.ci_block.specs.private.Marking.{range_at}
use Rattle.ci_block.specs.Text.{IsDataWord, StandsAt, target_of}

-- the instruction at an address marks another: as its target, or as the word behind a terminator
abbrev pub Leads : ℕ → Insn → ℕ → Type 0
Leads from insn address = (target_of from insn ≡ Some address) ⊎ ((ends_block insn ≡ true) × (from + 4 ≡ address))

-- an instruction of the text marks the address
pub record IsFromText (image : Executable) (address : ℕ) : Type 0 where
  pub from : ℕ
  pub insn : Insn
  pub stands : StandsAt image from insn
  pub leads : Leads from insn address

-- one of so many words from a start on does
pub record IsFromWords (image : Executable) (start count address : ℕ) : Type 0 where
  pub word : ℕ
  pub before : word < count
  pub insn : Insn
  pub stands : StandsAt image (start + 4 * word) insn
  pub leads : Leads (start + 4 * word) insn address

-- a word of one of the first ranges does
pub record IsFromRanges (image : Executable) (count address : ℕ) : Type 0 where
  pub index : ℕ
  pub before : index < count
  pub words : IsFromWords image (range_at image.ranges index).start (range_at image.ranges index).words address

-- the range begins at the address, where the other one ends
abbrev pub Meets : Range → Range → ℕ → Type 0
Meets before range address = (end_of before ≡ range.start) × (range.start ≡ address)

-- one of the first ranges begins at the address, where the one before it ends
pub record IsFromMeeting (ranges : List Range) (count address : ℕ) : Type 0 where
  pub index : ℕ
  pub some : 0 < index
  pub before : index < count
  pub within : index < length ranges
  pub meets : Meets (range_at ranges (index - 1)) (range_at ranges index) address

-- a data word has the address as its value
pub record IsFromData (image : Executable) (address : ℕ) : Type 0 where
  pub place : ℕ
  pub word : IsDataWord image place address
