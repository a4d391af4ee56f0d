-- The listed leaders of an executable file: the addresses at which its blocks begin.
use Rattle.std.specs.Prelude.{◌≡◌, ℕ, ◌+◌, ◌*◌, ◌<◌, ◌≤◌, ◌⊎◌, ◌↔◌, List, Some}
use Rattle.std.specs.List.{AllPairs, Contains}
use Rattle.ci_isa.specs.declared.instruction.Insn.{Insn}
use Rattle.ci_elf.specs.declared.ranges.Range.{Range}
use Rattle.ci_elf.specs.Executables.{Executable, IsTextWord, end_of}
use Rattle.ci_block.specs.Text.{EndsAt, IsDataWord, StandsAt, target_of}

-- What makes a word of the text a leader, whatever the other leaders are. `targets` are the addresses that JALR jumped
-- to, as far as they are known, and `named` are addresses that the user gives.
pub data IsMark (image : Executable) (targets named : List ℕ) (address : ℕ) : Type 0 where
  entry : image.entry ≡ address → IsMark image targets named address
  target_of_jump :
      (from : ℕ) (insn : Insn) → StandsAt image from insn → target_of from insn ≡ Some address
      → IsMark image targets named address
  behind_terminator : (last : ℕ) → EndsAt image last → last + 4 ≡ address → IsMark image targets named address
  where_ranges_meet :
      (before range : Range) → Contains image.ranges before → Contains image.ranges range
      → end_of before ≡ range.start → range.start ≡ address → IsMark image targets named address
  symbol : Contains image.symbols address → IsMark image targets named address
  data_word : (place : ℕ) → IsDataWord image place address → IsMark image targets named address
  target_of_jalr : Contains targets address → IsMark image targets named address
  named_by_user : Contains named address → IsMark image targets named address

-- The address follows the 256th instruction of a block: the nearest leader below lies exactly 256 words before, in the
-- same range, and no terminator stands between.
pub record IsBehindFullBlock (image : Executable) (leaders : List ℕ) (address : ℕ) : Type 0 where
  pub leader : ℕ
  pub listed : Contains leaders leader
  pub distance : leader + 4 * 256 ≡ address
  pub nearest : (a : ℕ) → leader < a → a < address → ¬ Contains leaders a
  pub range : Range
  pub there : Contains image.ranges range
  pub from : range.start ≤ leader
  pub to : address < end_of range
  pub unbroken : (a : ℕ) → leader ≤ a → a < address → ¬ EndsAt image a

-- These are the listed leaders, in ascending order: the words of the text that are marks or follow a full block.
pub record IsListing (image : Executable) (targets named leaders : List ℕ) : Type 0 where
  pub ascending : AllPairs (λ a b. a < b) leaders
  pub listed :
      (address : ℕ)
      → Contains leaders address
      ↔ (IsTextWord image.ranges address
      × (IsMark image targets named address ⊎ IsBehindFullBlock image leaders address))

-- the listed leaders of the file with some targets and some addresses that the user gives
pub record AreLeaders (image : Executable) (leaders : List ℕ) : Type 0 where
  pub targets : List ℕ
  pub named : List ℕ
  pub listing : IsListing image targets named leaders
