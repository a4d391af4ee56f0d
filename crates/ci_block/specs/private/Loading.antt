-- For private contracts: the data words that segments load.
use Rattle.std.specs.Prelude.{ℕ, ◌+◌, ◌*◌, ◌/◌, ◌<◌, ◌≤◌, List, slice_index_or}
use Rattle.ci_elf.specs.declared.segments.Segment.{Segment}
use Rattle.ci_elf.specs.Executables.{Executable}
use Rattle.ci_block.specs.Text.{IsDataWord}

-- segment k, and past the last one a segment without memory
abbrev pub segment_at : List Segment → ℕ → Segment
segment_at segments k = slice_index_or segments k (record { address = 0; memory_size = 0; offset = 0; file_size = 0 })

-- the numbers of the first word of which the segment loads a byte, and of the word behind the last one
abbrev pub first_word : Segment → ℕ
first_word segment = segment.address / 4

abbrev pub end_word : Segment → ℕ
end_word segment = (segment.address + segment.file_size + 3) / 4

-- a data word has the address as its value, and its number is among these
pub record IsFromDataWords (image : Executable) (first end address : ℕ) : Type 0 where
  pub number : ℕ
  pub from : first ≤ number
  pub to : number < end
  pub word : IsDataWord image (4 * number) address

-- a data word has the address as its value, and one of the first segments loads a byte of it
pub record IsFromSegments (image : Executable) (count address : ℕ) : Type 0 where
  pub index : ℕ
  pub before : index < count
  pub words :
      IsFromDataWords image (first_word (segment_at image.segments index))
      (end_word (segment_at image.segments index)) address
