-- What reading gives of the smallest file with some text, constants and values: what went in.
use Rattle.std.specs.Prelude.{◌≡◌, ℕ, ◌+◌, ◌*◌, ◌<◌, ◌≤◌, List, [], ◌∷◌, length, Ok, Err, if◌then◌else◌, nat_lt}
use Rattle.std.specs.Prelude.{slice_index}
use Rattle.ci_elf.specs.declared.faults.ElfFault.{ElfFault}
use Rattle.ci_elf.specs.declared.faults.ElfFault.TheVariants.{NoMemory}
use Rattle.ci_elf.specs.declared.segments.Segment.{Segment}
use Rattle.ci_elf.specs.declared.ranges.Range.{Range}
use Rattle.ci_elf.specs.Executables.{Executable, text_word}
use Rattle.ci_elf.specs.Rules.{IsReadAs}
use Rattle.ci_elf.specs.Frames.{frame_of, text_offset, text_address, values_address}
use Rattle.ci_elf.specs.WordLists.{AreWords}

-- Words that fit a frame: some text, which fits the 64 KiB below the values with the headers before it and the
-- constants behind it, and values of at most 1 MiB.
pub record FitFrame (text constants values : List ℕ) : Type 0 where
  pub some_text : 0 < length text
  pub text_fits : length text + length constants ≤ 16355
  pub values_fit : length values ≤ 262144
  pub text_words : AreWords text
  pub constant_words : AreWords constants
  pub value_words : AreWords values

-- where the values begin in the file
abbrev pub values_offset : (text constants : List ℕ) → ℕ
values_offset text constants = text_offset + 4 * length text + 4 * length constants

-- headers, text and constants, as bytes of the file and of memory
abbrev pub text_segment : (text constants : List ℕ) → Segment
text_segment text constants = record {
  address = 0x10000;
  memory_size = values_offset text constants;
  offset = 0;
  file_size = values_offset text constants;
}

-- the values, behind the constants in the file
abbrev pub values_segment : (text constants values : List ℕ) → Segment
values_segment text constants values = record {
  address = values_address;
  memory_size = 4 * length values;
  offset = values_offset text constants;
  file_size = 4 * length values;
}

-- a segment without memory is none
abbrev pub framed_segments : (text constants values : List ℕ) → List Segment
framed_segments text constants values =
    text_segment text constants
    ∷ (if nat_lt 0 (length values) then values_segment text constants values ∷ [] else [])

abbrev pub text_range : List ℕ → Range
text_range text = record { start = text_address; words = length text }

-- the words stand in memory from the address on, by the bytes that the file has for it
abbrev pub HoldsWords : Executable → ℕ → List ℕ → Type 0
HoldsWords image address words =
    (k : ℕ) → k < length words
    → text_word image (address + 4 * k) ≡ slice_index words k

-- the image of a frame with this text, these constants and these values
pub record IsFramed (text constants values : List ℕ) (image : Executable) : Type 0 where
  pub same_bytes : image.bytes ≡ frame_of text constants values
  pub entry : image.entry ≡ text_address
  pub segments : image.segments ≡ framed_segments text constants values
  pub ranges : image.ranges ≡ text_range text ∷ []
  pub symbols : image.symbols ≡ []
  pub text_words : HoldsWords image text_address text
  pub constant_words : HoldsWords image (text_address + 4 * length text) constants
  pub value_words : HoldsWords image values_address values

-- Reading a frame gives back what went in.
abbrev pub FramesAreRead : Type 0
FramesAreRead =
    (text constants values : List ℕ) → FitFrame text constants values
    → (image : Executable) → IsReadAs (frame_of text constants values) (Ok image) → IsFramed text constants values image

-- A frame breaks no rule, so that reading it fails only where memory runs out.
abbrev pub FramesKeepRules : Type 0
FramesKeepRules =
    (text constants values : List ℕ) → FitFrame text constants values
    → (fault : ElfFault) → IsReadAs (frame_of text constants values) (Err fault) → fault ≡ NoMemory
