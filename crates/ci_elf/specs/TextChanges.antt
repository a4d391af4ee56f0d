-- Bytes that differ from an executable file in words of its text alone.
use Rattle.std.specs.Prelude.{◌≡◌, ℕ, List, ◌++◌, length, take, drop, slice_index, ◌+◌}
use Rattle.byteorder.specs.Endian.{little_bytes}
use Rattle.ci_elf.specs.Executables.{Executable, IsTextWord, place_of}
use Rattle.ci_elf.specs.Rules.{Within}

-- the bytes with the word at this place
abbrev pub with_word : List ℕ → ℕ → ℕ → List ℕ
with_word bytes place word = take place bytes ++ little_bytes 4 word ++ drop (place + 4) bytes

-- the place in the file is one of a word of the text
abbrev pub IsTextPlace : Executable → ℕ → Type 0
IsTextPlace file place =
    (address : ℕ) × IsTextWord file.ranges address × Within (place_of file.segments address) 4 place

-- the bytes are those of the file, but for words of its text
pub record ChangeText (file : Executable) (bytes : List ℕ) : Type 0 where
  pub same_length : length bytes ≡ length file.bytes
  pub same_else : (place : ℕ) → ¬ IsTextPlace file place → slice_index bytes place ≡ slice_index file.bytes place
