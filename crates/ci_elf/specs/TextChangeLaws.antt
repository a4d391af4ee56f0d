-- What holds of bytes that differ from an executable file in words of its text alone.
use Rattle.std.specs.Prelude.{◌≡◌, ◌≢◌, ◌^◌, ℕ, List, Ok, ◌+◌, ◌<◌}
use Rattle.std.specs.List.{Contains}
use Rattle.ci_elf.specs.declared.segments.Segment.{Segment}
use Rattle.ci_elf.specs.Fields.{field}
use Rattle.ci_elf.specs.Executables.{Executable, InText, IsTextWord, IsWellFormed, place_of}
use Rattle.ci_elf.specs.Rules.{IsReadAs}
use Rattle.ci_elf.specs.TextChanges.{ChangeText, IsTextPlace, with_word}

-- Such bytes keep all rules, and mean what the file means, with these bytes.
abbrev pub TextMayChange : Type 0
TextMayChange =
    (old new : List ℕ) (file : Executable) → IsReadAs old (Ok file) → ChangeText file new
    → IsReadAs new (Ok (record file { bytes = new }))

-- no word was written so far
abbrev pub NoneWritten : Type 0
NoneWritten = (file : Executable) → ChangeText file file.bytes

-- one word of the text more is written
abbrev pub OneMoreWritten : Type 0
OneMoreWritten =
    (file : Executable) (bytes : List ℕ) (address word : ℕ) → IsWellFormed file → ChangeText file bytes
    → IsTextWord file.ranges address → ChangeText file (with_word bytes (place_of file.segments address) word)

-- A byte of the file that stands in the text is loaded to the text alone.
abbrev pub TextIsLoadedOnce : Type 0
TextIsLoadedOnce =
    (old : List ℕ) (file : Executable) → IsReadAs old (Ok file)
    → (segment : Segment) (distance : ℕ) → Contains file.segments segment → distance < segment.file_size
    → IsTextPlace file (segment.offset + distance) → InText file.ranges (segment.address + distance)

-- A word that was written is read, and words elsewhere in the text stay.
abbrev pub WordIsRead : Type 0
WordIsRead =
    (file : Executable) (bytes : List ℕ) (address word : ℕ) → IsWellFormed file → ChangeText file bytes
    → IsTextWord file.ranges address → word < 2 ^ 32
    → field 4 (place_of file.segments address) (with_word bytes (place_of file.segments address) word) ≡ word

abbrev pub OtherWordsStay : Type 0
OtherWordsStay =
    (old bytes : List ℕ) (file : Executable) (address other word : ℕ) → IsReadAs old (Ok file) → ChangeText file bytes
    → IsTextWord file.ranges address → IsTextWord file.ranges other → other ≢ address
    → field 4 (place_of file.segments other) (with_word bytes (place_of file.segments address) word)
    ≡ field 4 (place_of file.segments other) bytes
