-- What an executable file means: its segments, its text and its symbols.
use Rattle.std.specs.Prelude.{◌≡◌, ℕ, zero, suc, ◌+◌, ◌-◌, ◌*◌, ◌/◌, ◌%◌, ◌==◌, ◌<◌, ◌≤◌, ◌⊎◌, Bool, false, not, ◌&&◌}
use Rattle.std.specs.Prelude.{◌||◌, if◌then◌else◌, List, [], ◌∷◌, length, nat_lt, nat_le, slice_index, slice_index_or}
use Rattle.std.specs.Prelude.{IsTrue}
use Rattle.std.specs.List.{AllPairs, Contains, list_any, sum_by}
use Rattle.std.specs.List.Sorted.{IsPermutation}
use Rattle.ci_elf.specs.declared.segments.Segment.{Segment}
use Rattle.ci_elf.specs.declared.ranges.Range.{Range}
use Rattle.ci_elf.specs.Fields.{field, e_entry, e_phnum, e_shnum, p_offset, p_vaddr, p_filesz, p_memsz, is_loadable}
use Rattle.ci_elf.specs.Fields.{sh_addr, sh_offset, sh_size, is_symbol_table, is_text, st_value}
use Rattle.ci_elf.specs.MemoryMap.{memory_top, stack_start, stack_size, stack_end, most_memory}
use Rattle.ci_reading.specs.Broken.{each_below, those_below}

-- an executable file and what it means
pub record Executable : Type 0 where
  pub bytes : List ℕ
  pub entry : ℕ
  pub segments : List Segment
  pub ranges : List Range
  pub symbols : List ℕ

abbrev pub executable : List ℕ → ℕ → List Segment → List Range → List ℕ → Executable
executable bytes entry segments ranges symbols =
    record { bytes = bytes; entry = entry; segments = segments; ranges = ranges; symbols = symbols }

-- ---- segments and symbols, in the order of the file's tables

abbrev pub segment_of : List ℕ → ℕ → Segment
segment_of bytes n = record {
  address = p_vaddr bytes n;
  memory_size = p_memsz bytes n;
  offset = p_offset bytes n;
  file_size = p_filesz bytes n;
}

-- the loadable segments that have memory
unfoldable pub segments_of : List ℕ → List Segment
segments_of bytes = those_below (e_phnum bytes) (is_loadable bytes) (segment_of bytes)

-- an entry of 16 bytes begins at the place, where entries stand one behind the other from `start` to `end`
abbrev pub begins_entry : (start end place : ℕ) → Bool
begins_entry start end place = nat_le start place && (nat_lt place end && ((place - start) % 16 == 0))

-- section n is a symbol table with an entry that begins at the place in the file
unfoldable pub has_entry : List ℕ → ℕ → ℕ → Bool
has_entry bytes n place =
    is_symbol_table bytes n && begins_entry (sh_offset bytes n) (sh_offset bytes n + sh_size bytes n) place

-- one of the sections 0, 1, .., n - 1 has an entry there
unfoldable pub has_entry_below : List ℕ → ℕ → ℕ → Bool
has_entry_below bytes zero place = false
has_entry_below bytes (suc n) place = has_entry bytes n place || has_entry_below bytes n place

-- how many entries the symbol table has that section n is
abbrev pub symbol_count : List ℕ → ℕ → ℕ
symbol_count bytes n = sh_size bytes n / 16

-- no section before section n has its entry k
abbrev pub is_new_entry : List ℕ → ℕ → ℕ → Bool
is_new_entry bytes n k = not (has_entry_below bytes n (sh_offset bytes n + 16 * k))

-- the values of the entries of section n that no section before it has
abbrev pub symbols_in : List ℕ → ℕ → List ℕ
symbols_in bytes n = those_below (symbol_count bytes n) (is_new_entry bytes n) (st_value bytes n)

-- The value of every entry of every symbol table. An entry that several tables have counts once, at the first of them.
unfoldable pub symbols_of : List ℕ → List ℕ
symbols_of bytes = each_below (e_shnum bytes) (λ n. if is_symbol_table bytes n then symbols_in bytes n else [])

-- ---- text

-- The whole words at multiples of four in section n: the first of them, and how many they are.
abbrev pub range_of : List ℕ → ℕ → Range
range_of bytes n = record {
  start = (sh_addr bytes n + 3) / 4 * 4;
  words = (sh_addr bytes n + sh_size bytes n) / 4 - (sh_addr bytes n + 3) / 4;
}

-- section n has text with at least one whole word
abbrev pub has_words : List ℕ → ℕ → Bool
has_words bytes n = is_text bytes n && nat_lt 0 (range_of bytes n).words

-- the text: the whole words of each text section that has some
unfoldable pub ranges_of : List ℕ → List Range
ranges_of bytes = those_below (e_shnum bytes) (has_words bytes) (range_of bytes)

-- the address behind the last word
abbrev pub end_of : Range → ℕ
end_of range = range.start + 4 * range.words

-- the byte at the address is one of the range's
abbrev pub has_byte : Range → ℕ → Bool
has_byte range address = nat_le range.start address && nat_lt address (end_of range)

-- the byte at the address is text
abbrev pub in_text : List Range → ℕ → Bool
in_text ranges address = list_any (λ range. has_byte range address) ranges

abbrev pub InText : List Range → ℕ → Type 0
InText ranges address = IsTrue (in_text ranges address)

-- a whole word of the text begins at the address
abbrev pub IsTextWord : List Range → ℕ → Type 0
IsTextWord ranges address = (address % 4 ≡ 0) × InText ranges address

-- range i of the list has the byte at the address
pub record HoldsAddress (ranges : List Range) (address i : ℕ) : Type 0 where
  pub within : i < length ranges
  pub from : (d : Range) → (slice_index_or ranges i d).start ≤ address
  pub to : (d : Range) → address < end_of (slice_index_or ranges i d)

-- by address, and no two of them overlap
abbrev pub IsAscending : List Range → Type 0
IsAscending ranges = AllPairs (λ left right. end_of left ≤ right.start) ranges

-- ---- the image

-- The executable that the bytes of a file are, where they break no rule. There is one: each range has a word and no two
-- overlap, so their starts differ, and just one order of them ascends.
pub record IsImageOf (bytes : List ℕ) (image : Executable) : Type 0 where
  pub same_bytes : image.bytes ≡ bytes
  pub entry : image.entry ≡ e_entry bytes
  pub segments : image.segments ≡ segments_of bytes
  pub symbols : image.symbols ≡ symbols_of bytes
  pub same_ranges : IsPermutation (ranges_of bytes) image.ranges
  pub ascending : IsAscending image.ranges

-- ---- where bytes of memory stand in the file

-- the segment loads the byte at the address from the file
abbrev pub has_in_file : Segment → ℕ → Bool
has_in_file segment address = nat_le segment.address address && nat_lt address (segment.address + segment.file_size)

-- where in the file the byte at an address stands, for a byte that some segment loads
unfoldable pub place_of : List Segment → ℕ → ℕ
place_of [] address = 0
place_of (segment ∷ segments) address =
    if has_in_file segment address then segment.offset + (address - segment.address) else place_of segments address

-- the word of the text at an address
abbrev pub text_word : Executable → ℕ → ℕ
text_word image address = field 4 (place_of image.segments address) image.bytes

-- a segment loads this byte from the file to the address (System V gABI, chapter 5, "Program Header")
pub record IsLoaded (image : Executable) (address value : ℕ) : Type 0 where
  pub segment : Segment
  pub there : Contains image.segments segment
  pub loads : IsTrue (has_in_file segment address)
  pub byte : slice_index image.bytes (segment.offset + (address - segment.address)) ≡ value

-- the segment loads the range from the file
pub record LoadsRange (bytes : List ℕ) (segment : Segment) (range : Range) : Type 0 where
  pub from : segment.address ≤ range.start
  pub to : end_of range ≤ segment.address + segment.file_size
  pub in_file : segment.offset + segment.file_size ≤ length bytes

-- The two segments share no byte of memory: one ends before the other begins.
abbrev pub ShareNoMemory : Segment → Segment → Type 0
ShareNoMemory s t = (s.address + s.memory_size ≤ t.address) ⊎ (t.address + t.memory_size ≤ s.address)

-- What holds of every image: its text is whole words in file parts of its segments, by address. Its segments have their
-- bytes in the file and their part of memory below its top, apart from the stack and from each other, and small enough.
pub record IsWellFormed (image : Executable) : Type 0 where
  pub ascending : IsAscending image.ranges
  pub aligned : (range : Range) → Contains image.ranges range → range.start % 4 ≡ 0
  pub worded : (range : Range) → Contains image.ranges range → 0 < range.words
  pub loaded :
      (range : Range) → Contains image.ranges range
      → (segment : Segment) × Contains image.segments segment × LoadsRange image.bytes segment range
  pub in_file :
      (segment : Segment) → Contains image.segments segment → 0 < segment.file_size
      → segment.offset + segment.file_size ≤ length image.bytes
  pub filled : (segment : Segment) → Contains image.segments segment → segment.file_size ≤ segment.memory_size
  pub has_memory : (segment : Segment) → Contains image.segments segment → 0 < segment.memory_size
  pub below_top :
      (segment : Segment) → Contains image.segments segment → segment.address + segment.memory_size ≤ memory_top
  pub off_stack :
      (segment : Segment) → Contains image.segments segment
      → (segment.address + segment.memory_size ≤ stack_start) ⊎ (stack_end ≤ segment.address)
  pub apart : AllPairs ShareNoMemory image.segments
  pub bounded : sum_by (λ segment. segment.memory_size) image.segments + stack_size ≤ most_memory
  pub entry : IsTextWord image.ranges image.entry
