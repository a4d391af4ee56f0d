-- For private contracts: what is known of ranges of text while they are read, and what is kept of them.
use Rattle.std.specs.Prelude.{◌≡◌, ◌<◌, ◌^◌, length, take, slice_index, ℕ, ◌+◌, ◌-◌, ◌*◌, ◌/◌, List, Option, Some, None}
use Rattle.std.specs.Prelude.{if◌then◌else◌}
use Rattle.ci_elf.specs.declared.ranges.Range.{Range}
use Rattle.ci_elf.specs.declared.sections.Section.{Section}
use Rattle.ci_elf.specs.Executables.{IsAscending, has_words, range_of}
use Rattle.ci_elf.specs.WordPlaces.{word_count}

-- the whole words at multiples of four in a section
abbrev pub words_of : Section → Range
words_of section = record {
  start = (section.address + 3) / 4 * 4;
  words = (section.address + section.size) / 4 - (section.address + 3) / 4;
}

-- the range of section n, where it has words
abbrev pub range_at : List ℕ → ℕ → Option Range
range_at bytes n = if has_words bytes n then Some (range_of bytes n) else None

-- the places of the first words of the ranges, and how many words there are
pub record AreFirstPlaces (ranges : List Range) (firsts : List ℕ) (count : ℕ) : Type 0 where
  pub ascending : IsAscending ranges
  pub many : length firsts ≡ length ranges
  pub first : (k : ℕ) → k < length ranges → slice_index firsts k ≡ word_count (take k ranges)
  pub all : count ≡ word_count ranges
  pub fits : count < 2 ^ 64
