-- For private contracts: the ranges of a text by number.
use Rattle.std.specs.Prelude.{◌≡◌, ℕ, ◌%◌, ◌<◌, ◌≤◌, List, length, slice_index_or}
use Rattle.ci_elf.specs.declared.ranges.Range.{Range}
use Rattle.ci_elf.specs.Executables.{IsAscending, end_of}
use Rattle.ci_elf.specs.MemoryMap.{memory_top}

-- range k, and past the last one a range without words
abbrev pub range_at : List Range → ℕ → Range
range_at ranges k = slice_index_or ranges k (record { start = 0; words = 0 })

-- what holds of the ranges of every file
pub record AreTextRanges (ranges : List Range) : Type 0 where
  pub ascending : IsAscending ranges
  pub aligned : (k : ℕ) → (range_at ranges k).start % 4 ≡ 0
  pub worded : (k : ℕ) → k < length ranges → 0 < (range_at ranges k).words
  pub below_top : (k : ℕ) → end_of (range_at ranges k) ≤ memory_top
