-- Text whose words begin at multiples of four. For the readers of profiles.
use Rattle.std.specs.Prelude.{◌%◌, ◌==◌, Bool, List}
use Rattle.std.specs.List.{list_all}
use Rattle.ci_elf.specs.declared.ranges.Range.{Range}

-- the first word of each range is at a multiple of four
abbrev pub are_aligned : List Range → Bool
are_aligned ranges = list_all (λ range. range.start % 4 == 0) ranges
