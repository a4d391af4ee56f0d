-- The words of a text, one range behind the other: how many they are, and the place of each among them, from 0.
use Rattle.std.specs.Prelude.{ℕ, ◌+◌, ◌-◌, ◌/◌, ◌%◌, ◌==◌, if◌then◌else◌, List, [], ◌∷◌, Option, Some, None}
use Rattle.std.specs.List.{sum_by}
use Rattle.std.specs.Option.{option_map}
use Rattle.ci_elf.specs.declared.ranges.Range.{Range}
use Rattle.ci_elf.specs.Executables.{has_byte}

-- how many words there are
abbrev pub word_count : List Range → ℕ
word_count ranges = sum_by (λ range. range.words) ranges

-- the place of the word that the byte at an address is part of, in the first range that has it
abbrev pub place_in : List Range → ℕ → Option ℕ
place_in [] address = None
place_in (range ∷ ranges) address =
    if has_byte range address then Some ((address - range.start) / 4)
    else option_map (λ place. range.words + place) (place_in ranges address)

-- the place of the word at an address, which is a multiple of four
unfoldable pub word_place : List Range → ℕ → Option ℕ
word_place ranges address = if address % 4 == 0 then place_in ranges address else None
