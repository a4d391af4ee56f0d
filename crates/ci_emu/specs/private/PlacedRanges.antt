-- For private contracts: the places of the words of the range of a text that is near.
use Rattle.std.specs.Prelude.{◌≡◌, ℕ, ◌+◌, ◌-◌, ◌*◌, ◌/◌, ◌%◌, ◌^◌, ◌≤◌, true, List, Some}
use Rattle.ci_elf.specs.declared.ranges.Range.{Range}
use Rattle.ci_elf.specs.Executables.{has_byte}
use Rattle.ci_elf.specs.WordPlaces.{place_in}
use Rattle.ci_emu.specs.declared.counts.Nearby.{Nearby}

-- The words of the range have these places among those of the text: from the first one on. They begin at multiples of
-- four, and none ends past the last address.
pub record ArePlaced (ranges : List Range) (nearby : Nearby) : Type 0 where
  pub placed : (address : ℕ) → has_byte nearby.range address ≡ true
      → place_in ranges address ≡ Some (nearby.first + (address - nearby.range.start) / 4)
  pub aligned : nearby.range.start % 4 ≡ 0
  pub fits : nearby.range.start + 4 * nearby.range.words ≤ 2 ^ 32
