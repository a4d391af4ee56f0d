-- A range of the text that has a byte of it.
use Rattle.std.proofs.Common.{◌<◌, ◌≤◌, ℕ, List}
use Rattle.std.specs.List.{Contains}
use Rattle.ci_elf.specs.declared.ranges.Range.{Range}
use Rattle.ci_elf.specs.Executables.{InText, end_of}
use Rattle.ci_elf.proofs.RangeLaws.{range_holding, text_from}

pub record IsHeld (ranges : List Range) (address : ℕ) : Type 0 where
  pub range : Range
  pub there : Contains ranges range
  pub from : range.start ≤ address
  pub to : address < end_of range

pub holder : (ranges : List Range) (address : ℕ) → InText ranges address → IsHeld ranges address
holder ranges address text =
    let held = range_holding ranges address text in
    record { range = held.1; there = (held.0, held.2, held.3); from = held.4.0; to = held.4.1 }

-- the bytes of a range are text
pub text_within :
    (ranges : List Range) (address : ℕ) (range : Range) → Contains ranges range → range.start ≤ address → address < end_of range
    → InText ranges address
text_within ranges address range there from to = text_from ranges address (there.0, range, there.1, there.2, (from, to))
