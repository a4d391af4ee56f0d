-- For private contracts: the segments of an image by address, and what they load. The model of `Image` cites it too.
use Rattle.std.specs.Prelude.{◌≡◌, ℕ, ◌+◌, ◌-◌, List, IsTrue}
use Rattle.std.specs.List.{Contains}
use Rattle.std.specs.List.Sorted.{IsNonDecreasingBy, IsPermutation}
use Rattle.ci_elf.specs.declared.segments.Segment.{Segment}
use Rattle.ci_elf.specs.Executables.{Executable, IsWellFormed, has_in_file}

-- these are the segments of a well-formed image, in the order of their addresses
pub record IsSound (image : Executable) (by_address : List Segment) : Type 0 where
  pub well_formed : IsWellFormed image
  pub order : IsNonDecreasingBy (λ s. s.address) by_address
  pub same : IsPermutation image.segments by_address

-- one of the segments loads the byte at the address from this place of the file
pub record IsLoadedFrom (segments : List Segment) (address place : ℕ) : Type 0 where
  pub segment : Segment
  pub there : Contains segments segment
  pub loads : IsTrue (has_in_file segment address)
  pub is : place ≡ segment.offset + (address - segment.address)
