-- For private contracts: marks on words.
use Rattle.std.specs.Prelude.{◌≡◌, ℕ, ◌⊎◌, List, Some, true, false, slice_index_or}
use Rattle.ci_elf.specs.Executables.{Executable, IsTextWord}
use Rattle.ci_elf.specs.WordPlaces.{word_place}
use Rattle.ci_block.specs.declared.marks.Marks.{Marks}
use Rattle.ci_block.specs.Leaders.{IsMark}

-- the word at the address is marked
pub record IsMarked (marks : Marks) (address : ℕ) : Type 0 where
  pub place : ℕ
  pub there : word_place marks.places address ≡ Some place
  pub set : slice_index_or marks.flags.items place false ≡ true

-- the marked words are now those from before and those with this property
pub record Adds (old new : Marks) (P : ℕ → Type 0) : Type 0 where
  pub ranges : new.places ≡ old.places
  pub kept : (a : ℕ) → IsMarked old a → IsMarked new a
  pub added : (a : ℕ) → IsTextWord old.places a → P a → IsMarked new a
  pub only : (a : ℕ) → IsMarked new a → IsMarked old a ⊎ P a

-- the marked words are those that are marks of the file
pub record AreMarksOf (image : Executable) (targets named : List ℕ) (marks : Marks) : Type 0 where
  pub ranges : marks.places ≡ image.ranges
  pub sound : (a : ℕ) → IsMarked marks a → IsMark image targets named a
  pub complete : (a : ℕ) → IsTextWord image.ranges a → IsMark image targets named a → IsMarked marks a
