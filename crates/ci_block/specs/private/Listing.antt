-- For private contracts: leaders listed in the order of their addresses.
use Rattle.std.specs.Prelude.{◌≡◌, ℕ, ◌+◌, ◌*◌, ◌<◌, ◌≤◌, ◌⊎◌, Bool, true, false, List, Option, Some, None}
use Rattle.std.specs.List.{AllPairs, Contains}
use Rattle.ci_elf.specs.declared.ranges.Range.{Range}
use Rattle.ci_elf.specs.Executables.{IsTextWord, end_of}
use Rattle.ci_block.specs.private.Marking.{range_at}

-- the nearest leader below the address lies 256 words before it in the same range
pub record IsFull (ranges : List Range) (leaders : List ℕ) (address : ℕ) : Type 0 where
  pub leader : ℕ
  pub listed : Contains leaders leader
  pub distance : leader + 4 * 256 ≡ address
  pub nearest : (a : ℕ) → leader < a → a < address → ¬ Contains leaders a
  pub index : ℕ
  pub from : (range_at ranges index).start ≤ leader
  pub to : address < end_of (range_at ranges index)

-- the words of the text below a limit that have the property or follow a full block
pub record IsListedBelow (ranges : List Range) (P : ℕ → Type 0) (limit : ℕ) (leaders : List ℕ) : Type 0 where
  pub ascending : AllPairs (λ a b. a < b) leaders
  pub below : (a : ℕ) → Contains leaders a → a < limit
  pub text : (a : ℕ) → Contains leaders a → IsTextWord ranges a
  pub ruled : (a : ℕ) → Contains leaders a → P a ⊎ (¬ P a × IsFull ranges leaders a)
  pub complete : (a : ℕ) → a < limit → IsTextWord ranges a → P a ⊎ IsFull ranges leaders a → Contains leaders a

-- word `last` is the last leader from this start on, or there is none
abbrev pub IsLastFrom : ℕ → List ℕ → Option ℕ → Type 0
IsLastFrom start leaders None = (a : ℕ) → Contains leaders a → a < start
IsLastFrom start leaders (Some last) =
    Contains leaders (start + 4 * last) × ((a : ℕ) → Contains leaders a → a ≤ start + 4 * last)

-- a block that begins at word `last`, if there is one, is full before this word
abbrev pub IsFullBefore : Option ℕ → ℕ → Type 0
IsFullBefore None word = ⊥
IsFullBefore (Some last) word = last + 256 ≡ word

-- the test of a word says whether it is marked, or else behind a full block
abbrev pub IsLeaderTest : Type 0 → Type 0 → Bool → Type 0
IsLeaderTest marked full true = marked ⊎ (¬ marked × full)
IsLeaderTest marked full false = ¬ marked × ¬ full
