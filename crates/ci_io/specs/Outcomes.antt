-- What a read, a write and a put may answer, and what they leave.
use Rattle.std.specs.Prelude.{◌≡◌, ℕ, ◌<◌, ◌-◌, ◌^◌, ◌⊎◌, List, Option, Some, None}
use Rattle.std.specs.Ordering.{nat_cmp}
use Rattle.std.specs.Cmp.Lexicographic.{slice_cmp}
use Rattle.std.specs.FinMap as map
use Rattle.ci_io.specs.CallLists.{Call}

-- files by name: the bytes of each name that has some
abbrev pub Files : Type 0
Files = map.FinMap (slice_cmp nat_cmp) (List ℕ)

-- what is known of a shelf: its files by name, where it tells them, how many reads and how many writes failed, and the
-- calls that were made on it, the first of them first
pub record ShelfState : Type 0 where
  pub files : Option Files
  pub read_faults : ℕ
  pub write_faults : ℕ
  pub calls : List Call

-- What is known of a sink: the bytes that it took, where it tells them, how many puts failed, and how many ran out of
-- memory; and the calls of `put`.
pub record SinkState : Type 0 where
  pub taken : Option (List ℕ)
  pub faults : ℕ
  pub memory_faults : ℕ
  pub calls : List Call

-- A count of faults rose. A counter stays at its last value once it has reached it, and may have risen there.
abbrev pub Rises : ℕ → ℕ → Type 0
Rises before after = (before < after) ⊎ (after ≡ 2 ^ 64 - 1)

-- the files with this content, or nothing, under the name
abbrev pub with_file : List ℕ → Option (List ℕ) → Files → Files
with_file name None files = map.remove files name
with_file name (Some bytes) files = map.insert files name bytes
