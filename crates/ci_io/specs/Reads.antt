-- What a read answers of a shelf that tells its files.
use Rattle.std.specs.Prelude.{◌≡◌, ℕ, ◌<◌, ◌≤◌, ⊤, List, length, Some, None, Ok, Err}
use Rattle.std.specs.Option.{IsSomeAnd}
use Rattle.std.specs.FinMap as map
use Rattle.ci_io.specs.declared.shelves.ShelfErr.TheVariants.{Absent, Fault, TooLarge, NoMemory}
use Rattle.ci_io.specs.CallLists.{Answer}
use Rattle.ci_io.specs.Outcomes.{Files}

-- The file's bytes, at most as many as the limit; or no file has the name; or it is longer than the limit. A fault
-- and "out of memory" say nothing of the file.
abbrev pub IsReadOf : Files → List ℕ → ℕ → Answer → Type 0
IsReadOf files name limit (Ok bytes) = (map.get files name ≡ Some bytes) × (length bytes ≤ limit)
IsReadOf files name limit (Err Absent) = map.get files name ≡ None
IsReadOf files name limit (Err TooLarge) = IsSomeAnd (map.get files name) (λ bytes. limit < length bytes)
IsReadOf files name limit (Err Fault) = ⊤
IsReadOf files name limit (Err NoMemory) = ⊤
