-- The files that a map of the program holds.
use Rattle.std.specs.Prelude.{ℕ, List, map, String, string_bytes, Vec}
use Rattle.std.specs.BTreeMap.{BTreeMap}
use Rattle.std.specs.declared.alloc.Global.{Global}
use Rattle.std.specs.FinMap.{from_entries}
use Rattle.ci_io.specs.Outcomes.{Files}

-- each entry's bytes under the bytes of its name
abbrev pub byte_entries : List (String Global × Vec ℕ Global) → List (List ℕ × List ℕ)
byte_entries entries = map (λ e. (string_bytes e.0, e.1.items)) entries

-- the files by name that the map holds
abbrev pub files_of : BTreeMap (String Global) (Vec ℕ Global) → Files
files_of held = from_entries (byte_entries held.entries)
