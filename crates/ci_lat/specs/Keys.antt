-- The keys of a table's text: what each is called, and which values it may have.
use Rattle.std.specs.Prelude.{ℕ, Bool, ◌&&◌, nat_le, List, [], ◌∷◌, ◌++◌, map, codes, slice_index_or, pos, Option, Some}
use Rattle.std.specs.Prelude.{None, is_some, if◌then◌else◌}
use Rattle.ci_word.specs.declared.arithmetic.Class.{Class}
use Rattle.toml.specs.Data.{Data, integer, as_table}
use Rattle.ci_lat.specs.declared.keys.Key.{Key}
use Rattle.ci_lat.specs.declared.keys.Key.TheVariants.{Read, Pad, Software, Hardware, SoftwareOf, HardwareOf}
use Rattle.ci_lat.specs.Latencies.{rows, delayed_rows, place, Latencies, latency_of, delay_of}

-- the word for the class
unfoldable pub word_of : Class → List ℕ
word_of c = slice_index_or (map (λ r. r.word) rows) (place c) []

-- the key in the table that it stands in
abbrev pub key_word : Key → List ℕ
key_word Read = codes "read"
key_word Pad = codes "pad"
key_word Software = codes "software"
key_word Hardware = codes "hardware"
key_word (SoftwareOf c) = word_of c
key_word (HardwareOf c) = word_of c

-- the key with the table that it stands in, as it is printed
abbrev pub key_name : Key → List ℕ
key_name (SoftwareOf c) = codes "software." ++ word_of c
key_name (HardwareOf c) = codes "hardware." ++ word_of c
key_name key = key_word key

-- the keys of the whole text, and those of its tables `software` and `hardware`
abbrev pub text_keys : List Key
text_keys = Read ∷ Pad ∷ Software ∷ Hardware ∷ []

unfoldable pub software_keys : List Key
software_keys = map (λ r. SoftwareOf r.class) rows

unfoldable pub hardware_keys : List Key
hardware_keys = map (λ r. HardwareOf r.class) delayed_rows

-- the keys in the order in which their values are looked at
unfoldable pub keys_by_value : List Key
keys_by_value = (Read ∷ Pad ∷ Software ∷ software_keys) ++ Hardware ∷ hardware_keys

-- The keys whose values `pad` may not exceed, in the order in which it is compared with them: the latencies of what a
-- custom instruction may take in, and that of a read of a hidden result.
unfoldable pub keys_above_pad : List Key
keys_above_pad = map (λ r. SoftwareOf r.class) delayed_rows ++ Read ∷ []

-- what may stand at a key: a table, or an integer from the minimum to the maximum one
pub data Kind : Type 0 where
  table : Kind
  number : ℕ → ℕ → Kind

abbrev pub kind_of : Key → Kind
kind_of Read = number 1 1000
kind_of Pad = number 0 1000
kind_of Software = table
kind_of Hardware = table
kind_of (SoftwareOf c) = number 1 1000
kind_of (HardwareOf c) = number 0 100000

-- the number that the value is, where it is one of this kind
abbrev pub number_of : Kind → Data → Option ℕ
number_of (number minimum maximum) (integer (pos n)) = if nat_le minimum n && nat_le n maximum then Some n else None
number_of _ _ = None

abbrev pub is_of_kind : Kind → Data → Bool
is_of_kind table value = is_some (as_table value)
is_of_kind kind value = is_some (number_of kind value)

-- what a table has at the key, and 0 at those of its two parts
abbrev pub entry : Latencies → Key → ℕ
entry t Read = t.read
entry t Pad = t.pad
entry t Software = 0
entry t Hardware = 0
entry t (SoftwareOf c) = latency_of t c
entry t (HardwareOf c) = delay_of t c
