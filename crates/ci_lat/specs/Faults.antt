-- Which bytes are a latency table, and which fault the others have.
use Rattle.std.specs.Prelude.{◌≡◌, ℕ, Bool, true, false, not, ◌&&◌, nat_lt, List, [], ◌∷◌, ◌++◌, map, codes, Option}
use Rattle.std.specs.Prelude.{Some, None, unwrap_or, option_and_then, IsUtf8}
use Rattle.std.specs.List.{list_any, list_all}
use Rattle.std.specs.Str.{bytes_eq}
use Rattle.toml.specs.Data.{Data, table, Members, no_members, member, get_member}
use Rattle.toml.specs.Parse.{parse_document}
use Rattle.ci_lat.specs.declared.keys.Key.{Key}
use Rattle.ci_lat.specs.declared.keys.Key.TheVariants.{Read, Pad, SoftwareOf, HardwareOf}
use Rattle.ci_lat.specs.declared.faults.LatFault.{LatFault}
use Rattle.ci_lat.specs.declared.faults.LatFault.TheVariants.{NotToml, UnknownKey, OutOfRange, PadTooLarge, NoMemory}
use Rattle.ci_lat.specs.Latencies.{Latencies, usual}
use Rattle.ci_lat.specs.Keys.{key_word, text_keys, software_keys, hardware_keys, keys_by_value, keys_above_pad, Kind}
use Rattle.ci_lat.specs.Keys.{kind_of, number_of, is_of_kind, entry}

-- ---- what a document gives

-- the members of a value that is a table; others have none
abbrev pub members_of : Option Data → Members
members_of (Some (table ms)) = ms
members_of _ = no_members

-- the table that the key stands in
abbrev pub table_around : Key → Members → Members
table_around (SoftwareOf c) document = members_of (get_member (codes "software") document)
table_around (HardwareOf c) document = members_of (get_member (codes "hardware") document)
table_around key document = document

-- the value that the document gives for the key
abbrev pub given : Members → Key → Option Data
given document key = get_member (key_word key) (table_around key document)

-- The number that the document gives for the key, or that of the usual table. One out of its range counts as none, and
-- is a fault.
unfoldable pub setting : Members → Key → ℕ
setting document key =
    unwrap_or (option_and_then (number_of (kind_of key)) (given document key)) (entry usual key)

-- the table that the document gives
unfoldable pub table_of : Members → Latencies
table_of document = record {
  read = setting document Read;
  pad = setting document Pad;
  software = map (setting document) software_keys;
  hardware = map (setting document) hardware_keys;
}

-- ---- what is wrong with a document

-- the words that stand for keys in a table
abbrev pub words : Members → List (List ℕ)
words no_members = []
words (member word value ms) = word ∷ words ms

-- the word is that of one of the keys
unfoldable pub is_word_of : List Key → List ℕ → Bool
is_word_of keys word = list_any (λ key. bytes_eq word (key_word key)) keys

-- the table has no key but these
unfoldable pub has_only : List Key → Members → Bool
has_only keys ms = list_all (is_word_of keys) (words ms)

-- a key that is none of a latency table stands in the document, or in its `software` or `hardware`
unfoldable pub has_unknown_key : Members → Bool
has_unknown_key document =
    not (
    has_only text_keys document
    && has_only software_keys (members_of (get_member (codes "software") document))
    && has_only hardware_keys (members_of (get_member (codes "hardware") document))
    )

-- a value that is not of the kind; where none is given, nothing is wrong
abbrev pub is_of_another_kind : Kind → Option Data → Bool
is_of_another_kind kind None = false
is_of_another_kind kind (Some value) = not (is_of_kind kind value)

-- what the document gives for the key is no table where one is due, or no integer in the key's range
unfoldable pub is_out_of_range : Members → Key → Bool
is_out_of_range document key = is_of_another_kind (kind_of key) (given document key)

-- `pad` is greater than what stands at the key
unfoldable pub is_below_pad : Members → Key → Bool
is_below_pad document key = nat_lt (setting document key) (setting document Pad)

-- The causes of faults in their order: whether each is there, and which fault it is.
unfoldable pub causes : Members → List (Bool × LatFault)
causes document =
    (has_unknown_key document, UnknownKey)
    ∷ (map (λ key. (is_out_of_range document key, OutOfRange key)) keys_by_value
    ++ map (λ key. (is_below_pad document key, PadTooLarge key)) keys_above_pad)

-- the fault of the first cause that is there
abbrev pub first_fault : List (Bool × LatFault) → Option LatFault
first_fault [] = None
first_fault ((true, fault) ∷ rest) = Some fault
first_fault ((false, fault) ∷ rest) = first_fault rest

-- ---- bytes

-- the bytes are this TOML document, as the crate `toml` reads it
abbrev pub AreDocument : List ℕ → Members → Type 0
AreDocument bytes document = IsUtf8 bytes × (parse_document bytes ≡ Some document)

-- the bytes are the text of this latency table
abbrev pub AreTable : List ℕ → Latencies → Type 0
AreTable bytes latencies =
    (document : Members) × AreDocument bytes document × (first_fault (causes document) ≡ None)
    × (latencies ≡ table_of document)

-- the bytes are a document that has this fault first
abbrev pub HaveFirst : List ℕ → LatFault → Type 0
HaveFirst bytes fault =
    (document : Members) × AreDocument bytes document × (first_fault (causes document) ≡ Some fault)

-- The bytes have this fault: they are no document, or the document has it first. Out of memory is no fault of bytes.
abbrev pub HaveFault : List ℕ → LatFault → Type 0
HaveFault bytes NotToml = ¬ ((document : Members) × AreDocument bytes document)
HaveFault bytes NoMemory = ⊥
HaveFault bytes fault = HaveFirst bytes fault
