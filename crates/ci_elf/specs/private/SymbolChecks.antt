-- For private contracts: what is known of symbols while they are read.
use Rattle.std.specs.Prelude.{◌≡◌, ℕ, ◌+◌, ◌-◌, ◌*◌, ◌/◌, ◌%◌, ◌<◌, ◌≤◌, ◌||◌, Bool, true, false, not, List, [], length}
use Rattle.std.specs.Prelude.{if◌then◌else◌, nat_lt, slice_index}
use Rattle.ci_elf.specs.declared.parts.Part.{Part}
use Rattle.ci_elf.specs.declared.taken.TakenPlaces.{TakenPlaces}
use Rattle.ci_elf.specs.Fields.{field, is_symbol_table}
use Rattle.ci_reading.specs.Broken.{those_below}
use Rattle.ci_elf.specs.Executables.{has_entry_below, symbols_in}
use Rattle.ci_elf.specs.private.Parts.{symbols_at}

-- ---- places that are taken

-- the entry at the place is taken
abbrev pub is_taken : TakenPlaces → ℕ → Bool
is_taken places place = nat_lt 0 (slice_index places.runs.items (place - places.first))

-- the place is one of those that may be taken
pub record IsAmong (places : TakenPlaces) (place : ℕ) : Type 0 where
  pub from : places.first ≤ place
  pub to : place < places.first + length places.runs.items

-- the new places are the old ones, of which those are taken that were, and that pass the test
pub record TakesToo (old new : TakenPlaces) (test : ℕ → Bool) : Type 0 where
  pub first : new.first ≡ old.first
  pub many : length new.runs.items ≡ length old.runs.items
  pub taken : (place : ℕ) → old.first ≤ place → is_taken new place ≡ (test place || is_taken old place)

-- so many entries from the place on are taken, and the place is free where these are none
pub record IsRun (places : TakenPlaces) (place run : ℕ) : Type 0 where
  pub taken : (j : ℕ) → j < run → is_taken places (place + 16 * j) ≡ true
  pub free : run ≡ 0 → is_taken places place ≡ false

-- ---- symbol tables

-- the part is whole entries in the file, at places that may be taken
pub record IsTableAmong (bytes : List ℕ) (places : TakenPlaces) (table : Part) : Type 0 where
  pub order : table.start ≤ table.end
  pub whole : (table.end - table.start) % 16 ≡ 0
  pub in_file : table.start < table.end → table.end ≤ length bytes
  pub from : table.start < table.end → places.first ≤ table.start
  pub to : table.start < table.end → table.end ≤ places.first + length places.runs.items

-- the value of entry k, of entries from `start` on
abbrev pub value_at : List ℕ → ℕ → ℕ → ℕ
value_at bytes start k = field 4 (start + 16 * k + 4) bytes

-- the values of the entries of a table that aren't taken
abbrev pub free_values : List ℕ → TakenPlaces → Part → List ℕ
free_values bytes places table =
    those_below ((table.end - table.start) / 16) (λ k. not (is_taken places (table.start + 16 * k)))
    (value_at bytes table.start)

-- the span has the places of the symbol tables among the sections 0, 1, .., count - 1, and ends in the file
pub record IsSpan (bytes : List ℕ) (count : ℕ) (span : Part) : Type 0 where
  pub in_file : span.end ≤ length bytes
  pub from :
      (n : ℕ) → n < count → (symbols_at bytes n).start < (symbols_at bytes n).end
      → span.start ≤ (symbols_at bytes n).start
  pub to :
      (n : ℕ) → n < count → (symbols_at bytes n).start < (symbols_at bytes n).end
      → (symbols_at bytes n).end ≤ span.end

-- the entries of the sections 0, 1, .., n - 1 are taken
abbrev pub AreTakenBelow : List ℕ → ℕ → TakenPlaces → Type 0
AreTakenBelow bytes n places =
    (place : ℕ) → places.first ≤ place → is_taken places place ≡ has_entry_below bytes n place

-- the values of the symbols of section n, where that is a symbol table, that no section before it has
abbrev pub symbols_here : List ℕ → ℕ → List ℕ
symbols_here bytes n = if is_symbol_table bytes n then symbols_in bytes n else []
