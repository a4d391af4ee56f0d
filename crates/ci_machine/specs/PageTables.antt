-- The table of pages of 4,096 bytes: where the page of a number is kept.
use Rattle.std.specs.Prelude.{◌≡◌, ◌≢◌, ℕ, suc, zero, ◌+◌, ◌-◌, ◌/◌, ◌<◌, ◌≤◌, Bool, ◌==◌, ◌&&◌, ◌||◌, not}
use Rattle.std.specs.Prelude.{if◌then◌else◌}
use Rattle.std.specs.Prelude.{List, [], ◌∷◌, length, slice_index, slice_index_or, Option, Some, None, IsSome}
use Rattle.std.specs.Ordering.{nat_cmp}
use Rattle.std.specs.FinMap as map
use Rattle.std.proofs.Props.{props}
use native.Mathlib.Nat.{ℕ_set}
use native.Mathlib.Bridge.{le_prop}
use Rattle.ci_word.specs.Numbers.{count_below}
use Rattle.ci_machine.specs.declared.pages.Entry.{Entry}
use Rattle.ci_machine.specs.declared.pages.Page.{Page}
use Rattle.ci_machine.specs.Programs.{lies_in}

-- ---- the table

-- the page of this number, in the slot that the table has for it
unfoldable pub page_in : List Entry → map.FinMap nat_cmp Page → ℕ → Option Page
page_in [] frames number = None
page_in (entry ∷ table) frames number =
    if number == entry.number then map.get frames entry.slot else page_in table frames number

abbrev pub entry_at : List Entry → ℕ → Entry
entry_at table place = slice_index_or table place (record { number = 0; slot = 0 })

-- The numbers rise, and each has a slot of its own, which is live. No other slot is.
pub record IsTable (table : List Entry) (frames : map.FinMap nat_cmp Page) : Type 0 where
  pub ascending : (i j : ℕ) → i < j → j < length table → (entry_at table i).number < (entry_at table j).number
  pub apart : (i j : ℕ) → i < j → j < length table → (entry_at table i).slot ≢ (entry_at table j).slot
  pub live : (i : ℕ) → i < length table → IsSome (map.get frames (entry_at table i).slot)
  pub counted : map.len frames ≡ length table

-- the page of this number is at this place of the table
pub record IsPlace (table : List Entry) (number place : ℕ) : Type 0 where
  pub below : place < length table
  pub here : (entry_at table place).number ≡ number

-- the number would go at this place
pub record IsGap (table : List Entry) (number place : ℕ) : Type 0 where
  pub within : place ≤ length table
  pub smaller : (i : ℕ) → i < place → (entry_at table i).number < number
  pub greater : (i : ℕ) → place ≤ i → i < length table → number < (entry_at table i).number

-- ---- bytes and numbers

-- the byte that is so far behind the first one of a page, 0 where there is none
abbrev pub byte_on : Option Page → ℕ → ℕ
byte_on (Some page) offset = slice_index page.bytes offset
byte_on None offset = 0

-- so many bytes from an address on
abbrev pub run_of : (ℕ → ℕ) → ℕ → ℕ → List ℕ
run_of bytes zero address = []
run_of bytes (suc n) address = bytes address ∷ run_of bytes n (address + 1)

-- the bytes with this list from an address on
abbrev pub written : (ℕ → ℕ) → ℕ → List ℕ → ℕ → ℕ
written bytes start row address =
    if lies_in start (start + length row) address then slice_index row (address - start) else bytes address

-- the bytes with zeros between two addresses
abbrev pub zeroed : (ℕ → ℕ) → ℕ → ℕ → ℕ → ℕ
zeroed bytes start end address = if lies_in start end address then 0 else bytes address

-- the page numbers with those between two, and without them
abbrev pub with_pages : (ℕ → Bool) → ℕ → ℕ → ℕ → Bool
with_pages numbers from to number = lies_in from to number || numbers number

abbrev pub without_pages : (ℕ → Bool) → ℕ → ℕ → ℕ → Bool
without_pages numbers from to number = not (lies_in from to number) && numbers number

-- how many page numbers from one up to another aren't among them
abbrev pub missing : (ℕ → Bool) → ℕ → ℕ → ℕ
missing numbers from to = count_below (to - from) (λ k. not (numbers (from + k)))

-- the first page number behind the bytes below an address
abbrev pub pages_to : ℕ → ℕ
pages_to end = (end + 4095) / 4096

-- ---- the table of a struct

-- the same as `IsTable`, shut, so that it stays apart from what is known of a state
unfoldable pub HasTable : List Entry → map.FinMap nat_cmp Page → Type 0
HasTable table frames = IsTable table frames

pub HasTable-prop : (table : List Entry) (frames : map.FinMap nat_cmp Page) → IsProp (HasTable table frames)
unfolding HasTable
HasTable-prop table frames = hlevel (ℕ_set, le_prop, props)
