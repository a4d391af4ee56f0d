-- Which bytes are mapped besides the heap: those in spans of addresses that rise.
use Rattle.std.specs.Prelude.{ℕ, ◌+◌, ◌-◌, ◌/◌, ◌<◌, ◌≤◌, Bool, false, ◌||◌, max, List, [], ◌∷◌, length, slice_index_or}
use native.Mathlib.Nat.{ℕ_set}
use native.Mathlib.Bridge.{le_prop}
use Rattle.ci_machine.specs.declared.spans.Span.{Span}
use Rattle.ci_machine.specs.Programs.{lies_in}

-- the address lies in one of them
unfoldable pub in_spans : List Span → ℕ → Bool
in_spans [] address = false
in_spans (span ∷ spans) address = lies_in span.start span.end address || in_spans spans address

abbrev pub span_at : List Span → ℕ → Span
span_at spans place = slice_index_or spans place (record { start = 0; end = 0 })

-- the one at this place has the address
abbrev pub lies_at : List Span → ℕ → ℕ → Bool
lies_at spans place address = lies_in (span_at spans place).start (span_at spans place).end address

-- each has an address, and ends before the later ones begin
pub record AreRising (spans : List Span) : Type 0 where
  pub filled : (i : ℕ) → i < length spans → (span_at spans i).start < (span_at spans i).end
  pub apart : (i j : ℕ) → i < j → j < length spans → (span_at spans i).end ≤ (span_at spans j).start

-- the same, shut, so that it stays apart from what is known of a state
unfoldable pub HasRising : List Span → Type 0
HasRising spans = AreRising spans

pub HasRising-prop : (spans : List Span) → IsProp (HasRising spans)
unfolding HasRising
HasRising-prop spans = hlevel (ℕ_set, le_prop)

-- how many pages from one number on they meet
abbrev pub pages_met : List Span → ℕ → ℕ
pages_met [] next = 0
pages_met (span ∷ spans) next =
    ((span.end - 1) / 4096 + 1 - max next (span.start / 4096)) + pages_met spans (max next ((span.end - 1) / 4096 + 1))
