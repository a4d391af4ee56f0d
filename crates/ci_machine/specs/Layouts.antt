-- Which bytes of a machine's memory are mapped, and where its heap lies.
use Rattle.std.specs.Prelude.{◌≡◌, ℕ, ◌+◌, ◌-◌, ◌*◌, ◌/◌, ◌<◌, ◌≤◌, Bool, true, false, ◌||◌, nat_lt, nat_le, List, map}
use Rattle.std.specs.Prelude.{min}
use native.Mathlib.Nat.{ℕ_set}
use native.Mathlib.Bridge.{le_prop}
use Rattle.std.proofs.Props.{props}
use Rattle.ci_elf.specs.declared.segments.Segment.{Segment}
use Rattle.ci_elf.specs.MemoryMap.{memory_top, stack_start, stack_end, most_memory}
use Rattle.ci_machine.specs.declared.pages.Pages.{Pages}
use Rattle.ci_machine.specs.declared.spans.Span.{Span}
use Rattle.ci_machine.specs.Pages.{content, has, room}
use Rattle.ci_machine.specs.PageTables.{missing, pages_to}
use Rattle.ci_machine.specs.Programs.{extent_of, lies_in, loaded_size, maximum_end}
use Rattle.ci_machine.specs.Spans.{in_spans}

-- the address lies in a span or in the heap
abbrev pub mapped_in : List Span → ℕ → ℕ → ℕ → Bool
mapped_in spans heap_start heap_end address = in_spans spans address || lies_in heap_start heap_end address

-- the greatest address at which the heap may end, where the segments and the stack take so many bytes
abbrev pub heap_limit : ℕ → ℕ → ℕ
heap_limit start loaded = start + min (most_memory - loaded) (memory_top - start)

-- Where the heap lies: behind the segments, of which it has no byte, and clear of the stack. The segments' bytes and
-- the stack's are counted, and the heap's fit beside them.
pub record IsLaidOut (spans : List Span) (segments : List Segment) (start end loaded : ℕ) : Type 0 where
  pub begins : start ≡ (maximum_end (map extent_of segments) + 15) / 16 * 16
  pub ordered : start ≤ end
  pub top : end ≤ memory_top
  pub clear : start < end → (nat_le end stack_start || nat_le stack_end start) ≡ true
  pub counted : loaded ≡ loaded_size (map extent_of segments)
  pub fits : loaded + (end - start) ≤ most_memory
  pub below : (address : ℕ) → in_spans spans address ≡ true
      → (nat_lt address start || lies_in stack_start stack_end address) ≡ true

-- Each byte of a span is on a page, and what isn't mapped is 0. Of the pages that the heap may come to meet there is
-- room for all that aren't there; what it has on such a page is 0.
pub record IsPaged (pages : Pages) (spans : List Span) (start end loaded : ℕ) : Type 0 where
  pub covered : (address : ℕ) → in_spans spans address ≡ true → has pages (address / 4096) ≡ true
  pub clean : (address : ℕ) → mapped_in spans start end address ≡ false → content pages address ≡ 0
  pub room : missing (has pages) (start / 4096) (pages_to (heap_limit start loaded)) ≤ room pages

-- The same, shut, so that they stay apart from what is known of a state.
unfoldable pub HasLayout : List Span → List Segment → ℕ → ℕ → ℕ → Type 0
HasLayout spans segments start end loaded = IsLaidOut spans segments start end loaded

unfoldable pub HasPages : Pages → List Span → ℕ → ℕ → ℕ → Type 0
HasPages pages spans start end loaded = IsPaged pages spans start end loaded

pub HasLayout-prop : (spans : List Span) (segments : List Segment) (start end loaded : ℕ)
    → IsProp (HasLayout spans segments start end loaded)
unfolding HasLayout
HasLayout-prop spans segments start end loaded = hlevel (ℕ_set, le_prop, props)

pub HasPages-prop : (pages : Pages) (spans : List Span) (start end loaded : ℕ)
    → IsProp (HasPages pages spans start end loaded)
unfolding HasPages
HasPages-prop pages spans start end loaded = hlevel (ℕ_set, le_prop, props)
