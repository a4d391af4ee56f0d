-- Windows: mapped bytes side by side, all on one page.
use Rattle.std.specs.Prelude.{◌≡◌, ℕ, ◌+◌, ◌*◌, ◌/◌, ◌<◌, ◌≤◌, Bool, true, List, length, slice_index_or}
use native.Mathlib.Nat.{ℕ_set}
use native.Mathlib.Bridge.{le_prop}
use Rattle.std.proofs.Props.{props}
use Rattle.ci_machine.specs.declared.pages.Entry.{Entry}
use Rattle.ci_machine.specs.declared.spans.Span.{Span}
use Rattle.ci_machine.specs.declared.windows.Window.{Window}
use Rattle.ci_machine.specs.Layouts.{mapped_in}
use Rattle.ci_machine.specs.PageTables.{entry_at}

-- its addresses are mapped, and lie on the page whose number stands at its place of the table
pub record IsWindow (table : List Entry) (mapped : ℕ → Bool) (window : Window) : Type 0 where
  pub placed : window.start < window.end → window.place < length table
  pub numbered : window.start < window.end → (entry_at table window.place).number ≡ window.start / 4096
  pub on_page : window.end ≤ window.start / 4096 * 4096 + 4096
  pub each : (address : ℕ) → window.start ≤ address → address < window.end → mapped address ≡ true

abbrev pub window_at : List Window → ℕ → Window
window_at windows i = slice_index_or windows i (record { start = 0; end = 0; place = 0 })

pub record AreWindows (windows : List Window) (table : List Entry) (spans : List Span) (start end : ℕ) : Type 0 where
  pub long : length windows ≡ 256
  pub all : (i : ℕ) → i < 256 → IsWindow table (mapped_in spans start end) (window_at windows i)

-- the same, shut, so that it stays apart from what is known of a state
unfoldable pub HasWindows : List Window → List Entry → List Span → ℕ → ℕ → Type 0
HasWindows windows table spans start end = AreWindows windows table spans start end

pub HasWindows-prop : (windows : List Window) (table : List Entry) (spans : List Span) (start end : ℕ)
    → IsProp (HasWindows windows table spans start end)
unfolding HasWindows
HasWindows-prop windows table spans start end = hlevel (ℕ_set, le_prop, props)
