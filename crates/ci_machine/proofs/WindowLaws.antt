-- Windows: what an access that lies in one meets, and windows that are made, put in and forgotten.
use Rattle.std.proofs.Common.{◌≡◌, ℕ, ◌+◌, ◌-◌, ◌/◌, ◌%◌, ◌<◌, ◌≤◌, inl, inr, Bool, true, List, set, replicate, max, min}
use Rattle.std.proofs.Common.{◌||◌, refl, sym, ap, subst, ◌∙◌, arith}
use Rattle.std.proofs.lemmas.Bool.{cases_eq}
use Rattle.std.proofs.lemmas.List.{get_or-set_same, get_or-set_other, length-set, length-replicate, get_or-replicate}
use Rattle.ci_machine.specs.declared.memory.Memory.{Memory}
use Rattle.ci_machine.specs.declared.pages.Entry.{Entry}
use Rattle.ci_machine.specs.declared.spans.Span.{Span}
use Rattle.ci_machine.specs.declared.windows.Window.{Window}
use Rattle.ci_machine.specs.Layouts.{mapped_in}
use Rattle.ci_machine.specs.PageTables.{IsPlace}
use Rattle.ci_machine.specs.Programs.{lies_in}
use Rattle.ci_machine.specs.Windows.{AreWindows, HasWindows, IsWindow, window_at}
use Rattle.ci_machine.specs.Spans.{in_spans}
use Rattle.ci_machine.proofs.TestLaws.{by_test, bounds-lies_in, lies_in-bounds, either_second, or_second}

-- ---- an access that lies in a window

module _ (table : List Entry) (mapped : ℕ → Bool) (window : Window) (is : IsWindow table mapped window) (a n : ℕ) (some : 0 < n)
    (from : window.start ≤ a) (to : a + n ≤ window.end) where
  pub access_there : IsPlace table (a / 4096) window.place
  access_there =
      let number : window.start / 4096 ≡ a / 4096 = omega (arith, is.on_page) in
      record { below = is.placed (omega arith); here = is.numbered (omega arith) ∙ number }

  pub access_inside : a % 4096 + n ≤ 4096
  access_inside = omega (arith, is.on_page)

  pub access_mapped : (k : ℕ) → k < n → mapped (a + k) ≡ true
  access_mapped k lt = is.each (a + k) (omega arith) (omega arith)

-- ---- one window

pub no_window : (table : List Entry) (mapped : ℕ → Bool) → IsWindow table mapped (record { start = 0; end = 0; place = 0 })
no_window table mapped = record {
  placed = λ lt. absurd (omega arith);
  numbered = λ lt. absurd (omega arith);
  on_page = omega arith;
  each = λ x low high. absurd (omega arith);
}

-- the part on one page of addresses that are mapped
pub part_on_page : (table : List Entry) (mapped : ℕ → Bool) (span : Span) (a base place : ℕ)
    → ((x : ℕ) → lies_in span.start span.end x ≡ true → mapped x ≡ true) → base ≡ a - a % 4096 → IsPlace table (a / 4096) place
    → IsWindow table mapped (record { start = max span.start base; end = base + min (span.end - base) 4096; place = place })
part_on_page table mapped span a base place all begins there = record {
  placed = λ lt. there.below;
  numbered = λ lt. there.here ∙ same lt;
  on_page = omega arith;
  each = λ x low high. all x (bounds-lies_in span.start span.end x (omega arith) (omega arith));
}
  where
    same : max span.start base < base + min (span.end - base) 4096 → a / 4096 ≡ max span.start base / 4096
    same lt = omega arith

-- more addresses are mapped
wider : (table : List Entry) (mapped more : ℕ → Bool) (window : Window) → ((x : ℕ) → mapped x ≡ true → more x ≡ true)
    → IsWindow table mapped window → IsWindow table more window
wider table mapped more window rises is = record {
  placed = is.placed;
  numbered = is.numbered;
  on_page = is.on_page;
  each = λ x low high. rises x (is.each x low high);
}

-- ---- all windows

-- the heap's end moves up
pub windows_up : (table : List Entry) (spans : List Span) (windows : List Window) (start old end : ℕ) → old ≤ end
    → AreWindows windows table spans start old → AreWindows windows table spans start end
windows_up table spans windows start old end up were = record {
  long = were.long;
  all = λ i lt. wider table (mapped_in spans start old) (mapped_in spans start end) (window_at windows i) still (were.all i lt);
}
  where
    still : (x : ℕ) → mapped_in spans start old x ≡ true → mapped_in spans start end x ≡ true
    still x is = by_test (in_spans spans x)
        (λ there. ap (λ b. b || lies_in start end x) there)
        (λ none. let bounds = lies_in-bounds start old x (or_second (in_spans spans x) (lies_in start old x) is none) in
        ap (λ b. in_spans spans x || b) (bounds-lies_in start end x bounds.0 (omega (arith, bounds.1))) ∙ either_second (in_spans spans x) true refl)

module _ (table : List Entry) (spans : List Span) (start end : ℕ) where
  pub no_windows : (window : Window) → window ≡ record { start = 0; end = 0; place = 0 }
      → AreWindows (replicate 256 window) table spans start end
  no_windows window none = record {
    long = length-replicate 256 window;
    all = λ i lt. subst (IsWindow table (mapped_in spans start end)) (sym (get_or-replicate 256 i window _ lt ∙ none)) (no_window table (mapped_in spans start end));
  }

  pub window_set : (windows : List Window) (i : ℕ) (window : Window) → AreWindows windows table spans start end
      → IsWindow table (mapped_in spans start end) window → AreWindows (set windows i window) table spans start end
  window_set windows i window were is = record {
    long = length-set windows i window ∙ were.long;
    all = λ j lt. elim (cases_eq j i) [
      | inl same ↦ subst (IsWindow table (mapped_in spans start end))
          (sym (ap (λ k. window_at (set windows i window) k) same ∙ get_or-set_same windows i window _ (omega (arith, were.long)))) is
      | inr apart ↦ subst (IsWindow table (mapped_in spans start end)) (sym (get_or-set_other windows i j window _ apart)) (were.all j lt)
    ];
  }

-- the table is as it was
pub still_seen : (memory : Memory) (table : List Entry) → table ≡ memory.pages.table.items
    → AreWindows memory.windows table memory.spans.spans.items memory.heap_start memory.heap_end
unfolding HasWindows
still_seen memory table same =
    subst (λ t. AreWindows memory.windows t memory.spans.spans.items memory.heap_start memory.heap_end) (sym same) memory.seen
