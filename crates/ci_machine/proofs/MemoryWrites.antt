-- What a machine's memory is after bytes were written on its pages, and what it has at an address.
use Rattle.std.proofs.Common.{◌≡◌, ℕ, ◌+◌, ◌/◌, ◌^◌, ◌<◌, ◌≤◌, Bool, true, false, List, length, Option, Some, None, is_some}
use Rattle.std.proofs.Common.{refl, sym, ap, ◌∙◌, arith, cond, true≢false}
use Rattle.std.specs.Prelude.{nat_le}
use Rattle.std.proofs.lemmas.Bool.{le-leb}
use Rattle.std.proofs.lemmas.Bool.Decides.{nat_tests}
use Rattle.ci_isa.specs.declared.instruction.Width.{Width}
use Rattle.ci_isa.specs.declared.instruction.Width.TheVariants.{Byte, Half, Word}
use Rattle.ci_isa.specs.Effects.{width_bytes}
use Rattle.ci_machine.specs.declared.memory.Memory.{Memory}
use Rattle.ci_machine.specs.declared.pages.Pages.{Pages}
use Rattle.ci_machine.specs.Accesses.{addresses, bytes_at, with_bytes}
use Rattle.ci_machine.specs.Calls.{range_at}
use Rattle.ci_machine.specs.Layouts.{HasLayout, HasPages, IsPaged}
use Rattle.ci_machine.specs.Memories.{is_mapped, memory_of}
use Rattle.ci_machine.specs.Pages.{content, has, room}
use Rattle.ci_machine.specs.PageTables.{run_of, written}
use Rattle.ci_machine.proofs.AccessLaws.{bytes_at_mapped, mod_small}
use Rattle.ci_machine.specs.Programs.{lies_in}
use Rattle.ci_machine.specs.Spans.{in_spans}
use Rattle.ci_machine.proofs.MemoryLaws.{run_read, row_written, row_clean}
use Rattle.ci_machine.proofs.TestLaws.{by_test, either_first, taken, passed}

module _ (memory : Memory) where
  -- a mapped byte is on a page, or the heap's
  pub has_page : (x : ℕ) → is_mapped memory x ≡ true → lies_in memory.heap_start memory.heap_end x ≡ false → has memory.pages (x / 4096) ≡ true
  unfolding is_mapped HasPages
  has_page x is off = memory.paged.covered x (either_first (in_spans memory.spans.spans.items x) (lies_in memory.heap_start memory.heap_end x) is off)

  pub seen : (x : ℕ) → is_mapped memory x ≡ true → memory_of memory x ≡ Some (content memory.pages x)
  unfolding memory_of
  seen x is = taken _ _ _ is

  pub unseen : (x : ℕ) → is_mapped memory x ≡ false → memory_of memory x ≡ None
  unfolding memory_of
  unseen x none = passed _ _ _ none

  pub is_seen : (x : ℕ) → is_some (memory_of memory x) ≡ is_mapped memory x
  is_seen x = by_test (is_mapped memory x) (λ is. ap is_some (seen x is) ∙ sym is) (λ none. ap is_some (unseen x none) ∙ sym none)

  -- bytes side by side
  pub seen_run : (n a : ℕ) → a + n ≤ 2 ^ 32 → ((k : ℕ) → k < n → is_mapped memory (a + k) ≡ true)
      → bytes_at (memory_of memory) (addresses n a) ≡ Some (run_of (content memory.pages) n a)
  unfolding memory_of
  seen_run n a fits each = run_read (is_mapped memory) (content memory.pages) n a fits each

  pub seen_range : (n a : ℕ) → a + n ≤ 2 ^ 32 → ((k : ℕ) → k < n → is_mapped memory (a + k) ≡ true)
      → range_at (memory_of memory) a n ≡ Some (run_of (content memory.pages) n a)
  seen_range n a fits each =
      ap (λ test. cond test (bytes_at (memory_of memory) (addresses n a)) None) (le-leb (a + n) (2 ^ 32) fits)
      ∙ seen_run n a fits each

  pub mapped_run : (n a : ℕ) → a + n ≤ 2 ^ 32 → is_some (bytes_at (memory_of memory) (addresses n a)) ≡ true
      → (k : ℕ) → k < n → is_mapped memory (a + k) ≡ true
  mapped_run n a fits all k lt =
      sym (is_seen (a + k)) ∙ ap (λ x. is_some (memory_of memory x)) (sym (mod_small (a + k) (omega arith)))
      ∙ bytes_at_mapped (memory_of memory) n a k lt all

  module _ (new : Pages) (row : List ℕ) (a : ℕ) (fits : a + length row ≤ 2 ^ 32)
      (each : (k : ℕ) → k < length row → is_mapped memory (a + k) ≡ true)
      (wrote : content new ≡ written (content memory.pages) a row) where
    pub seen_written : (x : ℕ) → cond (is_mapped memory x) (Some (content new x)) None
        ≡ with_bytes (memory_of memory) (addresses (length row) a) row x
    unfolding memory_of
    seen_written x =
        ap (λ bytes. cond (is_mapped memory x) (Some (bytes x)) None) wrote
        ∙ row_written (is_mapped memory) (content memory.pages) row a fits each x

    pub paged_written : has new ≡ has memory.pages → room new ≡ room memory.pages
        → IsPaged new memory.spans.spans.items memory.heap_start memory.heap_end memory.loaded
    unfolding is_mapped HasLayout HasPages
    paged_written same rooms = record {
      covered = λ x is. ap (λ f. f (x / 4096)) same ∙ memory.paged.covered x is;
      clean = λ x none. ap (λ f. f x) wrote
          ∙ row_clean (is_mapped memory) (content memory.pages) row a fits each x none (memory.paged.clean x none);
      room = rw (same, rooms) memory.paged.room;
    }

-- what is mapped stays so where the memory is as it was
pub same_mapped : (old new : Memory) → memory_of new ≡ memory_of old → (x : ℕ) → is_mapped new x ≡ is_mapped old x
same_mapped old new same x = sym (is_seen new x) ∙ ap (λ memory. is_some (memory x)) same ∙ is_seen old x

-- a range that is mapped, by its parts
pub in_range : (memory : ℕ → Option ℕ) (a n : ℕ) → is_some (range_at memory a n) ≡ true
    → (a + n ≤ 2 ^ 32) × (is_some (bytes_at memory (addresses n a)) ≡ true)
in_range memory a n is = tested (nat_le (a + n) (2 ^ 32)) refl is
  where
    tested : (test : Bool) → nat_le (a + n) (2 ^ 32) ≡ test → is_some (cond test (bytes_at memory (addresses n a)) None) ≡ true
        → (a + n ≤ 2 ^ 32) × (is_some (bytes_at memory (addresses n a)) ≡ true)
    tested true e h = (grind (arith, nat_tests), h)
    tested false e h = absurd (true≢false (sym h))

-- an access has a byte
pub width_some : (width : Width) → 0 < width_bytes width
width_some Byte = omega arith
width_some Half = omega arith
width_some Word = omega arith
