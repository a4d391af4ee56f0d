-- The page of an address gets other bytes, where its number stands in the table.
use Rattle.std.proofs.Common.{◌≡◌, ℕ, ◌+◌, ◌-◌, ◌%◌, ◌/◌, ◌<◌, ◌≤◌, cond, eqb, List, [], length, get_or, Some, is_some, ap, sym, ◌∙◌}
use Rattle.std.specs.Ordering.{nat_cmp}
use Rattle.std.specs.FinMap as map
use Rattle.ci_region.proofs.MapLaws.{len-write}
use Rattle.ci_machine.specs.declared.pages.Entry.{Entry}
use Rattle.ci_machine.specs.declared.pages.Page.{Page}
use Rattle.ci_machine.specs.declared.pages.Pages.{Pages}
use Rattle.ci_machine.specs.Pages.{content, has, page_at, room}
use Rattle.ci_machine.specs.PageTables.{HasTable, IsPlace, byte_on, entry_at, page_in, written}
use Rattle.ci_machine.proofs.PageLaws.{entry_read, page_in_place, page_in-write, write_table}
use Rattle.ci_machine.proofs.ByteLaws.{overlaid, written_on, there_still}

module _ (pages : Pages) (address place : ℕ) (there : IsPlace pages.table.items (address / 4096) place)
    (entry : Entry) (read : entry ≡ get_or pages.table.items place entry)
    (page : Page) (was : map.get pages.frames.values entry.slot ≡ Some page) (bytes : List ℕ) where
  abbrev frames : map.FinMap nat_cmp Page
  frames = map.insert pages.frames.values entry.slot (record { bytes = bytes })

  listed : entry ≡ entry_at pages.table.items place
  listed = entry_read _ _ _ there.below read

  stood : page_at pages (address / 4096) ≡ Some page
  unfolding page_at HasTable
  stood =
      page_in_place _ _ pages.table_is (address / 4096) _ there
      ∙ sym (ap (λ (e : Entry). map.get pages.frames.values e.slot) listed) ∙ was

  wrote :
      (n : ℕ)
      → page_in pages.table.items frames n ≡ cond (eqb n (address / 4096)) (Some (record { bytes = bytes })) (page_at pages n)
  unfolding page_at HasTable
  wrote n = rw listed (page_in-write _ _ pages.table_is (address / 4096) _ there _ n)

  pub table_kept : HasTable pages.table.items frames
  unfolding HasTable
  table_kept = rw listed (write_table _ _ pages.table_is (address / 4096) _ there _)

  pub content_is :
      (row : List ℕ) → address % 4096 + length row ≤ 4096
      → ((j : ℕ) → j < 4096 → get_or bytes j 0 ≡ overlaid page.bytes (address % 4096) row j) → (x : ℕ)
      → byte_on (page_in pages.table.items frames (x / 4096)) (x % 4096) ≡ written (content pages) address row x
  unfolding content
  content_is row inside laid =
      written_on (page_at pages) (page_in pages.table.items frames) address page (record { bytes = bytes }) row stood wrote
      inside laid

  pub has_same : (n : ℕ) → is_some (page_in pages.table.items frames n) ≡ has pages n
  unfolding has
  has_same =
      there_still (page_at pages) (page_in pages.table.items frames) address page (record { bytes = bytes }) [] stood wrote

  pub room_same : pages.frames.capacity - map.len frames ≡ room pages
  unfolding room HasTable
  room_same =
      ap (λ n. pages.frames.capacity - n)
      (rw listed (len-write pages.frames.values _ _ (pages.table_is.live _ there.below)))
