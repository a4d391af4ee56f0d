-- What contracts see of pages: which there are, which byte stands at an address, and how many may still be added.
use Rattle.std.specs.Prelude.{ℕ, ◌-◌, ◌/◌, ◌%◌, Bool, Option, is_some}
use Rattle.ci_region.specs.BoundedMap.{used}
use Rattle.ci_machine.specs.declared.pages.Page.{Page}
use Rattle.ci_machine.specs.declared.pages.Pages.{Pages}
use Rattle.ci_machine.specs.PageTables.{page_in, byte_on}

unfoldable pub page_at : Pages → ℕ → Option Page
page_at pages number = page_in pages.table.items pages.frames.values number

-- the byte at an address, 0 where there is no page
unfoldable pub content : Pages → ℕ → ℕ
content pages address = byte_on (page_at pages (address / 4096)) (address % 4096)

-- the page of this number is there
unfoldable pub has : Pages → ℕ → Bool
has pages number = is_some (page_at pages number)

-- how many pages may still be added
unfoldable pub room : Pages → ℕ
room pages = pages.frames.capacity - used pages.frames
