-- What contracts see of a machine's memory.
use Rattle.std.specs.Prelude.{ℕ, Bool, if◌then◌else◌}
use Rattle.std.specs.Prelude.{List, map, Option, Some, None}
use Rattle.ci_elf.specs.declared.ranges.Range.{Range}
use Rattle.ci_machine.specs.declared.memory.Memory.{Memory}
use Rattle.ci_machine.specs.Pages.{content}
use Rattle.ci_machine.specs.Layouts.{mapped_in}
use Rattle.ci_machine.specs.Programs.{Extent, Program, extent_of, lies_in}
use Rattle.ci_machine.specs.Accesses.{addresses, bytes_of_number, with_bytes}
use Rattle.ci_isa.specs.declared.instruction.Width.{Width}
use Rattle.ci_isa.specs.Effects.{width_bytes}

-- the byte at the address is mapped
unfoldable pub is_mapped : Memory → ℕ → Bool
is_mapped memory address = mapped_in memory.spans.spans.items memory.heap_start memory.heap_end address

-- the byte at each mapped address
unfoldable pub memory_of : Memory → ℕ → Option ℕ
memory_of memory address = if is_mapped memory address then Some (content memory.pages address) else None

-- the segments that were loaded
unfoldable pub segments_of : Memory → List Extent
segments_of memory = map extent_of memory.segments.items

-- the program whose segments they are
abbrev pub program_in : Memory → List Range → Program
program_in memory text = record { segments = segments_of memory; text = text }

-- memory where the heap ended and now ends
abbrev pub with_heap_moved : ℕ → ℕ → (ℕ → Option ℕ) → ℕ → Option ℕ
with_heap_moved old new memory address =
    if lies_in old new address then Some 0 else if lies_in new old address then None else memory address

-- memory with the low bytes of a number at an address, or as it is
abbrev pub with_number : (ℕ → Option ℕ) → ℕ → Width → ℕ → Bool → ℕ → Option ℕ
with_number memory address width value stored =
    if stored then with_bytes memory (addresses (width_bytes width) address) (bytes_of_number (width_bytes width) value)
    else memory
