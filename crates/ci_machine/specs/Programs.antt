-- A program, where it lies in memory, and the state in which its run opens.
use Rattle.std.specs.Prelude.{ℕ, ◌+◌, ◌-◌, ◌*◌, ◌/◌, Bool, ◌==◌, ◌&&◌, nat_le, nat_lt, max, if◌then◌else◌, List, []}
use Rattle.std.specs.Prelude.{◌∷◌, map, Option, Some, None, slice_index}
use Rattle.ci_elf.specs.declared.ranges.Range.{Range}
use Rattle.ci_elf.specs.declared.segments.Segment.{Segment}
use Rattle.ci_elf.specs.Executables.{Executable}
use Rattle.ci_elf.specs.Executables as elf
use Rattle.ci_elf.specs.MemoryMap.{stack_start, stack_size, stack_end}
use Rattle.ci_machine.specs.Cores.{Core}

-- where a segment lies in memory
pub record Extent : Type 0 where
  pub address : ℕ
  pub size : ℕ

-- What a run needs to know of an executable file: where its segments lie, and its text.
pub record Program : Type 0 where
  pub segments : List Extent
  pub text : List Range

abbrev pub extent_of : Segment → Extent
extent_of segment = record { address = segment.address; size = segment.memory_size }

-- the program that the file is
abbrev pub loaded_program : Executable → Program
loaded_program file = record { segments = map extent_of file.segments; text = file.ranges }

-- the address is not below the start, and below the end
abbrev pub lies_in : ℕ → ℕ → ℕ → Bool
lies_in start end address = nat_le start address && nat_lt address end

-- the byte at the address is text
abbrev pub in_text : Program → ℕ → Bool
in_text program address = elf.in_text program.text address

-- ---- memory

-- The byte of a segment that is so far behind its first one: its part of the file, and zeros behind that.
abbrev pub loaded_byte : List ℕ → Segment → ℕ → ℕ
loaded_byte bytes segment distance =
    if nat_lt distance segment.file_size then slice_index bytes (segment.offset + distance) else 0

-- The memory of segments of a file with these bytes, the first one that has an address first, and of the stack.
abbrev pub loaded_memory : List ℕ → List Segment → ℕ → Option ℕ
loaded_memory bytes [] address = if lies_in stack_start stack_end address then Some 0 else None
loaded_memory bytes (segment ∷ segments) address =
    if lies_in segment.address (segment.address + segment.memory_size) address
    then Some (loaded_byte bytes segment (address - segment.address))
    else loaded_memory bytes segments address

-- how many bytes the segments and the stack take
abbrev pub loaded_size : List Extent → ℕ
loaded_size [] = stack_size
loaded_size (segment ∷ segments) = segment.size + loaded_size segments

abbrev pub maximum_end : List Extent → ℕ
maximum_end [] = 0
maximum_end (segment ∷ segments) = max (segment.address + segment.size) (maximum_end segments)

-- the heap begins behind the last segment, at a multiple of 16
abbrev pub heap_start : Program → ℕ
heap_start program = (maximum_end program.segments + 15) / 16 * 16

-- ---- states

pub record State : Type 0 where
  pub pc : ℕ
  pub core : Core

abbrev pub at_pc : ℕ → Core → State
at_pc pc core = record { pc = pc; core = core }

-- the state in which a run of the file on this input opens, with the last multiple of 16 in the stack in x2
abbrev pub opening : Executable → List ℕ → State
opening file input = record {
  pc = file.entry;
  core = record {
    registers = λ r. if r == 2 then stack_end - 16 else 0;
    memory = loaded_memory file.bytes file.segments;
    heap_end = heap_start (loaded_program file);
    input = input;
    output = [];
  };
}
