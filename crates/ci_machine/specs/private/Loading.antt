-- For private contracts: segments that are loaded into memory.
use Rattle.std.specs.Prelude.{ℕ, ◌+◌, ◌-◌, ◌<◌, ◌≤◌, Bool, false, ◌||◌, if◌then◌else◌, List, [], ◌∷◌, length}
use Rattle.std.specs.Prelude.{slice_index}
use Rattle.std.specs.List.{count_by}
use Rattle.ci_elf.specs.declared.segments.Segment.{Segment}
use Rattle.ci_machine.specs.Programs.{lies_in}

-- the file has the bytes that the segment loads
abbrev pub IsInFile : List ℕ → Segment → Type 0
IsInFile bytes segment = 0 < segment.file_size → segment.offset + segment.file_size ≤ length bytes

-- the address lies in the memory of a segment
abbrev pub in_segments : List Segment → ℕ → Bool
in_segments [] address = false
in_segments (segment ∷ segments) address =
    lies_in segment.address (segment.address + segment.memory_size) address || in_segments segments address

-- how many segments have the address
abbrev pub holders : List Segment → ℕ → ℕ
holders segments address =
    count_by (λ segment. lies_in segment.address (segment.address + segment.memory_size) address) segments

-- the byte that a segment loads from the file to the address, 0 where none does
abbrev pub loaded_content : List ℕ → List Segment → ℕ → ℕ
loaded_content bytes [] address = 0
loaded_content bytes (segment ∷ segments) address =
    if lies_in segment.address (segment.address + segment.file_size) address
    then slice_index bytes (segment.offset + (address - segment.address))
    else loaded_content bytes segments address
