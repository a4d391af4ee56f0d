-- For private contracts: what tests of some of the rules answer.
use Rattle.std.specs.Prelude.{◌≢◌, ℕ, ◌+◌, ◌*◌, ◌≤◌, ◌⊎◌, List, length, Result, Ok, Err, Option, Some, None}
use Rattle.std.specs.Prelude.{if◌then◌else◌}
use Rattle.std.specs.List.{Contains}
use Rattle.ci_elf.specs.declared.faults.ElfFault.{ElfFault}
use Rattle.ci_elf.specs.declared.faults.ElfFault.TheVariants.{NoMemory}
use Rattle.ci_elf.specs.declared.segments.Segment.{Segment}
use Rattle.ci_elf.specs.Fields.{e_phoff, e_phnum, e_shoff, e_shnum, is_loadable}
use Rattle.ci_elf.specs.Executables.{segment_of}
use Rattle.ci_elf.specs.MemoryMap.{memory_top, stack_start, stack_end}
use Rattle.ci_elf.specs.Rules.{Rule, LiesIn, KeepsRules, BreaksFirst}

-- the file has its header and both tables, and is not too long
pub record HasTables (bytes : List ℕ) : Type 0 where
  pub header : 52 ≤ length bytes
  pub program_table : LiesIn bytes (e_phoff bytes) (32 * e_phnum bytes)
  pub section_table : LiesIn bytes (e_shoff bytes) (40 * e_shnum bytes)
  pub short : length bytes ≤ 268435456

-- A test of these rules: the file keeps them, or the fault is that of the first one that it breaks, or memory ran out.
abbrev pub IsTestOf : {T : Type 0} → List ℕ → List Rule → Result T ElfFault → Type 0
IsTestOf bytes list (Ok _) = KeepsRules bytes list
IsTestOf bytes list (Err fault) = fault ≢ NoMemory → BreaksFirst bytes list fault

-- segment n, if it is loadable and has memory
abbrev pub loadable_at : List ℕ → ℕ → Option Segment
loadable_at bytes n = if is_loadable bytes n then Some (segment_of bytes n) else None

-- the segment has its file bytes in its memory, below the top of memory and apart from the stack
pub record SegmentFits (segment : Segment) : Type 0 where
  pub filled : segment.file_size ≤ segment.memory_size
  pub below_top : segment.address + segment.memory_size ≤ memory_top
  pub off_stack : (segment.address + segment.memory_size ≤ stack_start) ⊎ (stack_end ≤ segment.address)

-- the segment begins at or before the address, and no other begins behind it and does so too
pub record IsLastBefore (segments : List Segment) (address : ℕ) (segment : Segment) : Type 0 where
  pub among : Contains segments segment
  pub before : segment.address ≤ address
  pub last : (other : Segment) → Contains segments other → other.address ≤ address → other.address ≤ segment.address
