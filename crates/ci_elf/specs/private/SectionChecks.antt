-- For private contracts: what is known of sections while they are tested.
use Rattle.std.specs.Prelude.{◌≡◌, ℕ, ◌+◌, ◌%◌, ◌<◌, ◌≤◌, List, Option, Some, None, if◌then◌else◌}
use Rattle.std.specs.List.{Contains}
use Rattle.ci_elf.specs.declared.segments.Segment.{Segment}
use Rattle.ci_elf.specs.declared.sections.Section.{Section}
use Rattle.ci_elf.specs.declared.sections.Surroundings.{Surroundings}
use Rattle.ci_elf.specs.Fields.{is_text, is_symbol_table, sh_addr, sh_offset, sh_size}
use Rattle.ci_elf.specs.Rules.{LiesIn}
use Rattle.ci_elf.specs.private.Parts.{IsCoverage, IsFirstMeeting, tables_of}

abbrev pub section_of : List ℕ → ℕ → Section
section_of bytes n = record { address = sh_addr bytes n; offset = sh_offset bytes n; size = sh_size bytes n }

abbrev pub text_section : List ℕ → ℕ → Option Section
text_section bytes n = if is_text bytes n then Some (section_of bytes n) else None

abbrev pub symbol_section : List ℕ → ℕ → Option Section
symbol_section bytes n = if is_symbol_table bytes n then Some (section_of bytes n) else None

-- the section lies in the segment's file part, at the place that its address says
pub record HoldsSection (segment : Segment) (section : Section) : Type 0 where
  pub from : segment.offset ≤ section.offset
  pub to : section.offset + section.size ≤ segment.offset + segment.file_size
  pub agrees : section.address + segment.offset ≡ segment.address + section.offset

-- segments whose memory doesn't overlap, and has their file bytes
pub record AreLaidOut (segments : List Segment) : Type 0 where
  pub filled : (s : Segment) → Contains segments s → s.file_size ≤ s.memory_size
  pub one :
      (s t : Segment) → Contains segments s → Contains segments t
      → s.address ≤ t.address → t.address < s.address + s.memory_size → s ≡ t

pub record AreSurroundings (bytes : List ℕ) (surroundings : Surroundings) : Type 0 where
  pub tables : IsCoverage (tables_of bytes) surroundings.tables.items
  pub meeting : IsFirstMeeting bytes surroundings.first_meeting

-- the section lies in the file, as whole entries of 16 bytes
pub record IsTable (bytes : List ℕ) (section : Section) (size : ℕ) : Type 0 where
  pub in_file : LiesIn bytes section.offset section.size
  pub entry_size : size ≡ 16
  pub whole : section.size % 16 ≡ 0
