-- The rules that an executable file keeps, in the order in which they are tested, and the fault of each.
use Rattle.std.specs.Prelude.{◌≡◌, ◌≢◌, ℕ, ◌+◌, ◌*◌, ◌%◌, ◌<◌, ◌≤◌, List, [], ◌∷◌, ◌++◌, length, take, Result, Ok, Err}
use Rattle.std.specs.Prelude.{IsTrue}
use Rattle.std.specs.List.{AllByRecursion, sum_by}
use Rattle.ci_elf.specs.declared.faults.ElfFault.{ElfFault}
use Rattle.ci_elf.specs.declared.faults.ElfFault.TheVariants.{Short, NotElf, WrongKind, BadSegment, Overlap, SharedText}
use Rattle.ci_elf.specs.declared.faults.ElfFault.TheVariants.{BadSection, EntryNotText, TooLarge, NoMemory}
use Rattle.ci_elf.specs.Fields.{field, e_entry, e_phoff, e_shoff, e_flags, e_phentsize, e_phnum, e_shentsize, e_shnum}
use Rattle.ci_elf.specs.Fields.{program_header, p_type, p_offset, p_vaddr, p_filesz, p_memsz, is_loadable, sh_addr}
use Rattle.ci_elf.specs.Fields.{sh_offset, sh_size, sh_entsize, is_symbol_table, is_text}
use Rattle.ci_reading.specs.Broken.{IsFirstBroken, each_below}
use Rattle.ci_elf.specs.Executables.{Executable, IsImageOf, segments_of, ranges_of, IsTextWord}
use Rattle.ci_elf.specs.MemoryMap.{memory_top, stack_start, stack_size, most_memory}

-- ---- parts of a file, and of memory

-- x is one of the `size` places from `start` on
abbrev pub Within : ℕ → ℕ → ℕ → Type 0
Within start size x = (start ≤ x) × (x < start + size)

-- the `size` places from `start` on and the `other_size` from `other` on share none
abbrev pub Apart : ℕ → ℕ → ℕ → ℕ → Type 0
Apart start size other other_size = (x : ℕ) → Within start size x → ¬ Within other other_size x

-- Each of the `size` bytes at `offset` is a byte of the file. A part of size 0 lies in it wherever it is.
abbrev pub LiesIn : List ℕ → ℕ → ℕ → Type 0
LiesIn bytes offset size = 0 < size → offset + size ≤ length bytes

-- ---- the rules

-- numbers are those of the headers, from 0
pub data Rule : Type 0 where
  HasFileHeader : Rule
  HasMagic : Rule
  FieldIs : (width offset value : ℕ) → Rule
  HasNoCompressedCode : Rule
  HasProgramEntrySize : Rule
  HasSectionEntrySize : Rule
  HasProgramTable : Rule
  HasSectionTable : Rule
  NamesNoInterpreter : (n : ℕ) → Rule
  HasFilePart : (n : ℕ) → Rule
  IsPlaced : (n : ℕ) → Rule
  MemoryIsApart : (m n : ℕ) → Rule
  MemoryIsBounded : Rule
  HasSymbols : (n : ℕ) → Rule
  TextIsLoaded : (n : ℕ) → Rule
  TextIsAlone : (n : ℕ) → Rule
  TextIsUnshared : (m n : ℕ) → Rule
  TextIsBounded : Rule
  EntryIsText : Rule

-- the loadable segment n has its file bytes in its memory, below the top of memory and apart from the stack
pub record FitsMemory (bytes : List ℕ) (n : ℕ) : Type 0 where
  pub filled : p_filesz bytes n ≤ p_memsz bytes n
  pub below_top : p_vaddr bytes n + p_memsz bytes n ≤ memory_top
  pub off_stack : Apart (p_vaddr bytes n) (p_memsz bytes n) stack_start stack_size

-- section n lies in the file, as entries of 16 bytes
pub record IsSymbolTable (bytes : List ℕ) (n : ℕ) : Type 0 where
  pub in_file : LiesIn bytes (sh_offset bytes n) (sh_size bytes n)
  pub entry_size : sh_entsize bytes n ≡ 16
  pub whole : sh_size bytes n % 16 ≡ 0

-- Section n lies in the file part of the loadable segment k, and there sh_addr - p_vaddr is sh_offset - p_offset.
pub record IsLoadedBy (bytes : List ℕ) (k n : ℕ) : Type 0 where
  pub exists : k < e_phnum bytes
  pub loadable : IsTrue (is_loadable bytes k)
  pub from : p_offset bytes k ≤ sh_offset bytes n
  pub to : sh_offset bytes n + sh_size bytes n ≤ p_offset bytes k + p_filesz bytes k
  pub agrees : sh_addr bytes n + p_offset bytes k ≡ p_vaddr bytes k + sh_offset bytes n

-- the file bytes of section n share none with the `size` bytes at `offset`
abbrev pub IsApartFrom : List ℕ → ℕ → ℕ → ℕ → Type 0
IsApartFrom bytes n offset size = Apart (sh_offset bytes n) (sh_size bytes n) offset size

-- the file bytes of section n meet neither headers, nor a symbol table, nor the text of an earlier section
pub record IsAlone (bytes : List ℕ) (n : ℕ) : Type 0 where
  pub file_header : IsApartFrom bytes n 0 52
  pub program_table : IsApartFrom bytes n (e_phoff bytes) (32 * e_phnum bytes)
  pub section_table : IsApartFrom bytes n (e_shoff bytes) (40 * e_shnum bytes)
  pub symbols :
      (k : ℕ) → k < e_shnum bytes → IsTrue (is_symbol_table bytes k)
      → IsApartFrom bytes n (sh_offset bytes k) (sh_size bytes k)
  pub texts :
      (k : ℕ) → k < n → IsTrue (is_text bytes k) → IsApartFrom bytes n (sh_offset bytes k) (sh_size bytes k)

-- what each rule says of the bytes of a file
abbrev pub Holds : List ℕ → Rule → Type 0
Holds bytes HasFileHeader = 52 ≤ length bytes
Holds bytes HasMagic = take 4 bytes ≡ 0x7f ∷ 0x45 ∷ 0x4c ∷ 0x46 ∷ []
Holds bytes (FieldIs width offset value) = field width offset bytes ≡ value
Holds bytes HasNoCompressedCode = e_flags bytes % 2 ≡ 0
Holds bytes HasProgramEntrySize = e_phnum bytes ≢ 0 → e_phentsize bytes ≡ 32
Holds bytes HasSectionEntrySize = e_shnum bytes ≢ 0 → e_shentsize bytes ≡ 40
Holds bytes HasProgramTable = LiesIn bytes (e_phoff bytes) (32 * e_phnum bytes)
Holds bytes HasSectionTable = LiesIn bytes (e_shoff bytes) (40 * e_shnum bytes)
Holds bytes (NamesNoInterpreter n) = p_type bytes n ≢ 3
Holds bytes (HasFilePart n) = IsTrue (is_loadable bytes n) → LiesIn bytes (p_offset bytes n) (p_filesz bytes n)
Holds bytes (IsPlaced n) = IsTrue (is_loadable bytes n) → FitsMemory bytes n
Holds bytes (MemoryIsApart m n) =
    IsTrue (is_loadable bytes m) → IsTrue (is_loadable bytes n)
    → Apart (p_vaddr bytes m) (p_memsz bytes m) (p_vaddr bytes n) (p_memsz bytes n)
Holds bytes MemoryIsBounded = sum_by (λ segment. segment.memory_size) (segments_of bytes) + stack_size ≤ most_memory
Holds bytes (HasSymbols n) = IsTrue (is_symbol_table bytes n) → IsSymbolTable bytes n
Holds bytes (TextIsLoaded n) = IsTrue (is_text bytes n) → (k : ℕ) × IsLoadedBy bytes k n
Holds bytes (TextIsAlone n) = IsTrue (is_text bytes n) → IsAlone bytes n
Holds bytes (TextIsUnshared m n) =
    IsTrue (is_loadable bytes m) → IsTrue (is_loadable bytes n)
    → (t : ℕ) → t < e_shnum bytes → IsTrue (is_text bytes t)
    → (x : ℕ) → Within (sh_offset bytes t) (sh_size bytes t) x
    → Within (p_offset bytes m) (p_filesz bytes m) x → ¬ Within (p_offset bytes n) (p_filesz bytes n) x
Holds bytes TextIsBounded = sum_by (λ range. range.words) (ranges_of bytes) ≤ 262144
Holds bytes EntryIsText = IsTextWord (ranges_of bytes) (e_entry bytes)

-- the fault of a file that breaks the rule
abbrev pub fault_of : List ℕ → Rule → ElfFault
fault_of bytes HasFileHeader = Short 0
fault_of bytes HasMagic = NotElf
fault_of bytes (FieldIs width offset value) = WrongKind offset (field width offset bytes)
fault_of bytes HasNoCompressedCode = WrongKind 36 (e_flags bytes)
fault_of bytes HasProgramEntrySize = WrongKind 42 (e_phentsize bytes)
fault_of bytes HasSectionEntrySize = WrongKind 46 (e_shentsize bytes)
fault_of bytes HasProgramTable = Short (e_phoff bytes)
fault_of bytes HasSectionTable = Short (e_shoff bytes)
fault_of bytes (NamesNoInterpreter n) = WrongKind (program_header bytes n) (p_type bytes n)
fault_of bytes (HasFilePart n) = Short (p_offset bytes n)
fault_of bytes (IsPlaced n) = BadSegment n
fault_of bytes (MemoryIsApart m n) = Overlap m n
fault_of bytes MemoryIsBounded = TooLarge
fault_of bytes (HasSymbols n) = BadSection n
fault_of bytes (TextIsLoaded n) = BadSection n
fault_of bytes (TextIsAlone n) = BadSection n
fault_of bytes (TextIsUnshared m n) = SharedText m n
fault_of bytes TextIsBounded = TooLarge
fault_of bytes EntryIsText = EntryNotText

-- ---- the rules in their order

abbrev pub file_header_rules : List Rule
file_header_rules = HasFileHeader ∷ HasMagic ∷ []

-- the class is 32 bits, the data little-endian, the version 1; ET_EXEC, EM_RISCV, version 1
abbrev pub kind_rules : List Rule
kind_rules =
    FieldIs 1 4 1 ∷ FieldIs 1 5 1 ∷ FieldIs 1 6 1 ∷ FieldIs 2 16 2 ∷ FieldIs 2 18 243 ∷ FieldIs 4 20 1
    ∷ HasNoCompressedCode ∷ HasProgramEntrySize ∷ HasSectionEntrySize ∷ []

abbrev pub table_rules : List Rule
table_rules = HasProgramTable ∷ HasSectionTable ∷ []

abbrev pub segment_rules : List ℕ → List Rule
segment_rules bytes = each_below (e_phnum bytes) (λ n. NamesNoInterpreter n ∷ HasFilePart n ∷ IsPlaced n ∷ [])

abbrev pub memory_rules : List ℕ → List Rule
memory_rules bytes = each_below (e_phnum bytes) (λ n. each_below n (λ m. MemoryIsApart m n ∷ []))

abbrev pub section_rules : List ℕ → List Rule
section_rules bytes = each_below (e_shnum bytes) (λ n. HasSymbols n ∷ TextIsLoaded n ∷ TextIsAlone n ∷ [])

abbrev pub sharing_rules : List ℕ → List Rule
sharing_rules bytes = each_below (e_phnum bytes) (λ n. each_below n (λ m. TextIsUnshared m n ∷ []))

abbrev pub rules : List ℕ → List Rule
rules bytes =
    file_header_rules ++ (kind_rules ++ (table_rules ++ (segment_rules bytes ++ (memory_rules bytes ++ (MemoryIsBounded
    ∷ section_rules bytes ++ (sharing_rules bytes ++ (TextIsBounded ∷ EntryIsText ∷ [])))))))

-- ---- what reading a file answers

abbrev pub KeepsRules : List ℕ → List Rule → Type 0
KeepsRules bytes list = AllByRecursion (Holds bytes) list

-- the file breaks the first rule of the list that it breaks with this fault
abbrev pub BreaksFirst : List ℕ → List Rule → ElfFault → Type 0
BreaksFirst bytes list fault = (rule : Rule) × IsFirstBroken (Holds bytes) list rule × (fault ≡ fault_of bytes rule)

-- the image of a file that keeps all rules, or the fault of the first one that it breaks, or memory ran out
abbrev pub IsReadAs : List ℕ → Result Executable ElfFault → Type 0
IsReadAs bytes (Ok image) = KeepsRules bytes (rules bytes) × IsImageOf bytes image
IsReadAs bytes (Err fault) = fault ≢ NoMemory → BreaksFirst bytes (rules bytes) fault
