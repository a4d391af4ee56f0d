-- The fields of an executable file, under the names of the System V gABI: chapter 4 ("ELF Header", "Section Header",
-- "Symbol Table Entry") and chapter 5 ("Program Header"). Numbers are little-endian, and what lies behind the file's
-- end reads as 0.
use Rattle.std.specs.Prelude.{ℕ, ◌+◌, ◌*◌, ◌==◌, ◌&&◌, Bool, List, bit_and, nat_lt}
use Rattle.byteorder.specs.Endian.{little_from}

-- the number in the `width` bytes at `offset`
unfoldable pub field : ℕ → ℕ → List ℕ → ℕ
field width offset bytes = little_from offset width bytes

-- ---- the file header

unfoldable pub e_entry : List ℕ → ℕ
e_entry bytes = field 4 24 bytes

unfoldable pub e_phoff : List ℕ → ℕ
e_phoff bytes = field 4 28 bytes

unfoldable pub e_shoff : List ℕ → ℕ
e_shoff bytes = field 4 32 bytes

unfoldable pub e_flags : List ℕ → ℕ
e_flags bytes = field 4 36 bytes

unfoldable pub e_phentsize : List ℕ → ℕ
e_phentsize bytes = field 2 42 bytes

unfoldable pub e_phnum : List ℕ → ℕ
e_phnum bytes = field 2 44 bytes

unfoldable pub e_shentsize : List ℕ → ℕ
e_shentsize bytes = field 2 46 bytes

unfoldable pub e_shnum : List ℕ → ℕ
e_shnum bytes = field 2 48 bytes

-- ---- program header n

-- where program header n begins
abbrev pub program_header : List ℕ → ℕ → ℕ
program_header bytes n = e_phoff bytes + 32 * n

unfoldable pub p_type : List ℕ → ℕ → ℕ
p_type bytes n = field 4 (program_header bytes n) bytes

unfoldable pub p_offset : List ℕ → ℕ → ℕ
p_offset bytes n = field 4 (program_header bytes n + 4) bytes

unfoldable pub p_vaddr : List ℕ → ℕ → ℕ
p_vaddr bytes n = field 4 (program_header bytes n + 8) bytes

unfoldable pub p_filesz : List ℕ → ℕ → ℕ
p_filesz bytes n = field 4 (program_header bytes n + 16) bytes

unfoldable pub p_memsz : List ℕ → ℕ → ℕ
p_memsz bytes n = field 4 (program_header bytes n + 20) bytes

-- header n is a loadable segment (PT_LOAD, 1) that has memory
unfoldable pub is_loadable : List ℕ → ℕ → Bool
is_loadable bytes n = (p_type bytes n == 1) && nat_lt 0 (p_memsz bytes n)

-- ---- section header n

-- where section header n begins
abbrev pub section_header : List ℕ → ℕ → ℕ
section_header bytes n = e_shoff bytes + 40 * n

unfoldable pub sh_type : List ℕ → ℕ → ℕ
sh_type bytes n = field 4 (section_header bytes n + 4) bytes

unfoldable pub sh_flags : List ℕ → ℕ → ℕ
sh_flags bytes n = field 4 (section_header bytes n + 8) bytes

unfoldable pub sh_addr : List ℕ → ℕ → ℕ
sh_addr bytes n = field 4 (section_header bytes n + 12) bytes

unfoldable pub sh_offset : List ℕ → ℕ → ℕ
sh_offset bytes n = field 4 (section_header bytes n + 16) bytes

unfoldable pub sh_size : List ℕ → ℕ → ℕ
sh_size bytes n = field 4 (section_header bytes n + 20) bytes

unfoldable pub sh_entsize : List ℕ → ℕ → ℕ
sh_entsize bytes n = field 4 (section_header bytes n + 36) bytes

-- section n is a symbol table (SHT_SYMTAB, 2)
unfoldable pub is_symbol_table : List ℕ → ℕ → Bool
is_symbol_table bytes n = sh_type bytes n == 2

-- Section n is a text section: SHT_PROGBITS (1), with SHF_ALLOC (2) and SHF_EXECINSTR (4), and not empty.
unfoldable pub is_text : List ℕ → ℕ → Bool
is_text bytes n = (sh_type bytes n == 1) && ((bit_and (sh_flags bytes n) 6 == 6) && nat_lt 0 (sh_size bytes n))

-- ---- entry k of the symbol table that section n is

unfoldable pub st_value : List ℕ → ℕ → ℕ → ℕ
st_value bytes n k = field 4 (sh_offset bytes n + 16 * k + 4) bytes
