-- The smallest file with some text, constants and values (System V gABI, chapters 4 and 5).
use Rattle.std.specs.Prelude.{ℕ, ◌+◌, ◌*◌, List, [], ◌∷◌, ◌++◌, length}
use Rattle.std.specs.List.{flat_map}
use Rattle.byteorder.specs.Endian.{little_bytes}

abbrev pub halves : List ℕ → List ℕ
halves numbers = flat_map (little_bytes 2) numbers

abbrev pub words : List ℕ → List ℕ
words numbers = flat_map (little_bytes 4) numbers

-- where the text begins in the file, and at which address
abbrev pub text_offset : ℕ
text_offset = 116

abbrev pub text_address : ℕ
text_address = 0x10074

abbrev pub values_address : ℕ
values_address = 0x20000

-- what identifies the file: the magic number, 32 bits, little-endian, version 1
abbrev pub identification : List ℕ
identification = 0x7f ∷ 0x45 ∷ 0x4c ∷ 0x46 ∷ 1 ∷ 1 ∷ 1 ∷ 0 ∷ 0 ∷ 0 ∷ 0 ∷ 0 ∷ 0 ∷ 0 ∷ 0 ∷ 0 ∷ []

-- e_type, e_machine; e_version, e_entry, e_phoff, e_shoff, e_flags; e_ehsize, e_phentsize, e_phnum, e_shentsize,
-- e_shnum, e_shstrndx
abbrev pub file_header : ℕ → List ℕ
file_header section_table =
    identification ++ halves (2 ∷ 243 ∷ []) ++ words (1 ∷ text_address ∷ 52 ∷ section_table ∷ 0 ∷ [])
    ++ halves (52 ∷ 32 ∷ 2 ∷ 40 ∷ 4 ∷ 0 ∷ [])

-- a PT_LOAD whose memory all comes from the file: p_offset, p_vaddr, p_paddr, p_filesz, p_memsz, p_flags, p_align
abbrev pub load_header : (offset address size flags : ℕ) → List ℕ
load_header offset address size flags = words (1 ∷ offset ∷ address ∷ address ∷ size ∷ size ∷ flags ∷ 4 ∷ [])

-- sh_name, sh_type, sh_flags, sh_addr, sh_offset, sh_size, sh_link, sh_info, sh_addralign, sh_entsize
abbrev pub section : (kind flags address offset size : ℕ) → List ℕ
section kind flags address offset size =
    words (0 ∷ kind ∷ flags ∷ address ∷ offset ∷ size ∷ 0 ∷ 0 ∷ 0 ∷ 0 ∷ [])

-- the file header, and the headers of the segment of text and constants, and of that of the values
abbrev pub headers : (values_offset values_size : ℕ) → List ℕ
headers values_offset values_size =
    file_header (values_offset + values_size) ++ load_header 0 0x10000 values_offset 5
    ++ load_header values_offset values_address values_size 6

-- The section headers: an empty one, then text (SHT_PROGBITS, allocated and executable), constants (allocated), and
-- values (allocated and writable).
abbrev pub sections : (text_size constants_size values_size : ℕ) → List ℕ
sections text_size constants_size values_size =
    section 0 0 0 0 0 ++ section 1 6 text_address text_offset text_size
    ++ section 1 2 (0x10000 + (text_offset + text_size)) (text_offset + text_size) constants_size
    ++ section 1 3 values_address (text_offset + text_size + constants_size) values_size

-- Text and constants lie in one segment, readable and executable, with the file's headers before them. The values lie
-- in another, readable and writable.
unfoldable pub frame_of : (text constants values : List ℕ) → List ℕ
frame_of text constants values =
    headers (text_offset + 4 * length text + 4 * length constants) (4 * length values)
    ++ words text ++ words constants ++ words values
    ++ sections (4 * length text) (4 * length constants) (4 * length values)
