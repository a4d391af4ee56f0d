-- For every reader: the refusals, each with its status and its fault line.
use Rattle.std.specs.Prelude.{ℕ, List, ◌++◌, codes}
use Rattle.std.specs.Borrow.{Bor}
use Rattle.std.specs.Fmt.{decimal}
use Rattle.ci_reading.specs.Lines.{line}
use Rattle.ci_reading.specs.Hex.{eight_hex_digits}
use Rattle.ci_elf.specs.declared.faults.ElfFault.{ElfFault}
use Rattle.ci_elf.specs.declared.faults.ElfFault.TheVariants as elf
use Rattle.ci_lat.specs.declared.faults.LatFault.{LatFault}
use Rattle.ci_lat.specs.declared.faults.LatFault.TheVariants as lat
use Rattle.ci_lat.specs.Keys.{key_name}
use Rattle.ci_log.specs.declared.faults.LogFault.{LogFault}
use Rattle.ci_log.specs.declared.faults.LogFault.TheVariants as log
use Rattle.ci_calls.specs.declared.refusals.Refusal.{Refusal}
use Rattle.ci_calls.specs.declared.refusals.Refusal.TheVariants.{Usage, Read, Write, Put, TooLarge, BadElf, BadTable}
use Rattle.ci_calls.specs.declared.refusals.Refusal.TheVariants.{Unsupported, TextTouched, BadUnits, BadLog, Rejected}
use Rattle.ci_calls.specs.declared.refusals.Refusal.TheVariants.{NoMemory, BadAsm, ManyGates, BadNets}

-- the name of a file, as words and refusals hold it
abbrev pub Name : Type 0
Name = Bor (List ℕ)

abbrev pub status_of : Refusal → ℕ
status_of Usage = 1
status_of (Read name) = 2
status_of (Write name) = 3
status_of Put = 3
status_of (TooLarge name) = 4
status_of (BadElf fault) = 5
status_of (BadTable fault) = 6
status_of (Unsupported position word) = 7
status_of (TextTouched pc address) = 8
status_of (BadUnits kind offset) = 9
status_of (BadLog fault) = 10
status_of (Rejected round leader item reason) = 11
status_of NoMemory = 12
status_of (BadAsm kind line column) = 13
status_of (ManyGates number gates) = 14
status_of (BadNets offset) = 15

-- a word and two numbers, or three
abbrev pub pair_text : List ℕ → ℕ → ℕ → List ℕ
pair_text word first second = word ++ codes " " ++ decimal first ++ codes " " ++ decimal second

abbrev pub numbers_text : List ℕ → ℕ → ℕ → ℕ → List ℕ
numbers_text word first second third =
    word ++ codes " " ++ decimal first ++ codes " " ++ decimal second ++ codes " " ++ decimal third

-- a word, and two words of 32 bits
abbrev pub words_text : List ℕ → ℕ → ℕ → List ℕ
words_text word first second = word ++ codes " " ++ eight_hex_digits first ++ codes " " ++ eight_hex_digits second

-- the number of the rule that a file breaks, and the fault's numbers, 0 where it has none
abbrev pub elf_fault_numbers : ElfFault → ℕ × ℕ × ℕ
elf_fault_numbers (elf.Short offset) = (1, offset, 0)
elf_fault_numbers elf.NotElf = (2, 0, 0)
elf_fault_numbers (elf.WrongKind offset value) = (3, offset, value)
elf_fault_numbers (elf.BadSegment n) = (4, n, 0)
elf_fault_numbers (elf.Overlap m n) = (5, m, n)
elf_fault_numbers (elf.SharedText m n) = (6, m, n)
elf_fault_numbers (elf.BadSection n) = (7, n, 0)
elf_fault_numbers elf.EntryNotText = (8, 0, 0)
elf_fault_numbers elf.TooLarge = (9, 0, 0)
elf_fault_numbers elf.NoMemory = (10, 0, 0)

abbrev pub elf_text : ElfFault → List ℕ
elf_text fault = let numbers = elf_fault_numbers fault in numbers_text (codes "elf") numbers.0 numbers.1 numbers.2

-- the number of what is wrong with a table, and the key, where there is one
abbrev pub table_text : LatFault → List ℕ
table_text lat.NotToml = codes "table 1"
table_text lat.UnknownKey = codes "table 2"
table_text (lat.OutOfRange key) = codes "table 3 " ++ key_name key
table_text (lat.PadTooLarge key) = codes "table 4 " ++ key_name key
table_text lat.NoMemory = codes "table 5"

-- the number of a fault of a log book, and its offset, 0 where it has none
abbrev pub log_fault_numbers : LogFault → ℕ × ℕ
log_fault_numbers log.BadHeader = (1, 0)
log_fault_numbers (log.BadItem offset) = (2, offset)
log_fault_numbers log.Unfinished = (3, 0)
log_fault_numbers (log.Trailing offset) = (4, offset)
log_fault_numbers log.NoMemory = (5, 0)

abbrev pub log_text : LogFault → List ℕ
log_text fault = let numbers = log_fault_numbers fault in pair_text (codes "log") numbers.0 numbers.1

-- the first wrong place of a book with modules and a new file
abbrev pub rejected_text : ℕ → ℕ → ℕ → ℕ → List ℕ
rejected_text round leader item reason =
    codes "rejected" ++ codes " " ++ decimal round ++ codes " " ++ eight_hex_digits leader ++ codes " " ++ decimal item
    ++ codes " " ++ decimal reason

-- the module up to which modules have too many gates, and how many they have
abbrev pub many_text : ℕ → ℕ → List ℕ
many_text number gates = pair_text (codes "many") number gates

-- what stands in the fault line behind the status
abbrev pub text_of : Refusal → List ℕ
text_of Usage = codes "usage"
text_of (Read name) = codes "read " ++ name.now
text_of (Write name) = codes "write " ++ name.now
text_of Put = codes "write -"
text_of (TooLarge name) = codes "too large " ++ name.now
text_of (BadElf fault) = elf_text fault
text_of (BadTable fault) = table_text fault
text_of (Unsupported position word) = words_text (codes "unsupported") position word
text_of (TextTouched pc address) = words_text (codes "text touched") pc address
text_of (BadUnits kind offset) = pair_text (codes "units") kind offset
text_of (BadLog fault) = log_text fault
text_of (Rejected round leader item reason) = rejected_text round leader item reason
text_of NoMemory = codes "no memory"
text_of (BadAsm kind line column) = numbers_text (codes "asm") kind line column
text_of (ManyGates number gates) = many_text number gates
text_of (BadNets offset) = codes "nets " ++ decimal offset

abbrev pub line_of : Refusal → List ℕ
line_of refusal = line (codes "fault " ++ decimal (status_of refusal) ++ codes " " ++ text_of refusal)
