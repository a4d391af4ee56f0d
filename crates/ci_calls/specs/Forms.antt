-- For every reader: what the bytes of a file have to be, a form for each kind of file.
use Rattle.std.specs.Prelude.{◌≡◌, ℕ, ⊤, ◌⊎◌, List, IsUtf8}
use Rattle.ci_asm.specs.Assembly.{IsAssembly, HasFault}
use Rattle.ci_elf.specs.Rules.{rules, KeepsRules, BreaksFirst}
use Rattle.ci_lat.specs.Latencies.{Latencies}
use Rattle.ci_lat.specs.Faults.{AreTable, HaveFault}
use Rattle.ci_log.specs.Books.{Book, Spells}
use Rattle.ci_log.specs.Faults.{HasFault as HasLogFault}
use Rattle.ci_netlist.specs.Faults.{IsBad}
use Rattle.ci_netlist.specs.Netlists.{Netlist}
use Rattle.ci_netlist.specs.Texts.{Spells as SpellsNets}
use Rattle.ci_verilog.specs.Modules.{Module}
use Rattle.ci_vread.specs.Rules.{HasFault as HasUnitFault}
use Rattle.ci_vread.specs.Spelling.{Spell}
use Rattle.ci_calls.specs.declared.refusals.Refusal.{Refusal}
use Rattle.ci_calls.specs.declared.refusals.Refusal.TheVariants.{BadElf, BadTable, BadUnits, BadLog, BadAsm, BadNets}

-- ---- assembler texts as bytes

-- the bytes are a text in UTF-8 that assembles to these words
pub record IsText (bytes words : List ℕ) : Type 0 where
  pub encoded : IsUtf8 bytes
  pub assembles : IsAssembly bytes words

-- The first fault of the bytes of a text. Where they are not UTF-8 it is of kind 1, at the first column of the first
-- line.
abbrev pub IsBadText : List ℕ → ℕ → ℕ → ℕ → Type 0
IsBadText bytes kind line column =
    (¬ (IsUtf8 bytes) × (kind ≡ 1) × (line ≡ 1) × (column ≡ 1)) ⊎ (IsUtf8 bytes × HasFault bytes kind line column)

-- ---- forms

pub data Form : Type 0 where
  any_bytes : Form
  assembler_text : Form
  executable_file : Form
  latency_table : Form
  verilog_units : Form
  log_book : Form
  gate_netlists : Form

abbrev pub IsWellFormed : Form → List ℕ → Type 0
IsWellFormed any_bytes bytes = ⊤
IsWellFormed assembler_text bytes = (words : List ℕ) × IsText bytes words
IsWellFormed executable_file bytes = KeepsRules bytes (rules bytes)
IsWellFormed latency_table bytes = (latencies : Latencies) × AreTable bytes latencies
IsWellFormed verilog_units bytes = (modules : List Module) × Spell bytes modules
IsWellFormed log_book bytes = (book : Book) × Spells bytes book
IsWellFormed gate_netlists bytes = (nets : List Netlist) × SpellsNets bytes nets

-- the refusal of bytes that are not of the form
abbrev pub IsMalformed : Form → List ℕ → Refusal → Type 0
IsMalformed assembler_text bytes (BadAsm kind line column) = IsBadText bytes kind line column
IsMalformed executable_file bytes (BadElf fault) = BreaksFirst bytes (rules bytes) fault
IsMalformed latency_table bytes (BadTable fault) = HaveFault bytes fault
IsMalformed verilog_units bytes (BadUnits kind offset) = HasUnitFault bytes kind offset
IsMalformed log_book bytes (BadLog fault) = HasLogFault bytes fault
IsMalformed gate_netlists bytes (BadNets offset) = IsBad bytes offset
IsMalformed form bytes refusal = ⊥
