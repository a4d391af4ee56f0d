-- For every reader: the files that several commands read, also those that an option may name, each with its limit and
-- its form.
use Rattle.std.specs.Prelude.{◌≡◌, ℕ, ⊤, List, [], ◌∷◌, Option, Some, None, is_some, unwrap_or}
use Rattle.ci_lat.specs.Latencies.{Latencies, usual}
use Rattle.ci_lat.specs.Faults.{AreTable}
use Rattle.ci_verilog.specs.Modules.{Module}
use Rattle.ci_vread.specs.Spelling.{Spell}
use Rattle.ci_calls.specs.Forms.{any_bytes, executable_file, gate_netlists, latency_table, log_book, verilog_units}
use Rattle.ci_calls.specs.Inputs.{Input}

abbrev pub executable_input : List ℕ → Input
executable_input name = record { name = name; limit = 16777216; form = executable_file }

abbrev pub table_input : List ℕ → Input
table_input name = record { name = name; limit = 65536; form = latency_table }

-- the modules of units
abbrev pub units_input : List ℕ → Input
units_input name = record { name = name; limit = 4194304; form = verilog_units }

-- a log book
abbrev pub book_input : List ℕ → Input
book_input name = record { name = name; limit = 268435456; form = log_book }

-- netlists
abbrev pub nets_input : List ℕ → Input
nets_input name = record { name = name; limit = 268435456; form = gate_netlists }

-- the new file of a choice, which may hold anything
abbrev pub new_file_input : List ℕ → Input
new_file_input name = record { name = name; limit = 16777216; form = any_bytes }

-- the input of a program that is run
abbrev pub program_input : List ℕ → Input
program_input name = record { name = name; limit = 16777216; form = any_bytes }

-- ---- files that an option names, where it is given

-- the file that is read, if there is one
abbrev pub optional_input : (List ℕ → Input) → Option (List ℕ) → List Input
optional_input input None = []
optional_input input (Some name) = input name ∷ []

-- its bytes, as they stand among those of the files that are read
abbrev pub optional_bytes : Option (List ℕ) → List (List ℕ)
optional_bytes None = []
optional_bytes (Some bytes) = bytes ∷ []

-- a file is read exactly where a name is given
abbrev pub AreGiven : Option (List ℕ) → Option (List ℕ) → Type 0
AreGiven name bytes = is_some bytes ≡ is_some name

-- the latencies of the file, or the usual ones where there is none
abbrev pub AreLatencies : Option (List ℕ) → Latencies → Type 0
AreLatencies None latencies = latencies ≡ usual
AreLatencies (Some bytes) latencies = AreTable bytes latencies

-- the modules that the file spells, or none at all where there is no file
abbrev pub AreModules : Option (List ℕ) → Option (List Module) → Type 0
AreModules None None = ⊤
AreModules (Some bytes) (Some modules) = Spell bytes modules
AreModules bytes modules = ⊥

-- the bytes that a program may read, of which there are none where there is no file
abbrev pub input_bytes : Option (List ℕ) → List ℕ
input_bytes bytes = unwrap_or bytes []
