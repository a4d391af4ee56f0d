-- For every reader: what instructions take by a latency table.
use Rattle.std.specs.Prelude.{ℕ}
use Rattle.ci_lat.specs.Latencies.{Latencies as Table, latency_of}
use Rattle.ci_machine.specs.Runs.{Latencies}

-- the latencies of a table; a plain machine has no units
abbrev pub latencies_of : Table → Latencies
latencies_of table = record { of_class = latency_of table; pad = table.pad; read = table.read; of_unit = λ _. 0 }

-- the same on a machine whose units take these cycles
abbrev pub latencies_on : Table → (ℕ → ℕ) → Latencies
latencies_on table cycles = record (latencies_of table) { of_unit = cycles }
