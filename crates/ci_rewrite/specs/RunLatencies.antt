-- Latencies of a run that come from a table, for everybody.
use Rattle.std.specs.Prelude.{◌≡◌}
use Rattle.ci_word.specs.declared.arithmetic.Class.{Class}
use Rattle.ci_lat.specs.Latencies.{Latencies as Table, latency_of}
use Rattle.ci_machine.specs.Runs.{Latencies}

-- the latencies of a run are those of the table, whatever the units take
pub record AreOfTable (table : Table) (latencies : Latencies) : Type 0 where
  pub of_class : (c : Class) → latencies.of_class c ≡ latency_of table c
  pub pad : latencies.pad ≡ table.pad
  pub read : latencies.read ≡ table.read
