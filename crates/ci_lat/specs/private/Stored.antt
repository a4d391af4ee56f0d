-- For private contracts: how a table's fields stand for the model of `Table`.
use Rattle.std.specs.Prelude.{ℕ, List}
use Rattle.ci_lat.specs.Latencies.{Latencies}

abbrev pub latencies : ℕ → ℕ → List ℕ → List ℕ → Latencies
latencies r p s h = record { read = r; pad = p; software = s; hardware = h }
