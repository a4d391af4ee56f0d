-- For the contracts of ci_lat: what every latency table keeps.
use Rattle.std.specs.Prelude.{◌≡◌, ◌<◌, ◌≤◌, length, All, take}
use Rattle.ci_word.specs.declared.arithmetic.Class.{Class}
use Rattle.ci_lat.specs.Latencies.{Latencies, place}

-- the class has a delay
abbrev pub HasDelay : Class → Type 0
HasDelay c = place c < 8

-- What each latency table keeps. A no-op takes at most what a read of a hidden result takes, and at most what each
-- instruction of the first eight classes does, those with a delay.
pub record IsLatencyTable (table : Latencies) : Type 0 where
  pub rows_with_latency : length table.software ≡ 16
  pub rows_with_delay : length table.hardware ≡ 8
  pub minimum_read : 1 ≤ table.read
  pub maximum_read : table.read ≤ 1000
  pub pad_below_read : table.pad ≤ table.read
  pub minimum_latency : All (λ n. 1 ≤ n) table.software
  pub maximum_latency : All (λ n. n ≤ 1000) table.software
  pub pad_below_latency : All (λ n. table.pad ≤ n) (take 8 table.software)
  pub maximum_delay : All (λ n. n ≤ 100000) table.hardware
