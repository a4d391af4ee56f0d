-- What contracts see of a shelf and of the sinks in memory.
use Rattle.std.specs.Prelude.{ℕ, List, refl}
use Rattle.ci_io.specs.private.CallCodes.{calls_code}
use Rattle.ci_io.specs.CallLists.{Call}
use Rattle.std.specs.Coded.{Coded, code_by, coded×, coded_ℕ, coded_list}
use Rattle.std.specs.FinMap as map
use Rattle.ci_io.specs.Counts.{CallsMade}
use Rattle.ci_io.specs.Outcomes.{Files}

-- the files by name, the two counts of faults, and the calls of `read` and `write` together
pub record MemoryShelf : Type 0 where
  pub files : Files
  pub read_faults : ℕ
  pub write_faults : ℕ
  pub calls : CallsMade
  pub history : List Call

-- the bytes taken, and how many puts ran out of memory
pub record SureOutput : Type 0 where
  pub taken : List ℕ
  pub memory_faults : ℕ
  pub history : List Call

-- the same, the count of faults, and the calls of `put`
pub record MemoryOutput : Type 0 where
  pub taken : List ℕ
  pub faults : ℕ
  pub memory_faults : ℕ
  pub calls : CallsMade
  pub history : List Call

-- the files by name, and the calls
pub record SureFiles : Type 0 where
  pub files : Files
  pub history : List Call

-- how many reads and how many writes failed, and the calls
pub record SystemFiles : Type 0 where
  pub reads : ℕ
  pub writes : ℕ
  pub history : List Call

-- how many puts failed, and the calls
pub record SystemOutput : Type 0 where
  pub faults : ℕ
  pub history : List Call

-- each is stored as the tuple of its parts
abbrev pub memory_shelf_code : Coded MemoryShelf
memory_shelf_code =
    code_by (Files × (ℕ × (ℕ × (ℕ × (List ℕ × List Call)))))
    (coded× (map.code (coded_list coded_ℕ) (coded_list coded_ℕ))
    (coded× coded_ℕ (coded× coded_ℕ (coded× coded_ℕ (coded× (coded_list coded_ℕ) calls_code)))))
    (λ s. (s.files, (s.read_faults, (s.write_faults, (s.calls.made, (s.calls.failing, s.history))))))
    (λ p. record {
      files = p.0;
      read_faults = p.1.0;
      write_faults = p.1.1.0;
      calls = record { made = p.1.1.1.0; failing = p.1.1.1.1.0 };
      history = p.1.1.1.1.1;
    })
    (λ _. refl)

abbrev pub sure_files_code : Coded SureFiles
sure_files_code =
    code_by (Files × List Call) (coded× (map.code (coded_list coded_ℕ) (coded_list coded_ℕ)) calls_code)
    (λ s. (s.files, s.history)) (λ p. record { files = p.0; history = p.1 }) (λ _. refl)

abbrev pub system_files_code : Coded SystemFiles
system_files_code =
    code_by (ℕ × (ℕ × List Call)) (coded× coded_ℕ (coded× coded_ℕ calls_code))
    (λ s. (s.reads, (s.writes, s.history))) (λ p. record { reads = p.0; writes = p.1.0; history = p.1.1 }) (λ _. refl)

abbrev pub system_output_code : Coded SystemOutput
system_output_code =
    code_by (ℕ × List Call) (coded× coded_ℕ calls_code) (λ s. (s.faults, s.history))
    (λ p. record { faults = p.0; history = p.1 }) (λ _. refl)

abbrev pub sure_output_code : Coded SureOutput
sure_output_code =
    code_by (List ℕ × (ℕ × List Call)) (coded× (coded_list coded_ℕ) (coded× coded_ℕ calls_code))
    (λ s. (s.taken, (s.memory_faults, s.history)))
    (λ p. record { taken = p.0; memory_faults = p.1.0; history = p.1.1 })
    (λ _. refl)

abbrev pub memory_output_code : Coded MemoryOutput
memory_output_code =
    code_by (List ℕ × (ℕ × (ℕ × (ℕ × (List ℕ × List Call)))))
    (coded× (coded_list coded_ℕ)
    (coded× coded_ℕ (coded× coded_ℕ (coded× coded_ℕ (coded× (coded_list coded_ℕ) calls_code)))))
    (λ s. (s.taken, (s.faults, (s.memory_faults, (s.calls.made, (s.calls.failing, s.history))))))
    (λ p. record {
      taken = p.0;
      faults = p.1.0;
      memory_faults = p.1.1.0;
      calls = record { made = p.1.1.1.0; failing = p.1.1.1.1.0 };
      history = p.1.1.1.1.1;
    })
    (λ _. refl)
