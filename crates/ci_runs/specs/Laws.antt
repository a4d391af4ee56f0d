-- What holds of all folded files: laws, which the functions of `src/laws.rt` have as their contracts.
use Rattle.std.specs.Prelude.{List}
use Rattle.ci_lat.specs.Latencies.{Latencies as Table}
use Rattle.ci_machine.specs.Runs.{Latencies}
use Rattle.ci_rewrite.specs.RunLatencies.{AreOfTable}
use Rattle.ci_runs.specs.WholeRuns.{Rewriting, Saving, RunAlike, MeetAtLeaders, CostLess}
use Rattle.ci_runs.specs.FoldedFiles.{IsFoldedFile}

-- A folded file runs as the original does wherever that is tame for 256 steps more,
abbrev pub FoldedFilesRunAlike : Type 0
FoldedFilesRunAlike =
    (rewriting : Rewriting) (table : Table) (savings : List Saving) → IsFoldedFile rewriting table savings
    → RunAlike rewriting

-- meets it there at each listed leader,
abbrev pub FoldedFilesMeet : Type 0
FoldedFilesMeet =
    (rewriting : Rewriting) (table : Table) (savings : List Saving) → IsFoldedFile rewriting table savings
    → MeetAtLeaders rewriting

-- and costs less by what its cuts save where the original is tame and ends otherwise than by a refused access.
abbrev pub FoldedFilesCostLess : Type 0
FoldedFilesCostLess =
    (rewriting : Rewriting) (table : Table) (savings : List Saving) → IsFoldedFile rewriting table savings
    → (latencies : Latencies) → AreOfTable table latencies → CostLess rewriting latencies savings
