-- A folded file runs as the original does.
use Rattle.ci_runs.specs.Laws.{FoldedFilesRunAlike, FoldedFilesMeet, FoldedFilesCostLess}
use Rattle.ci_runs.proofs.FileCrossings.{are_crossed, saves_at_leaders}
use Rattle.ci_runs.proofs.WholeRuns.{costs_less, fronts_meet, runs_alike}

-- it puts the same output, and comes to the same end,
pub files_run_alike : FoldedFilesRunAlike
files_run_alike rewriting table savings is plain extended input n machines =
    runs_alike rewriting plain extended input machines
    (are_crossed rewriting table savings is extended machines.is_extended input) n

-- meets it at each listed leader,
pub files_meet : FoldedFilesMeet
files_meet rewriting table savings is plain extended input n machines =
    fronts_meet rewriting plain extended input machines
    (are_crossed rewriting table savings is extended machines.is_extended input) n

-- and costs less by what its cuts save
pub files_cost_less : FoldedFilesCostLess
files_cost_less rewriting table savings is latencies of_table plain extended input n end machines =
    costs_less rewriting plain extended input machines
    (are_crossed rewriting table savings is extended machines.is_extended input) latencies savings
    (saves_at_leaders rewriting table savings is extended machines.is_extended input latencies of_table) n end
