use Rattle.ci_runs.proofs.FoldedFileLaws.{files_run_alike, files_meet, files_cost_less}
use Rattle.ci_runs.proofs.laws.folded_files_run_alike.Goals as goal

pub returns-clause-runs : goal.returns-clause-runs
returns-clause-runs c = files_run_alike

pub returns-clause-fronts : goal.returns-clause-fronts
returns-clause-fronts c = files_meet

pub returns-clause-accounts : goal.returns-clause-accounts
returns-clause-accounts c = files_cost_less
