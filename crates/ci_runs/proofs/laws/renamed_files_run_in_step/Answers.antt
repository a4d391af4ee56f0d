use Rattle.ci_runs.proofs.RenamedFileLaws.{renamed_files_run_in_step, renamed_runs_are_tame}
use Rattle.ci_runs.proofs.laws.renamed_files_run_in_step.Goals as goal

pub returns-clause-steps : goal.returns-clause-steps
returns-clause-steps c = renamed_files_run_in_step

pub returns-clause-tame : goal.returns-clause-tame
returns-clause-tame c = renamed_runs_are_tame
