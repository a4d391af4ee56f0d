use Rattle.ci_runs.proofs.ChosenFileLaws.{chosen_files_run_alike}
use Rattle.ci_runs.proofs.laws.chosen_files_run_alike.Goals as goal

pub returns : goal.returns
returns c = chosen_files_run_alike
