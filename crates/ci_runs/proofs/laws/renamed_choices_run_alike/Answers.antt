use Rattle.ci_runs.proofs.RenamedChoiceLaws.{renamed_choices_run_alike}
use Rattle.ci_runs.proofs.laws.renamed_choices_run_alike.Goals as goal

pub returns : goal.returns
returns c = renamed_choices_run_alike
