use Rattle.ci_runs.proofs.ProfiledRunLaws.{choices_save_in_profile, profiled_runs_are_tame}
use Rattle.ci_runs.proofs.laws.profiled_runs_cost_less.Goals as goal

pub returns-clause-tame : goal.returns-clause-tame
returns-clause-tame c = profiled_runs_are_tame

pub returns-clause-saves : goal.returns-clause-saves
returns-clause-saves c = choices_save_in_profile
