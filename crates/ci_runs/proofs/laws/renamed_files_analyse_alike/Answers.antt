use Rattle.ci_runs.proofs.RenamedAnalyses.{renamed_files_analyse_alike, renamed_files_keep_cuts}
use Rattle.ci_runs.proofs.laws.renamed_files_analyse_alike.Goals as goal

pub returns-clause-analyses : goal.returns-clause-analyses
returns-clause-analyses c = renamed_files_analyse_alike

pub returns-clause-cuts : goal.returns-clause-cuts
returns-clause-cuts c = renamed_files_keep_cuts
