use Rattle.ci_machine.proofs.SameRuns as laws
use Rattle.ci_machine.proofs.laws.one_run.Goals as goal

pub returns-clause-steps : goal.returns-clause-steps
returns-clause-steps c = laws.one_run

pub returns-clause-words : goal.returns-clause-words
returns-clause-words c = λ left right program n state one makes of_words.
    laws.runs_of_words left right one program makes n state of_words

pub returns-clause-files : goal.returns-clause-files
returns-clause-files c = λ left right file input n formed agree clear.
    laws.file_runs_alike left right file formed agree input n clear
