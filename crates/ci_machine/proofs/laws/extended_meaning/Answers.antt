use Rattle.ci_machine.proofs.ExtendedMeaning as laws
use Rattle.ci_machine.proofs.laws.extended_meaning.Goals as goal

pub returns-clause-exists : goal.returns-clause-exists
returns-clause-exists c = laws.extended_exists

pub returns-clause-one : goal.returns-clause-one
returns-clause-one c = laws.extended_is_one

pub returns-clause-words : goal.returns-clause-words
returns-clause-words c = laws.extended_gives_words

pub returns-clause-hidden : goal.returns-clause-hidden
returns-clause-hidden c = laws.extended_takes_hidden

pub returns-clause-plain : goal.returns-clause-plain
returns-clause-plain c = laws.extended_runs_plain_files
