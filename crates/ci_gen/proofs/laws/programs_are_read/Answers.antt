use Rattle.ci_gen.proofs.ProgramLaws.{keeps_rules, plain_words, read_as_framed}
use Rattle.ci_gen.proofs.laws.programs_are_read.Goals as goal

pub returns-clause-image : goal.returns-clause-image
returns-clause-image c = read_as_framed

pub returns-clause-rules : goal.returns-clause-rules
returns-clause-rules c = keeps_rules

pub returns-clause-plain : goal.returns-clause-plain
returns-clause-plain c = plain_words
