use Rattle.ci_machine.proofs.PlainMeaning.{registers_read_are, registers_written_are}
use Rattle.ci_machine.proofs.NeededLaws.{needed_is, needed_by_plain}
use Rattle.ci_machine.proofs.laws.register_sets.Goals as goal

pub returns-clause-read : goal.returns-clause-read
returns-clause-read c = registers_read_are

pub returns-clause-written : goal.returns-clause-written
returns-clause-written c = registers_written_are

pub returns-clause-needed : goal.returns-clause-needed
returns-clause-needed c = needed_is

pub returns-clause-plain : goal.returns-clause-plain
returns-clause-plain c = needed_by_plain
