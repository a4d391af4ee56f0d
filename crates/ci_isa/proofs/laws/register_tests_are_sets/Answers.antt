use Rattle.ci_isa.proofs.Registers.{reads_register_is, writes_register_is}
use Rattle.ci_isa.proofs.laws.register_tests_are_sets.Goals as goal

pub returns-clause-read : goal.returns-clause-read
returns-clause-read c = reads_register_is

pub returns-clause-written : goal.returns-clause-written
returns-clause-written c = writes_register_is
