use Rattle.ci_machine.proofs.SameRuns as laws
use Rattle.ci_machine.proofs.laws.units_unused.Goals as goal

pub returns-clause-instructions : goal.returns-clause-instructions
returns-clause-instructions c = laws.units_unused

pub returns-clause-lists : goal.returns-clause-lists
returns-clause-lists c = laws.lists_without_units

pub returns-clause-text : goal.returns-clause-text
returns-clause-text c = laws.leaving_without_units
