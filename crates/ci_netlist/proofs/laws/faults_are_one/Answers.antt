use Rattle.ci_netlist.proofs.TextReading.{fault_is_one, texts_have_no_fault}
use Rattle.ci_netlist.proofs.laws.faults_are_one.Goals as goal

pub returns-clause-one : goal.returns-clause-one
returns-clause-one c = fault_is_one

pub returns-clause-none : goal.returns-clause-none
returns-clause-none c = texts_have_no_fault
