use Rattle.ci_netlist.proofs.TextReading.{text_is_one, netlists_are_one}
use Rattle.ci_netlist.proofs.laws.texts_are_one.Goals as goal

pub returns-clause-text : goal.returns-clause-text
returns-clause-text c = text_is_one

pub returns-clause-netlists : goal.returns-clause-netlists
returns-clause-netlists c = netlists_are_one
