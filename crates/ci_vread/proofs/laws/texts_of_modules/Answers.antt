use Rattle.ci_vread.proofs.TextLaws.{modules_or_fault, never_both, one_fault, spells_where_kept}
use Rattle.ci_vread.proofs.OneSpelling.{one_spelling}
use Rattle.ci_vread.proofs.laws.texts_of_modules.Goals as goal

pub returns-clause-some : goal.returns-clause-some
returns-clause-some c = modules_or_fault

pub returns-clause-never_both : goal.returns-clause-never_both
returns-clause-never_both c = never_both

pub returns-clause-one_fault : goal.returns-clause-one_fault
returns-clause-one_fault c = one_fault

pub returns-clause-rules : goal.returns-clause-rules
returns-clause-rules c = spells_where_kept

pub returns-clause-one_spelling : goal.returns-clause-one_spelling
returns-clause-one_spelling c = one_spelling
