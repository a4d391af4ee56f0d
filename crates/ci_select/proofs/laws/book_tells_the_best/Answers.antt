use Rattle.ci_select.proofs.TruthLaws.{entries_are_true, takes_are_best}
use Rattle.ci_select.proofs.laws.book_tells_the_best.Goals as goal

-- src/laws.rt
pub returns-clause-entries : goal.returns-clause-entries
returns-clause-entries c = entries_are_true

pub returns-clause-takes : goal.returns-clause-takes
returns-clause-takes c = takes_are_best
