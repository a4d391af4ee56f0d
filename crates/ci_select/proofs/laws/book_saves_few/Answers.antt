use Rattle.ci_select.proofs.EntrySums.{entries_are_steps}
use Rattle.ci_select.proofs.SavingBounds.{saved_is_few, takes_save_few}
use Rattle.ci_select.proofs.laws.book_saves_few.Goals as goal

-- src/laws.rt
pub returns-clause-entries : goal.returns-clause-entries
returns-clause-entries c = entries_are_steps

pub returns-clause-saved : goal.returns-clause-saved
returns-clause-saved c = saved_is_few

pub returns-clause-takes : goal.returns-clause-takes
returns-clause-takes c = takes_save_few
