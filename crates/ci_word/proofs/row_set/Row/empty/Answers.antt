use Rattle.ci_word.proofs.RowLaws.{numbers_in_zeros}
use Rattle.ci_word.proofs.row_set.Row.empty.Goals as goal

pub returns : goal.returns
returns c = numbers_in_zeros
