use Rattle.ci_word.proofs.RowLaws.{numbers_in-below}
use Rattle.ci_word.proofs.row_set.Row.numbers_are_below_256.Goals as goal

pub returns : goal.returns
returns c = numbers_in-below c.self.inside.words c.args.self.now c.self.view_is
