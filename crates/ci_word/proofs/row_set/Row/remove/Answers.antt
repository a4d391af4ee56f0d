use Rattle.std.proofs.Common.{arith}
use Rattle.ci_word.proofs.RowLaws.{numbers_in-remove}
use Rattle.ci_word.proofs.row_set.Row.remove.Goals as goal

pub returns : goal.returns
returns c = numbers_in-remove c.self.inside.words c.args.self.now c.args.n c.self.view_is c.self.told (omega arith)
