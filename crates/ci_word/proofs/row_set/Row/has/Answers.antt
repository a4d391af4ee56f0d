use Rattle.std.proofs.Common.{arith}
use Rattle.ci_word.proofs.RowLaws.{contains_by_shift}
use Rattle.ci_word.proofs.row_set.Row.has.Goals as goal

pub returns : goal.returns
returns c = record { value = contains_by_shift c.self.inside.words c.args.self.now c.self.view_is c.args.n (omega arith) }
