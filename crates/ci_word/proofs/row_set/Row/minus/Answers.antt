use Rattle.ci_word.proofs.RowLaws.{AreRowWords_left_over, numbers_in_left_over}
use Rattle.ci_word.proofs.row_set.Row.minus.Goals as goal

pub invariant_of-result : goal.invariant_of-result
invariant_of-result c = AreRowWords_left_over c.self.inside.words c.other.inside.words c.self.invariant

pub returns : goal.returns
returns c = record { value = numbers_in_left_over c.self.inside.words c.other.inside.words _ _ c.self.view_is c.other.view_is c.other.invariant }
