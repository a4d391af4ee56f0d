use Rattle.ci_word.proofs.RowLaws.{AreRowWords_joined, numbers_in_joined}
use Rattle.ci_word.proofs.row_set.Row.union.Goals as goal

pub invariant_of-result : goal.invariant_of-result
invariant_of-result c = AreRowWords_joined c.self.inside.words c.other.inside.words c.self.invariant c.other.invariant

pub returns : goal.returns
returns c = record { value = numbers_in_joined c.self.inside.words c.other.inside.words _ _ c.self.view_is c.other.view_is }
