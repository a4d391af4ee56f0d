use Rattle.ci_word.proofs.RowLaws.{meets_iff}
use Rattle.ci_word.proofs.row_set.Row.meets.Goals as goal

pub returns : goal.returns
returns c = record { value = meets_iff c.self.inside.words c.other.inside.words _ _ c.self.view_is c.other.view_is c.self.invariant }
