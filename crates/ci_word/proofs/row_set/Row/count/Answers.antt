use Rattle.std.proofs.Common.{sym, ◌∙◌}
use Rattle.ci_word.proofs.NumberLaws.{len-count_below}
use Rattle.ci_word.proofs.RowLaws.{ones_of_words, numbers_in-below}
use Rattle.ci_word.proofs.row_set.Row.count.Goals as goal

pub returns-clause-counted : goal.returns-clause-counted
returns-clause-counted c = ones_of_words c.self.inside.words c.args.self.now c.self.view_is c.self.invariant

pub returns-clause-value : goal.returns-clause-value
returns-clause-value c =
    returns-clause-counted c ∙ sym (len-count_below 256 c.args.self.now (numbers_in-below c.self.inside.words c.args.self.now c.self.view_is))
