use Rattle.std.proofs.Common.{rules}
use Rattle.ci_word.specs.private.WordLaws.{words_of-numbers_in}
use Rattle.ci_word.proofs.row_set.RowPartialEq.eq.Goals as goal

pub returns : goal.returns
returns c = search (rules, words_of-numbers_in)
