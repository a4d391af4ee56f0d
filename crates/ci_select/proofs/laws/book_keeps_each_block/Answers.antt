use Rattle.ci_select.proofs.EachIsPresent.{each_block_is_present}
use Rattle.ci_select.proofs.EachIsSearched.{each_entered_is_searched}
use Rattle.ci_select.proofs.laws.book_keeps_each_block.Goals as goal

pub returns-clause-present : goal.returns-clause-present
returns-clause-present c = each_block_is_present

pub returns-clause-searched : goal.returns-clause-searched
returns-clause-searched c = each_entered_is_searched
