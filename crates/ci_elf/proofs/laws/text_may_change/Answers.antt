use Rattle.ci_elf.proofs.PatchLaws.{none_written, one_more_written, other_words_stay, text_is_loaded_once, word_is_read}
use Rattle.ci_elf.proofs.TextChangeLaws.{text_may_change}
use Rattle.ci_elf.proofs.laws.text_may_change.Goals as goal

pub returns-clause-change : goal.returns-clause-change
returns-clause-change c = text_may_change

pub returns-clause-none : goal.returns-clause-none
returns-clause-none c = none_written

pub returns-clause-one_more : goal.returns-clause-one_more
returns-clause-one_more c = one_more_written

pub returns-clause-once : goal.returns-clause-once
returns-clause-once c = text_is_loaded_once

pub returns-clause-written : goal.returns-clause-written
returns-clause-written c = word_is_read

pub returns-clause-others : goal.returns-clause-others
returns-clause-others c = other_words_stay
