use Rattle.ci_block.specs.private.CustomSearch.{HasNoCustomWordBefore}
use Rattle.ci_block.proofs.custom_words.first_custom_word.Given as goal

abbrev pub invariant-loop-index : goal.invariant-loop-index
invariant-loop-index l = HasNoCustomWordBefore l.image l.index
