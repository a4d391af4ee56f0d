use Rattle.ci_block.specs.private.CustomSearch.{HasNoCustomWordIn}
use Rattle.ci_block.proofs.custom_words.first_custom_word_in.Given as goal

abbrev pub invariant-loop-place : goal.invariant-loop-place
invariant-loop-place l = HasNoCustomWordIn l.image l.index l.place
