-- The words so far.
use Rattle.std.proofs.Common.{◌≡◌, map, take}
use Rattle.ci_arguments.proofs.parse.words_given.Given as goal

abbrev pub invariant-loop-word : goal.invariant-loop-word
invariant-loop-word l = map (λ t. t.now) l.words.items ≡ map (λ t. t.now) (take l.word-index l.given)
