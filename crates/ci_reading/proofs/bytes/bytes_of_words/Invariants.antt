use Rattle.std.proofs.Common.{◌≡◌, take}
use Rattle.ci_reading.specs.Bytes as terms
use Rattle.ci_reading.proofs.bytes.bytes_of_words.Given as goal

abbrev pub invariant-loop-word : goal.invariant-loop-word
invariant-loop-word l = l.bytes.items ≡ terms.bytes_of_words (take l.word-index l.words)
