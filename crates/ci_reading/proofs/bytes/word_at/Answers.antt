use Rattle.std.proofs.Common.{arith}
use Rattle.ci_reading.proofs.ByteLaws.{words_of_bytes-at}
use Rattle.ci_reading.proofs.bytes.word_at.Goals as goal

pub returns : goal.returns
returns c = grind (arith, words_of_bytes-at c.args.bytes.now c.args.place c.requires)
