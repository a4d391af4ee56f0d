-- The block of the words is of the plain table.
use Rattle.ci_commands.proofs.WordLaws.{words_are_bundled}
use Rattle.ci_commands.proofs.best.words.word_block.Goals as goal

pub returns-clause-bundled : goal.returns-clause-bundled
returns-clause-bundled c = words_are_bundled c.args.bytes.now c.in_ok-insns_of.field-0.items c.in_ok-insns_of.ensures.block
