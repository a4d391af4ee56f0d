use Rattle.std.proofs.Common.{arith, codes}
use Rattle.ci_log.proofs.EntryReading.{word_left}
use Rattle.ci_log.proofs.entries.without.Goals as goal

pub tree_line-requires : goal.tree_line-requires
tree_line-requires c = omega (arith, c.requires, word_left (codes "none\n") c.args.bytes.now c.in_ok-rest.rest.now c.in_ok-rest.ensures)
