use Rattle.std.proofs.Common.{arith, codes}
use Rattle.ci_log.proofs.EntryReading.{word_left, cut_left}
use Rattle.ci_log.proofs.entries.best.Goals as goal

pub tree_line-requires : goal.tree_line-requires
tree_line-requires c =
    let first = word_left (codes "best ") c.args.bytes.now c.in_ok-rest.rest.now c.in_ok-rest.ensures in
    omega (arith, c.requires, first, cut_left c.in_ok-rest.rest.now c.in-Ok.read.1.now c.in-Ok.read.0 (omega (arith, c.requires, first)) c.in-Ok.ensures)
