use Rattle.ci_log.proofs.LogReading.{log_read}
use Rattle.ci_log.proofs.trees.tree_line.Goals as goal

pub new-requires : goal.new-requires
new-requires c = rw (c.shrink_to_fit.ensures.items)
    (log_read c.args.version c.args.bytes.now c.in_ok-items.rest.now c.in_ok-items.items.items c.requires c.in_ok-items.ensures)
