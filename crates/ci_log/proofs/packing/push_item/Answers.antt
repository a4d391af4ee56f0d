use Rattle.std.proofs.Common.{sym}
use Rattle.ci_log.proofs.PackingLaws.{writes_more, writes_next}
use Rattle.ci_log.proofs.packing.push_item.Goals as goal

pub returns-then-are_equal_leaves-clause-written : goal.returns-then-are_equal_leaves-clause-written
returns-then-are_equal_leaves-clause-written c = writes_more _ c.args.waiting c.args.item (sym c.if-are_equal_leaves.ensures)

pub returns-clause-written : goal.returns-clause-written
returns-clause-written c = writes_next _ _ c.args.waiting c.args.item _ (sym c.if-are_equal_leaves.ensures) c.in_ok-high.ensures.written
