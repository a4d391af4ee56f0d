use Rattle.ci_rewrite.proofs.BlockGraphs.{has_operands}
use Rattle.ci_folds.proofs.lines.unit_in_block.Goals as goal

pub unit_of-requires-clause-operands : goal.unit_of-requires-clause-operands
unit_of-requires-clause-operands c = has_operands c.args.insns.now c.in_ok-graph.graph (_, _, c.in_ok-graph.ensures)
