use Rattle.std.specs.FinSet as set
use Rattle.ci_rewrite.proofs.BlockGraphs.{has_operands}
use Rattle.ci_rewrite.proofs.FoldLaws.{use_fits}
use Rattle.ci_rewrite.proofs.folding.push_use.Goals as goal

pub encode_use-used-requires-clause-operands : goal.encode_use-used-requires-clause-operands
encode_use-used-requires-clause-operands c = has_operands c.args.insns.now c.args.graph.now c.requires.graph

pub returns-clause-fit : goal.returns-clause-fit
returns-clause-fit c =
    let used = c.encode_use-used.ensures in
    use_fits c.args.insns.now c.args.graph.now (set.contains c.args.cut.now) c.args.number _ _ _ used.put used.unit used.reads used.well_formed
