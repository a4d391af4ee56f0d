use Rattle.std.proofs.Common.{sym}
use Rattle.ci_word.proofs.NumberLaws.{some_below-zero}
use Rattle.ci_cut.proofs.NodeLaws.{node_there}
use Rattle.ci_cut.proofs.PortLaws.{read_here, not_read_here}
use Rattle.ci_cut.proofs.ports.read_by.Goals as goal
use Rattle.ci_cut.proofs.ports.read_by.Goals.{then-has-members, else-has-members}

pub loop-k-init : goal.loop-k-init
loop-k-init c source = rw (c.empty-read.ensures source) (sym (some_below-zero _))

pub loop-k-preserved : goal.loop-k-preserved
loop-k-preserved c source =
    let here = node_there c.args.graph.now _ c.loop-k.k _ c.nodes-node-items.ensures.value c.loop-k-test.true c.node-item.is in
    elim c.if-has-members.branch [
      | then-has-members w ↦
          rw w.read-is
          (read_here c.args.graph.now _ _ _ _ c.has.ensures.value _ source _ _ here w.if-has-members.true
          (c.loop-k.invariant source) (rw w.as_slice.ensures at (w.extend.ensures source)))
      | else-has-members w ↦
          rw w.read-is (not_read_here c.args.graph.now _ _ _ _ c.has.ensures.value source _ w.if-has-members.false
          (c.loop-k.invariant source))
    ]
