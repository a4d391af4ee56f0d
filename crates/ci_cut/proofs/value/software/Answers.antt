use Rattle.std.proofs.Common.{ℕ, ap, sym, ◌∙◌, arith}
use Rattle.std.proofs.lemmas.List.{get_or_read}
use Rattle.std.specs.FinSet as set
use Rattle.ci_word.proofs.NumberLaws.{sum_below-zero}
use Rattle.ci_cut.specs.FlowGraph.{no_node, node_in}
use Rattle.ci_cut.proofs.MemberSums.{sum_below-member, sum_below-outside}
use Rattle.ci_cut.proofs.value.software.Goals as goal
use Rattle.ci_cut.proofs.value.software.Goals.{then-has, else-has}

pub loop-k-init : goal.loop-k-init
loop-k-init c = (sym (sum_below-zero _ _), omega arith)

pub loop-k-preserved : goal.loop-k-preserved
loop-k-preserved c =
    let k = c.loop-k.k in
    let nodes = c.args.nodes.now in
    let latency : ℕ → ℕ = λ j. (node_in nodes j).latency in
    let read = ap (λ node. node.latency) (get_or_read nodes k c.index-nodes-k.result c.loop-k-test.true c.index-nodes-k.is no_node) in
    elim c.if-has.branch [
      | then-has w ↦
          let member = sym c.has.ensures.value ∙ w.if-has.true in
          let sum = sum_below-member k (set.contains c.args.cut.now) latency member in
          (omega arith, omega (arith, c.requires.latency_most k))
      | else-has w ↦
          let outside = sym c.has.ensures.value ∙ w.if-has.false in
          let sum = sum_below-outside k (set.contains c.args.cut.now) latency outside in
          (omega arith, omega arith)
    ]
