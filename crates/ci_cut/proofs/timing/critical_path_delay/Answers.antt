use Rattle.std.proofs.Common.{◌≡◌, ◌+◌, ◌<◌, max, length, set as list_set, ap, sym, ◌∙◌, subst, arith}
use Rattle.std.proofs.lemmas.Bool.Decides.{nat_tests}
use Rattle.std.specs.FinSet as set
use Rattle.ci_cut.proofs.LongestChains.{AreDelaysBelow, none_done, here_le, next_member, next_outside, all_done, IsMaximumAt-node}
use Rattle.ci_cut.proofs.NodeLaws.{node_there}
use Rattle.ci_cut.proofs.timing.critical_path_delay.Goals as goal
use Rattle.ci_cut.proofs.timing.critical_path_delay.Goals.{then-has, else-has}

pub loop-k-init : goal.loop-k-init
loop-k-init c = none_done c.args.graph.now (set.contains c.args.cut.now)

pub overflow_add-delay : goal.overflow_add-delay
overflow_add-delay c =
    let graph = c.args.graph.now in
    let k = c.loop-k.k in
    let read = node_there graph c.nodes-node-items.result.now k c.node-item.result c.nodes-node-items.ensures.value c.loop-k-test.true c.node-item.is in
    let at_sources = IsMaximumAt-node graph k c.node-item.result c.as_slice.result.now c.loop-k.delays
    c.maximum_at.result read c.as_slice.ensures c.maximum_at.ensures in
    let kept = c.nodes-node-items.ensures.kept in
    let fits = here_le graph (set.contains c.args.cut.now) kept k c.loop-k.delays c.loop-k.longest
    c.maximum_at.result c.loop-k.invariant at_sources (sym c.has.ensures.value ∙ c.if-has.true) in
    omega (arith, fits, kept.few, ap length c.nodes-node-items.ensures.value, ap (λ node. node.delay) (sym read))

pub loop-k-preserved : goal.loop-k-preserved
loop-k-preserved c =
    let graph = c.args.graph.now in
    let cut = set.contains c.args.cut.now in
    let k = c.loop-k.k in
    let kept = c.nodes-node-items.ensures.kept in
    let read = node_there graph c.nodes-node-items.result.now k c.node-item.result c.nodes-node-items.ensures.value c.loop-k-test.true c.node-item.is in
    elim c.if-has.branch [
      | then-has w ↦
          let at_sources = IsMaximumAt-node graph k c.node-item.result w.as_slice.result.now c.loop-k.delays
          w.maximum_at.result read w.as_slice.ensures w.maximum_at.ensures in
          let below : k < 256 = omega (arith, kept.few, ap length c.nodes-node-items.ensures.value) in
          let next = next_member graph cut kept k c.loop-k.delays c.loop-k.longest w.maximum_at.result
          c.loop-k.invariant at_sources (sym c.has.ensures.value ∙ w.if-has.true) below in
          let sum = ap (λ node. w.maximum_at.result + node.delay) (sym read) in
          let larger : w.max-longest.result ≡ max c.loop-k.longest (w.maximum_at.result + c.node-item.result.delay) = grind (arith, nat_tests) in
          subst (λ delays. AreDelaysBelow graph cut (k + 1) delays c.if-has.longest) (sym (w.delays-is ∙ ap (list_set c.loop-k.delays k) sum))
          (subst (AreDelaysBelow graph cut (k + 1) _) (sym (w.longest-is ∙ larger ∙ ap (max c.loop-k.longest) sum)) next)
      | else-has w ↦
          let next = next_outside graph cut k c.loop-k.delays c.loop-k.longest c.loop-k.invariant (sym c.has.ensures.value ∙ w.if-has.false) in
          subst (λ delays. AreDelaysBelow graph cut (k + 1) delays c.if-has.longest) (sym w.delays-is)
          (subst (AreDelaysBelow graph cut (k + 1) c.loop-k.delays) (sym w.longest-is) next)
    ]

pub returns : goal.returns
returns c =
    let graph = c.args.graph.now in
    let end : c.loop-k.k ≡ length graph.nodes = omega (arith, ap length c.nodes-node-items.ensures.value) in
    all_done graph (set.contains c.args.cut.now) c.nodes-node-items.ensures.kept c.requires c.loop-k.delays c.loop-k.longest
    (subst (λ n. AreDelaysBelow graph (set.contains c.args.cut.now) n c.loop-k.delays c.loop-k.longest) end c.loop-k.invariant)
