use Rattle.std.proofs.Common.{sym, ap, ◌∙◌, find, subst, IfSome}
use Rattle.std.specs.FinSet as set
use Rattle.std.specs.List.{flat_map}
use Rattle.ci_word.proofs.NumberLaws.{numbers_below-zero}
use Rattle.ci_cut.specs.FlowGraph.{node_at}
use Rattle.ci_cut.proofs.NodeLaws.{node_there}
use Rattle.ci_unit.specs.private.Reading.{is_further, IsRegister}
use Rattle.ci_unit.proofs.UseLaws.{found_more, found_so_far, register_found}
use Rattle.ci_unit.proofs.uses.next_input.Goals as goal
use Rattle.ci_unit.proofs.uses.next_input.Goals.{then-has, else-has}

pub loop-k-init : goal.loop-k-init
loop-k-init c =
    let cut = set.contains c.args.cut.now in
    sym (ap (λ l. find (is_further cut c.args.seen.now) (flat_map (λ k. (node_at c.args.graph.now k).sources) l)) (numbers_below-zero cut))

pub loop-k-preserved : goal.loop-k-preserved
loop-k-preserved c =
    let graph = c.args.graph.now in
    let cut = set.contains c.args.cut.now in
    let test = is_further cut c.args.seen.now in
    let k = c.loop-k.k in
    let read = node_there graph c.nodes-node-items.result.now k c.node-item.result c.nodes-node-items.ensures.value c.loop-k-test.true c.node-item.is in
    elim c.if-has.branch [
      | then-has w ↦
          let sources = w.as_slice.ensures ∙ ap (λ node. node.sources) (sym read) in
          w.found-is ∙ w.or-found.ensures
          ∙ found_more graph cut test k c.loop-k.found c.loop-k.invariant w.next_source.result (sym c.has.ensures.value ∙ w.if-has.true)
          (w.next_source.ensures ∙ ap (find test) sources)
      | else-has w ↦ w.found-is ∙ found_so_far graph cut test k c.loop-k.found c.loop-k.invariant (sym c.has.ensures.value ∙ w.if-has.false)
    ]

pub returns-clause-registers : goal.returns-clause-registers
returns-clause-registers c =
    let graph = c.args.graph.now in
    let cut = set.contains c.args.cut.now in
    subst (λ o. IfSome o IsRegister) (sym c.loop-k.invariant)
    (register_found graph cut c.requires c.loop-k.k (is_further cut c.args.seen.now))
