use Rattle.std.proofs.Common.{◌≡◌, get_or, arith}
use Rattle.ci_cut.specs.declared.graph.Source.TheVariants.{Entry}
use Rattle.ci_cut.proofs.SetLaws.{below_insert}
use Rattle.ci_cut.proofs.GraphLaws.{flow_graph_push, made_push}
use Rattle.ci_search_tests.proofs.graphs.add.Goals as goal
use Rattle.ci_search_tests.proofs.graphs.add.Goals.{in-Made+else-assert-6, in_default}

pub loop-source-init : goal.loop-source-init
loop-source-init g c = record {
  arcs = c.row_below-before.ensures;
  made = rw c.new-sources.ensures (λ j none. cc);
}

pub loop-source-preserved : goal.loop-source-preserved
loop-source-preserved g c = record {
  arcs = elim c.match-source.branch [
    | in-Made+else-assert-6 w ↦ rw (w.before-is, w.insert.ensures) (below_insert _ _ _ c.loop-source.invariant.arcs (omega arith))
    | in_default w ↦ rw w.before-is c.loop-source.invariant.arcs
  ];
  made = rw c.in_ok-push.ensures.ok (made_push c.loop-source.sources
      (get_or c.args.part.operands.now c.loop-source.source-index (Entry 0)) c.len-count.result
      c.loop-source.invariant.made (λ k is. elim c.match-source.branch [
        | in-Made+else-assert-6 w ↦ let same : w.in-Made.node ≡ k = (cc) in omega arith
        | in_default w ↦ absurd (w.in_default.not-Made k is)
      ]));
}

pub returns : goal.returns
returns g c =
    rw c.in_ok-push-2.ensures.items
    (flow_graph_push (record { nodes = c.args.nodes.now.items; read = c.args.charges.read; pad = c.args.charges.pad }) _ c.requires (omega arith) record {
      arcs = λ j has. omega (arith, c.loop-source.invariant.arcs j has);
      made = λ j has. omega (arith, c.loop-source.invariant.made j has);
      latency_least = λ _. omega arith;
      latency_most = omega arith;
      delay_most = omega arith;
      pad_least = λ _. omega arith;
    })
