use Rattle.std.proofs.Common.{◌≡◌, true, length, map, subst, sym, ap, ◌∙◌, arith}
use Rattle.ci_word.specs.Numbers.{numbers_below}
use Rattle.ci_cut.specs.FlowGraph.{FlowGraph}
use Rattle.ci_cut.specs.GraphRules.{IsFlowGraph}
use Rattle.ci_dfg.specs.BlockGraph.{node_of, graph_of}
use Rattle.ci_dfg.proofs.BlockIsGraph.{is_flow_graph}
use Rattle.ci_dfg.proofs.nodes.graph.Goals as goal

pub new-requires : goal.new-requires
new-requires c =
    let insns = c.args.insns.now in
    let table = c.args.table.now in
    let all : c.loop-k.k ≡ length insns = omega arith in
    let nodes : c.loop-k.nodes.items ≡ (graph_of insns c.args.live_out table).nodes =
    c.loop-k.invariant ∙ ap (λ n. map (node_of insns c.args.live_out table) (numbers_below n (λ _. true))) all in
    let whole : ◌≡◌ {A = FlowGraph} (record { nodes = c.loop-k.nodes.items; read = c.read.result; pad = c.pad.result }) (graph_of insns c.args.live_out table) =
    λ i. record { nodes = nodes i; read = c.read.ensures.value i; pad = c.pad.ensures.value i } in
    subst IsFlowGraph (sym whole) (is_flow_graph insns c.args.live_out table c.requires.few c.read.ensures.table)
