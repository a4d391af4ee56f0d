use Rattle.std.proofs.Common.{◌≡◌, ◌*◌, pos, length, sym, ap, ◌∙◌, arith}
use Rattle.ci_cut.specs.FlowGraph.{node_at}
use Rattle.ci_cut.specs.Gain.{software}
use Rattle.ci_cut.specs.Ports.{size}
use Rattle.ci_cut.proofs.NodeLaws.{node_there}
use Rattle.ci_cut.proofs.Decisions.{node_below}
use Rattle.ci_pair.specs.Pairs.{First}
use Rattle.ci_pair.specs.Prefixes.{choices}
use Rattle.ci_pair.specs.private.States.{undecided}
use Rattle.ci_pair.proofs.Numbers.{cost_fits, less_fits, less_is, shared_software-few, shared_pads-few}
use Rattle.ci_pair.proofs.terms.PairTerms.shared_without.Goals as goal

latency_is : (c : goal.After-from-2) → c.from.result ≡ pos (node_at c.args.graph.now c.args.node).latency
latency_is c =
    let below = node_below c.args.graph.now (choices First c.requires.next.0) c.args.node c.requires.next.3 in
    let read_node = node_there c.args.graph.now _ c.args.node _ c.nodes.ensures.value (omega (arith, below, ap length c.nodes.ensures.value)) c.index-nodes-node.is in
    c.from.ensures ∙ ap (λ n. pos n.latency) (sym (read_node ∙ c.index-nodes-node.is))

pad_is : (c : goal.After-from-2) → c.from-2.result ≡ pos c.args.graph.now.pad
pad_is c = c.from-2.ensures ∙ ap pos c.pad.ensures

pub overflow_sub-result : goal.overflow_sub-result
overflow_sub-result c =
    let graph = c.args.graph.now in
    let flows = c.requires.next.2.first.kept in
    cost_fits (node_at graph c.args.node).latency graph.pad (omega (arith, flows.latency_most c.args.node)) (omega (arith, c.pad.ensures)) _ _
    (latency_is c) (pad_is c)

pub overflow_sub-result-2 : goal.overflow_sub-result-2
overflow_sub-result-2 c =
    let graph = c.args.graph.now in
    let flows = c.requires.next.2.first.kept in
    let prefix = c.requires.next.0 in
    less_fits (node_at graph c.args.node).latency graph.pad (omega (arith, flows.latency_most c.args.node)) (omega (arith, c.pad.ensures)) _ _
    (latency_is c) (pad_is c) c.args.self.now.shared (software graph (undecided graph prefix)) (size graph (undecided graph prefix) * graph.pad)
    c.requires.next.2.shared_is (shared_software-few graph flows prefix) (shared_pads-few graph flows prefix (omega (arith, c.pad.ensures)))

pub returns : goal.returns
returns c =
    let graph = c.args.graph.now in
    let flows = c.requires.next.2.first.kept in
    let prefix = c.requires.next.0 in
    less_is (node_at graph c.args.node).latency graph.pad (omega (arith, flows.latency_most c.args.node)) (omega (arith, c.pad.ensures)) _ _
    (latency_is c) (pad_is c) c.args.self.now.shared (software graph (undecided graph prefix)) (size graph (undecided graph prefix) * graph.pad)
    c.requires.next.2.shared_is (shared_software-few graph flows prefix) (shared_pads-few graph flows prefix (omega (arith, c.pad.ensures)))
