use Rattle.std.proofs.Common.{◌≤◌, length, ap, ◌∙◌, refl, arith, rules, w64, SFits}
use Rattle.std.proofs.lemmas.Int.{to_z-of_z}
use Rattle.std.specs.FinSet as set
use Rattle.ci_word.proofs.NumberLaws.{count_below-le, len-count_below}
use Rattle.ci_word.specs.Numbers.{sum_below}
use Rattle.ci_cut.specs.FlowGraph.{node_in}
use Rattle.ci_cut.specs.Ports.{is_output}
use Rattle.ci_cut.proofs.MemberSums.{further_words-le, saved_from_parts}
use Rattle.ci_cut.proofs.value.gain_by_ports.Goals as goal

pub saved_cycles-requires-clause-further : goal.saved_cycles-requires-clause-further
saved_cycles-requires-clause-further c =
    let outs : c.args.ports.now.outputs ≤ length c.args.graph.now.nodes =
    omega (
      arith,
      c.requires.outputs,
      count_below-le (length c.args.graph.now.nodes)
          (is_output c.args.graph.now (set.contains c.args.cut.now)),
    ) in
    omega (
      arith,
      c.further_words.ensures,
      further_words-le c.args.ports.now.inputs c.args.ports.now.outputs (length c.args.graph.now.nodes) outs c.nodes.ensures.kept.few,
    )

pub saved_cycles-requires-clause-size : goal.saved_cycles-requires-clause-size
saved_cycles-requires-clause-size c = omega (arith, c.count.ensures.counted, count_below-le 256 (set.contains c.args.cut.now))

pub returns : goal.returns
returns c =
    let graph = c.args.graph.now in
    let cut = set.contains c.args.cut.now in
    let counted = c.count.ensures.value ∙ len-count_below (length graph.nodes) c.args.cut.now c.requires.nodes in
    let latencies = c.software.ensures.value ∙ ap (λ nodes. sum_below (length nodes) cut (λ k. (node_in nodes k).latency)) c.nodes.ensures.value in
    let fits : SFits w64 c.saved_cycles.result = search rules in
    to_z-of_z w64 c.saved_cycles.result fits ∙ c.saved_cycles.ensures
    ∙ saved_from_parts graph cut cut graph.read graph.pad c.software.result c.hardware.result
    c.args.ports.now.inputs c.args.ports.now.outputs c.further_words.result c.count.result
    refl refl latencies c.hardware.ensures c.requires.inputs c.requires.outputs c.further_words.ensures counted
