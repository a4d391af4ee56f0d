use Rattle.std.proofs.Common.{◌∙◌, ap, length, refl, arith, rules, w64}
use Rattle.std.proofs.lemmas.Int.{to_z-of_z}
use Rattle.std.specs.FinSet as set
use Rattle.ci_word.specs.Numbers.{sum_below}
use Rattle.ci_word.proofs.NumberLaws.{count_below-le}
use Rattle.ci_cut.specs.FlowGraph.{node_in}
use Rattle.ci_cut.proofs.Represented.{represents_none}
use Rattle.ci_cut.proofs.prefix.PrefixTerms.none.Goals as goal

pub returns : goal.returns
returns c delays =
    let eligible = c.eligible_nodes-eligible.result in
    represents_none c.args.graph.now c.nodes.ensures.kept delays _ eligible c.eligible_nodes-eligible.ensures
    c.empty.ensures (ap length c.nodes-2.ensures.value) c.empty-2.ensures c.empty-3.ensures refl refl refl refl
    (c.software-software.ensures.value ∙ ap (λ nodes. sum_below (length nodes) (set.contains eligible) (λ k. (node_in nodes k).latency)) c.nodes.ensures.value)
    c.count-size.ensures.value
    (to_z-of_z w64 c.bound_of.result (search rules) ∙ c.bound_of.ensures)

pub bound_of-requires-clause-size : goal.bound_of-requires-clause-size
bound_of-requires-clause-size c = omega (arith, c.count-size.ensures.counted, count_below-le 256 (set.contains c.eligible_nodes-eligible.result))
