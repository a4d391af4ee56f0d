use Rattle.std.proofs.Common.{ap, ◌∙◌, arith}
use Rattle.std.proofs.lemmas.List.Folds.{list_any_at}
use Rattle.ci_cut.specs.declared.graph.Source.TheVariants.{Made}
use Rattle.ci_cut.specs.FlowGraph.{is_source}
use Rattle.ci_cut.proofs.OneMore.{bool_byte-le}
use Rattle.ci_cut.proofs.SourceSetLaws.{is_source_itself, settled_few}
use Rattle.ci_cut.proofs.ports.SourceSet.extend_settled.Goals as goal

pub insert_settled-requires : goal.insert_settled-requires
insert_settled-requires c k is =
    c.requires.nodes k
    (list_any_at (is_source (Made k)) c.args.sources.now c.loop-source.source-index _ c.loop-source-test.true
    (ap (is_source (Made k)) is ∙ is_source_itself (Made k)))

pub overflow_add-settled : goal.overflow_add-settled
overflow_add-settled c =
    let few = settled_few c.args.graph.now c.args.sources.now c.args.self.now c.loop-source.self c.loop-source.settled c.requires.few
    c.loop-source.invariant.counted in
    omega (arith, bool_byte-le c.insert_settled.result)

pub returns-clause-few : goal.returns-clause-few
returns-clause-few c =
    settled_few c.args.graph.now c.args.sources.now c.args.self.now c.loop-source.self c.loop-source.settled c.requires.few
    c.loop-source.invariant.counted
