use Rattle.std.proofs.Common.{nat_eq, take}
use Rattle.std.specs.List.{list_any}
use Rattle.ci_cut.specs.declared.graph.Source.TheVariants.{Made}
use Rattle.ci_cut.specs.FlowGraph.{is_source}
use Rattle.ci_cut.specs.private.AddedRows.{AreAdded}
use Rattle.ci_cut.proofs.graph_rows.add_at_makers.Given as goal

abbrev pub invariant-loop-source : goal.invariant-loop-source
invariant-loop-source l =
    AreAdded l.initial.rows l.rows (λ j. list_any (is_source (Made j)) (take l.source-index l.sources)) (λ k. nat_eq k l.number)
