use Rattle.std.proofs.Common.{◌≡◌, false, sym, ap, ◌∙◌}
use Rattle.std.specs.Prelude.{◌||◌}
use Rattle.std.specs.List.{list_any}
use Rattle.ci_cut.specs.declared.graph.Source.TheVariants.{Made}
use Rattle.ci_cut.specs.FlowGraph.{is_source}
use Rattle.ci_dfg.specs.BlockGraph.{has_true_arc, has_order_arc}
use Rattle.ci_dfg.proofs.BundleEnds.{outer_alone, outer_among}
use Rattle.ci_dfg.proofs.arcs.has_outer_arc.Goals as goal

pub returns-else-has_node : goal.returns-else-has_node
returns-else-has_node c =
    let insns = c.args.insns.now in
    let none : has_true_arc insns c.args.k c.args.j ≡ false =
    ap (list_any (is_source (Made c.args.j))) (sym c.requires.sources) ∙ sym c.has_node.ensures ∙ c.if-has_node.false in
    c.has_order_arc.ensures ∙ ap (λ is. is || has_order_arc insns c.args.k c.args.j) (sym none)
    ∙ outer_alone insns c.first_left_by-first.result c.args.j c.args.k c.args.last c.first_left_by-first.ensures c.requires.entered
    c.if-first-j.true c.if-last-k.true

pub returns-else-first-j : goal.returns-else-first-j
returns-else-first-j c =
    c.has_arc_among.ensures
    ∙ outer_among c.args.insns.now c.first_left_by-first.result c.args.j c.args.k c.args.last
    c.first_left_by-first.ensures c.requires.entered
