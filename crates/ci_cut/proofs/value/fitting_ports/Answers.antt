use Rattle.std.proofs.Common.{length, refl, ◌∙◌}
use Rattle.ci_word.proofs.NumberLaws.{len-count_below}
use Rattle.ci_cut.proofs.MemberSums.{fits_from_parts, within_from_fits}
use Rattle.ci_cut.proofs.value.fitting_ports.Goals as goal

pub returns-then-not-are_within-clause-fits : goal.returns-then-not-are_within-clause-fits
returns-then-not-are_within-clause-fits c =
    let counted = c.count.ensures.value ∙ len-count_below (length c.args.graph.now.nodes) c.args.cut.now c.requires in (
      λ e. cc,
      λ fits. c.if-not-are_within.ensures.1
          (within_from_fits c.args.graph.now c.args.limits.now _ _ _ _ c.ports_of-ports.ensures.inputs
          c.ports_of-ports.ensures.outputs counted fits),
    )

pub returns-clause-fits : goal.returns-clause-fits
returns-clause-fits c =
    let counted = c.count.ensures.value ∙ len-count_below (length c.args.graph.now.nodes) c.args.cut.now c.requires in (
      λ _. fits_from_parts c.args.graph.now c.args.limits.now _ _ _ _ c.ports_of-ports.ensures.inputs c.ports_of-ports.ensures.outputs counted
          (c.if-not-are_eligible.ensures.0 refl)
          (c.if-not-is_convex.ensures.0 refl)
          (c.if-not-are_within.ensures.0 refl),
      λ _. refl,
    )
