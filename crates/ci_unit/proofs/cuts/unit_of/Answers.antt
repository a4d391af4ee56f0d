use Rattle.std.proofs.Common.{◌∙◌, subst, All, sym}
use Rattle.std.specs.FinSet as set
use Rattle.ci_unit.specs.private.Reading.{IsSmall}
use Rattle.ci_unit.proofs.UnitLaws.{five_read, unit_read, unit_read_is}
use Rattle.ci_unit.proofs.cuts.unit_of.Goals as goal

pub operations-requires-clause-few : goal.operations-requires-clause-few
operations-requires-clause-few c =
    five_read c.args.insns.now c.args.graph.now (set.contains c.args.cut.now) c.nodes.ensures.kept c.requires.operands c.requires.fits
    c.as_slice.result.now (c.as_slice.ensures ∙ c.in_ok-inputs.ensures.value)
    (subst (All IsSmall) (sym c.as_slice.ensures) c.in_ok-inputs.ensures.small)

pub new-requires : goal.new-requires
new-requires c =
    unit_read_is c.args.insns.now c.args.graph.now (set.contains c.args.cut.now) c.nodes.ensures.kept c.requires.operands c.requires.fits
    c.as_slice.result.now (c.as_slice.ensures ∙ c.in_ok-inputs.ensures.value)
    (subst (All IsSmall) (sym c.as_slice.ensures) c.in_ok-inputs.ensures.small)
    c.in_ok-ops.ops.items c.in_ok-outputs.outputs.items c.hardware.result
    c.in_ok-ops.ensures.value c.in_ok-outputs.ensures c.hardware.ensures c.in_ok-ops.ensures.words

pub returns : goal.returns
returns c =
    c.new.ensures
    ∙ unit_read c.args.insns.now c.args.graph.now (set.contains c.args.cut.now) c.nodes.ensures.kept c.requires.operands c.requires.fits
    c.as_slice.result.now (c.as_slice.ensures ∙ c.in_ok-inputs.ensures.value)
    (subst (All IsSmall) (sym c.as_slice.ensures) c.in_ok-inputs.ensures.small)
    c.in_ok-ops.ops.items c.in_ok-outputs.outputs.items c.hardware.result
    c.in_ok-ops.ensures.value c.in_ok-outputs.ensures c.hardware.ensures
