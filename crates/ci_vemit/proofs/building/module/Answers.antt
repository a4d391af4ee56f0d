use Rattle.ci_vemit.proofs.BuildingLaws.{wires_allowed, wires_free, wires_few, output_allowed, third_is_nothing}
use Rattle.std.proofs.Common.{ap, ◌∙◌}
use Rattle.ci_vemit.specs.Templates.{output_at}
use Rattle.ci_vemit.proofs.building.module.Goals as goal

pub from_vec-wires-requires-clause-are_wires : goal.from_vec-wires-requires-clause-are_wires
from_vec-wires-requires-clause-are_wires c =
    wires_allowed c.args.unit.now c.cycles-cycles.ensures.kept c.is_wide.result c.is_wide.ensures c.in_ok-wires.wires.items c.in_ok-wires.ensures

pub from_vec-wires-requires-clause-are_free : goal.from_vec-wires-requires-clause-are_free
from_vec-wires-requires-clause-are_free c =
    wires_free c.args.unit.now c.cycles-cycles.ensures.kept c.is_wide.result c.is_wide.ensures c.in_ok-wires.wires.items c.in_ok-wires.ensures

pub from_vec-wires-requires-clause-few : goal.from_vec-wires-requires-clause-few
from_vec-wires-requires-clause-few c =
    wires_few c.args.unit.now c.cycles-cycles.ensures.kept c.is_wide.result c.is_wide.ensures c.in_ok-wires.wires.items c.in_ok-wires.ensures

pub new-requires-clause-y_is_word : goal.new-requires-clause-y_is_word
new-requires-clause-y_is_word c =
    output_allowed c.args.unit.now c.cycles-cycles.ensures.kept c.is_wide.result c.is_wide.ensures c.in_ok-wires.wires.items c.in_ok-wires.ensures
    c.from_vec-wires.result c.from_vec-wires.ensures 0
    c.in_ok-y.y (c.in_ok-y.ensures.y ∙ ap (λ outputs. output_at outputs 0) c.outputs-outputs.ensures.value)

pub new-requires-clause-z_is_word : goal.new-requires-clause-z_is_word
new-requires-clause-z_is_word c =
    output_allowed c.args.unit.now c.cycles-cycles.ensures.kept c.is_wide.result c.is_wide.ensures c.in_ok-wires.wires.items c.in_ok-wires.ensures
    c.from_vec-wires.result c.from_vec-wires.ensures 1
    c.in_ok-y.z (c.in_ok-y.ensures.z ∙ ap (λ outputs. output_at outputs 1) c.outputs-outputs.ensures.value)

pub new-requires-clause-x_is_word : goal.new-requires-clause-x_is_word
new-requires-clause-x_is_word c =
    output_allowed c.args.unit.now c.cycles-cycles.ensures.kept c.is_wide.result c.is_wide.ensures c.in_ok-wires.wires.items c.in_ok-wires.ensures
    c.from_vec-wires.result c.from_vec-wires.ensures 2
    c.in_ok-y.x (c.in_ok-y.ensures.x ∙ ap (λ outputs. output_at outputs 2) c.outputs-outputs.ensures.value)

pub new-requires-clause-narrow : goal.new-requires-clause-narrow
new-requires-clause-narrow c =
    third_is_nothing c.args.unit.now c.cycles-cycles.ensures.kept c.is_wide.result c.is_wide.ensures c.in_ok-wires.wires.items c.in_ok-wires.ensures
    c.from_vec-wires.result c.from_vec-wires.ensures
    c.in_ok-y.x (c.in_ok-y.ensures.x ∙ ap (λ outputs. output_at outputs 2) c.outputs-outputs.ensures.value)
