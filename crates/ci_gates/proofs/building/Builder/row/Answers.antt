use Rattle.std.proofs.Common.{◌∙◌}
use Rattle.std.proofs.lemmas.Result.{IfOk-weaker}
use Rattle.ci_netlist.specs.Netlists.{bit_value}
use Rattle.ci_gates.proofs.WordLaws.{row_spells}
use Rattle.ci_gates.proofs.building.Builder.row.Goals as goal

pub returns-clause-value : goal.returns-clause-value
returns-clause-value c =
    IfOk-weaker c.each.result _ _
    (λ made value arguments gives settled.
    row_spells (bit_value arguments gives) c.args.bits.now made.items c.deref.result.now c.args.bit
    (c.deref.ensures.value ∙ c.in_ok-copies.ensures) (value arguments gives settled))
    c.each.ensures.value
