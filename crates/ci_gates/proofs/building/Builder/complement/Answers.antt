use Rattle.std.proofs.Common.{◌∙◌, refl}
use Rattle.std.proofs.lemmas.Result.{IfOk-weaker}
use Rattle.ci_netlist.specs.Netlists.{bit_value}
use Rattle.ci_gates.proofs.WordLaws.{complement_spells}
use Rattle.ci_gates.proofs.building.Builder.complement.Goals as goal

pub returns-clause-value : goal.returns-clause-value
returns-clause-value c =
    IfOk-weaker c.each.result _ _
    (λ made value arguments gives settled.
    complement_spells (bit_value arguments gives) c.args.bits.now made.items c.deref.result.now
    (c.deref.ensures.value ∙ c.in_ok-copies.ensures) refl (value arguments gives settled))
    c.each.ensures.value
