use Rattle.std.proofs.lemmas.Result.{IfOk-weaker}
use Rattle.ci_netlist.specs.Netlists.{bit_value}
use Rattle.ci_gates.proofs.WordLaws.{bitwise_spells}
use Rattle.ci_gates.proofs.building.Builder.bitwise.Goals as goal

pub returns-clause-value : goal.returns-clause-value
returns-clause-value c =
    IfOk-weaker c.each.result _ _
    (λ made value arguments gives settled.
    bitwise_spells (bit_value arguments gives) c.args.kind c.args.left.now c.args.right.now made.items c.requires.same_width
    (value arguments gives settled))
    c.each.ensures.value
