use Rattle.std.proofs.Common.{◌^◌, ◌<◌, ◌∙◌, subst, length}
use Rattle.ci_netlist.specs.Netlists.{bit_value, spelt}
use Rattle.ci_netlist.proofs.SpellingLaws.{spelt_below}
use Rattle.ci_gates.proofs.ComparisonLaws.{no_carry_is_less}
use Rattle.ci_gates.proofs.building.Builder.less.Goals as goal

pub returns-clause-value : goal.returns-clause-value
returns-clause-value c arguments gives settled =
    let holds = bit_value arguments gives in
    let first = c.in_ok-less.ensures.grows.kept arguments gives settled in
    let sum = c.in_ok-carry.field-0 in
    c.in_ok-less.ensures.value arguments gives settled
    ∙ no_carry_is_less (holds sum.carry) (2 ^ length c.args.left.now) (spelt holds sum.bits.items) (spelt holds c.args.left.now)
    (spelt holds c.args.right.now)
    (subst (λ n. spelt holds sum.bits.items < 2 ^ n) c.in_ok-carry.ensures.makes.width_is (spelt_below holds sum.bits.items))
    (spelt_below holds c.args.left.now)
    (c.in_ok-carry.ensures.value arguments gives first)
