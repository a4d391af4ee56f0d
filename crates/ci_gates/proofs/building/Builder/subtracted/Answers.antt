use Rattle.std.proofs.Common.{◌^◌, ◌<◌, subst, length}
use Rattle.ci_netlist.specs.Netlists.{bit_value, digit, spelt}
use Rattle.ci_gates.proofs.ComparisonLaws.{difference_modulo}
use Rattle.ci_netlist.proofs.SpellingLaws.{spelt_below}
use Rattle.ci_gates.proofs.building.Builder.subtracted.Goals as goal

pub returns-clause-value : goal.returns-clause-value
returns-clause-value c arguments gives settled =
    let holds = bit_value arguments gives in
    let sum = c.in_ok-difference.difference in
    difference_modulo (2 ^ length c.args.left.now) (spelt holds sum.bits.items) (digit (holds sum.carry))
    (spelt holds c.args.left.now) (spelt holds c.args.right.now)
    (subst (λ n. spelt holds sum.bits.items < 2 ^ n) c.in_ok-difference.ensures.makes.width_is (spelt_below holds sum.bits.items))
    (subst (λ n. spelt holds c.args.right.now < 2 ^ n) c.requires.same_width (spelt_below holds c.args.right.now))
    (c.in_ok-difference.ensures.value arguments gives settled)
