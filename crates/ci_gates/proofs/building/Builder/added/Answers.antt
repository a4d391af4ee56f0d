use Rattle.std.proofs.Common.{◌+◌, ◌^◌, ◌<◌, subst, length, arith}
use Rattle.ci_netlist.specs.Netlists.{bit_value, digit, spelt}
use Rattle.ci_netlist.proofs.NumberLaws.{low_digits}
use Rattle.ci_netlist.proofs.SpellingLaws.{spelt_below}
use Rattle.ci_gates.proofs.building.Builder.added.Goals as goal

pub returns-clause-value : goal.returns-clause-value
returns-clause-value c arguments gives settled =
    let holds = bit_value arguments gives in
    let sum = c.in_ok-sum.sum in
    low_digits (2 ^ length c.args.left.now) (spelt holds sum.bits.items) (digit (holds sum.carry))
    (spelt holds c.args.left.now + spelt holds c.args.right.now)
    (subst (λ n. spelt holds sum.bits.items < 2 ^ n) c.in_ok-sum.ensures.makes.width_is (spelt_below holds sum.bits.items))
    (let e = c.in_ok-sum.ensures.value arguments gives settled in omega (arith, e))
