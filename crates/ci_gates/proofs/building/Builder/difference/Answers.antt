use Rattle.std.proofs.Common.{◌+◌, ◌*◌, ◌^◌, ◌∙◌, ap, length, arith}
use Rattle.ci_netlist.specs.Netlists.{bit_value, digit, spelt}
use Rattle.ci_gates.proofs.NetlistLaws.{grows_on, counted}
use Rattle.ci_gates.proofs.ComparisonLaws.{with_complement}
use Rattle.ci_gates.proofs.building.Builder.difference.Goals as goal

pub returns-clause-makes : goal.returns-clause-makes
returns-clause-makes c =
    let n = length c.args.left.now in
    let m = length c.args.right.now in
    record {
      grows =
          counted c.args.self.now c.sum.new.self (m + 5 * n) (6 * n) (omega (arith, c.requires.same_width))
          (grows_on c.args.self.now c.complement.new.self c.sum.new.self m (5 * n) c.in_ok-complement.ensures.makes.grows
          c.in_ok-sum.ensures.makes.grows);
      width_is = c.in_ok-sum.ensures.makes.width_is;
      are_bits = c.in_ok-sum.ensures.makes.are_bits;
    }

pub returns-clause-value : goal.returns-clause-value
returns-clause-value c arguments gives settled =
    let holds = bit_value arguments gives in
    let first = c.in_ok-sum.ensures.makes.grows.kept arguments gives settled in
    let complement = c.in_ok-complement.complement.items in
    with_complement (2 ^ length c.args.left.now) (spelt holds c.in_ok-sum.sum.bits.items) (digit (holds c.in_ok-sum.sum.carry))
    (spelt holds c.args.left.now) (spelt holds c.args.right.now) (spelt holds complement)
    (c.in_ok-complement.ensures.value arguments gives first ∙ ap (λ n. 2 ^ n) c.requires.same_width)
    (c.in_ok-sum.ensures.value arguments gives settled
    ∙ ap (λ l. spelt holds c.args.left.now + spelt holds l + 1) c.deref.ensures.value)
