use Rattle.std.proofs.Common.{◌∙◌, ap, length, if◌then◌else◌}
use Rattle.ci_netlist.specs.Netlists.{bit_value, spelt}
use Rattle.ci_gates.proofs.BitLaws.{copied}
use Rattle.ci_gates.proofs.ComparisonLaws.{one_digit}
use Rattle.ci_gates.proofs.building.Builder.compared.Goals as goal

pub returns-clause-makes : goal.returns-clause-makes
returns-clause-makes c =
    record {
      grows = c.in_ok-less.ensures.grows;
      width_is = ap length c.in_ok-bits.ensures;
      are_bits = copied (length c.less.new.self) c.in_ok-less.less 1 c.in_ok-bits.bits.items c.in_ok-bits.ensures c.in_ok-less.ensures.is_bit;
    }

pub returns-clause-value : goal.returns-clause-value
returns-clause-value c arguments gives settled =
    let holds = bit_value arguments gives in
    ap (spelt holds) c.in_ok-bits.ensures ∙ one_digit (holds c.in_ok-less.less)
    ∙ ap (λ b. if b then 1 else 0) (c.in_ok-less.ensures.value arguments gives settled)
