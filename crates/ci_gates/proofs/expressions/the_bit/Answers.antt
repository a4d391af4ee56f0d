use Rattle.ci_netlist.specs.declared.bits.Bit.TheVariants.{Zero}
use Rattle.ci_gates.proofs.ExpressionLaws.{one_bit}
use Rattle.ci_gates.proofs.expressions.the_bit.Goals as goal

pub returns : goal.returns
returns c = one_bit c.args.bits.now c.requires Zero
