use Rattle.std.proofs.Common.{arith}
use Rattle.ci_verilog.proofs.VectorLaws.{shifted_past_right}
use Rattle.ci_verilog.proofs.vectors.shifted_right.Goals as goal

pub returns-else-right-from : goal.returns-else-right-from
returns-else-right-from c =
    shifted_past_right c.args.left.value c.args.left.width c.args.right.value c.requires.in_range (omega arith)
