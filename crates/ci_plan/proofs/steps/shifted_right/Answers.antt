use Rattle.std.proofs.Common.{arith}
use Rattle.ci_verilog.proofs.VectorLaws.{shifted_past_right}
use Rattle.ci_plan.proofs.steps.shifted_right.Goals as goal

pub returns-else-amount-lt64 : goal.returns-else-amount-lt64
returns-else-amount-lt64 c = shifted_past_right c.args.value 64 c.args.amount (omega arith) (omega arith)
