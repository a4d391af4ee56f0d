use Rattle.std.proofs.Common.{◌*◌, ◌^◌, ◌∙◌, arith}
use Rattle.ci_verilog.proofs.VectorLaws.{shifted_past_left}
use Rattle.ci_plan.proofs.StepLaws.{twice}
use Rattle.ci_plan.proofs.steps.shifted_left.Goals as goal

pub returns-then-amount-lt64 : goal.returns-then-amount-lt64
returns-then-amount-lt64 c = c.low_bits.ensures ∙ twice (c.args.value * 2 ^ c.args.amount) c.args.width c.requires

pub returns-else-amount-lt64 : goal.returns-else-amount-lt64
returns-else-amount-lt64 c = shifted_past_left c.args.value c.args.width c.args.amount (omega arith)
