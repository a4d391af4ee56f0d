use Rattle.std.proofs.Common.{◌/◌, ◌-◌, ◌^◌, arith}
use Rattle.ci_isa.proofs.FieldLaws.{and_ones}
use Rattle.ci_isa.proofs.fields.bits.Goals as goal

pub returns : goal.returns
returns c = and_ones (c.args.word / 2 ^ c.args.low) (c.args.high - c.args.low) (omega arith)
