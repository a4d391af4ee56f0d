use Rattle.std.proofs.Common.{rules, ◌*◌, ◌^◌, ◌%◌, ◌+◌, ◌<◌}
use Rattle.ci_verilog.proofs.VectorLaws.{above_fits}
use Rattle.ci_verilog.proofs.vectors.Vector.above.Goals as goal

pub overflow_cast-result : goal.overflow_cast-result
overflow_cast-result c =
    let below : c.from.result * 2 ^ c.args.low.width % 2 ^ 128 + c.from-2.result < 2 ^ 64 =
    above_fits c.args.self c.args.low c.from.result c.from-2.result (search rules) (search rules)
    c.requires.narrow c.requires.high_in_range c.requires.low_in_range in
    search (rules, below)
