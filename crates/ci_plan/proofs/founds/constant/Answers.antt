use Rattle.std.proofs.Common.{arith}
use Rattle.ci_plan.proofs.FoundLaws.{constant_found, constant_below}
use Rattle.ci_plan.proofs.founds.constant.Goals as goal

pub returns-clause-found : goal.returns-clause-found
returns-clause-found c m =
    constant_found m c.number.new.self c.in_ok-place.place c.args.width c.args.value c.in_ok-place.ensures.grows.is_draft
    c.in_ok-place.ensures.number (omega arith)
    (constant_below c.args.width c.args.value c.low_bits.result c.low_bits.ensures (omega arith))
