use Rattle.std.proofs.Common.{arith, rules}
use Rattle.ci_plan.proofs.FoundLaws.{join_found, zeros_found}
use Rattle.ci_plan.proofs.founds.joined.Goals as goal

pub returns-then-is_zero-clause-found : goal.returns-then-is_zero-clause-found
returns-then-is_zero-clause-found c m first second found_high found_low =
    zeros_found m c.args.draft.now c.args.high.place c.args.low.place c.args.high.width c.args.low.width first second c.requires
    (c.is_zero.ensures (search rules)) (omega arith) found_high found_low

pub returns-clause-found : goal.returns-clause-found
returns-clause-found c m first second found_high found_low =
    join_found m c.args.draft.now c.step.new.self c.args.high.place c.args.low.place c.in_ok-place.place c.args.high.width c.args.low.width
    first second c.in_ok-place.ensures.grows c.in_ok-place.ensures.added (omega arith) found_high found_low
