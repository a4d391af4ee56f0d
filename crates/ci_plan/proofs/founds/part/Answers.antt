use Rattle.std.proofs.Common.{◌≡◌, ◌+◌, ◌-◌, ◌≤◌, arith, subst}
use Rattle.ci_plan.specs.private.Drafts.{StandsFor}
use Rattle.ci_plan.proofs.FoundLaws.{bits_of, if_both, whole_found, part_found, number_part_found}
use Rattle.ci_plan.proofs.founds.part.Goals as goal

pub returns-then-width-from-clause-found : goal.returns-then-width-from-clause-found
returns-then-width-from-clause-found c m bits found =
    let d = c.args.draft.now in
    let from = c.args.from in
    let same : from.width ≡ c.args.high + 1 - c.args.low = omega arith in
    subst (λ w. StandsFor m d from.place from.width (λ names. bits_of c.args.low w (bits names))) same
    (whole_found m d from.place from.width c.args.low bits found (omega arith))

pub returns-in-Some-clause-found : goal.returns-in-Some-clause-found
returns-in-Some-clause-found c =
    if_both c.constant.result c.constant.ensures.grows c.constant.ensures.found
    (λ found grows constant m bits stands.
    number_part_found m c.args.draft.now c.constant.new.draft c.args.from.place c.args.from.width found.place found.width c.args.low
    (c.args.high + 1 - c.args.low) c.in-Some.number c.low_bits.result bits c.requires grows c.in-Some.ensures c.low_bits.ensures
    (constant m) stands)

pub returns-clause-found : goal.returns-clause-found
returns-clause-found c m bits found =
    let narrow : c.args.high + 1 - c.args.low ≤ 64 = let e = c.args.from.narrow in omega (arith, e) in
    part_found m c.args.draft.now c.step.new.self c.args.from.place c.args.from.width c.in_ok-place.place c.args.low
    (c.args.high + 1 - c.args.low) bits narrow c.in_ok-place.ensures.grows c.in_ok-place.ensures.added found
