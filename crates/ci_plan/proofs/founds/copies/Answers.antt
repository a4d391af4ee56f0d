use Rattle.std.proofs.Common.{rules, subst}
use Rattle.ci_plan.specs.private.Drafts.{HasNumber}
use Rattle.ci_plan.proofs.FoundLaws.{copies_found}
use Rattle.ci_plan.proofs.founds.copies.Goals as goal

pub returns-clause-found : goal.returns-clause-found
returns-clause-found c m bits found =
    copies_found m c.args.draft.now c.number.new.self c.step.new.self c.args.from.place c.args.from.width c.in_ok-number.number
    c.in_ok-place.place c.args.count bits c.in_ok-number.ensures.grows
    (subst (λ n. HasNumber c.number.new.self c.in_ok-number.number n) c.factor.ensures c.in_ok-number.ensures.number)
    c.in_ok-place.ensures.grows c.in_ok-place.ensures.added (search rules) found
