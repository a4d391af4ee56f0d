use Rattle.std.proofs.Common.{arith, subst}
use Rattle.ci_plan.specs.private.Drafts.{StandsFor}
use Rattle.ci_plan.proofs.FoundLaws.{signed_found}
use Rattle.ci_plan.proofs.founds.signed.Goals as goal

pub returns-clause-found : goal.returns-clause-found
returns-clause-found c m bits found =
    signed_found m c.args.draft.now c.step.new.self c.args.from.place c.in_ok-place.place bits c.in_ok-place.ensures.grows
    c.in_ok-place.ensures.added (subst (λ w. StandsFor m c.args.draft.now c.args.from.place w bits) (omega arith) found)
