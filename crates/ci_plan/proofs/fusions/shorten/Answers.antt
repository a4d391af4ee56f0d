use Rattle.std.proofs.Common.{◌≡◌, ℕ, ◌+◌, ◌≤◌, List, Option, arith, ap, subst, length, slice_index_or}
use Rattle.ci_plan.specs.declared.founds.Found.{Found}
use Rattle.ci_plan.specs.private.Fusions.{Replaces, IsLeft}
use Rattle.ci_plan.proofs.FusionLaws.{held_left, replaced_for}
use Rattle.ci_plan.proofs.fusions.shorten.Goals as goal

pub returns-clause-held : goal.returns-clause-held
returns-clause-held c m k held =
    let old = c.args.draft.now in
    let f = c.in-Some.fusion in
    let makes : Replaces old.steps f.many f.step =
    subst (λ steps. Replaces steps f.many f.step) c.steps-2.ensures.steps c.in-Some.ensures in
    let some : 1 ≤ f.many = let e = makes.many_is in omega (arith, e) in
    let end : length c.steps.result.now ≡ length old.steps = ap length c.steps.ensures.steps in
    let room = c.requires.room in
    let within = c.requires.numbers_within in
    held_left m old c.replace-place.new.self f.many c.replace-place.result f.step c.requires c.replace-place.ensures.replaced some
    makes.few k c.args.found.now c.forget.new.found c.forget.ensures.room c.replace-place.ensures.draft
    (λ j d below.
    subst (λ n. IsLeft c.replace-place.result n (slice_index_or c.args.found.now j d) (slice_index_or c.forget.new.found j d))
    (omega (arith, end, room, within)) (c.forget.ensures.left j d below)) held

pub returns-clause-found : goal.returns-clause-found
returns-clause-found c m bits stands =
    let old = c.args.draft.now in
    let f = c.in-Some.fusion in
    let makes : Replaces old.steps f.many f.step =
    subst (λ steps. Replaces steps f.many f.step) c.steps-2.ensures.steps c.in-Some.ensures in
    let some : 1 ≤ f.many = let e = makes.many_is in omega (arith, e) in
    let end : length c.steps.result.now ≡ length old.steps = ap length c.steps.ensures.steps in
    replaced_for m old c.replace-place.new.self f.many c.replace-place.result f.step c.requires c.replace-place.ensures.replaced some
    makes.few c.args.last.place c.args.last.width bits makes (omega (arith, end)) stands
