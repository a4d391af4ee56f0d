use Rattle.std.proofs.Common.{◌≡◌, arith, subst}
use Rattle.ci_plan.specs.private.Drafts.{StandsFor}
use Rattle.ci_plan.proofs.FoundLaws.{if_both, signed_product_stands}
use Rattle.ci_plan.proofs.names.Scope.signed_product.Goals as goal

pub returns-clause-stands : goal.returns-clause-stands
returns-clause-stands c =
    let m = c.args.self.now.module.now in
    let old = c.args.draft.now in
    let l = c.in_ok-first.first in
    let r = c.in_ok-second.second in
    let left = c.args.left.now in
    let right = c.args.right.now in
    if_both c.step.result c.step.ensures.grows c.step.ensures.added
    (λ place more added.
    signed_product_stands m old c.step.new.self l.place r.place place (λ names. names left) (λ names. names right) more added
    (subst (λ w. StandsFor m old l.place w (λ names. names left)) (let e : l.width ≡ 32 = omega arith in e) (c.in_ok-first.ensures old c.requires))
    (subst (λ w. StandsFor m old r.place w (λ names. names right)) (let e : r.width ≡ 32 = omega arith in e) (c.in_ok-second.ensures old c.requires)))
