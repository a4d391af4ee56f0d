use Rattle.std.proofs.Common.{subst}
use Rattle.std.proofs.lemmas.Option.{IfSome_then}
use Rattle.ci_verilog.specs.Values.{term_bits}
use Rattle.ci_plan.specs.private.Drafts.{MakesAs}
use Rattle.ci_plan.proofs.DraftLaws.{grows_on, stands_for_later}
use Rattle.ci_plan.proofs.FoundLaws.{if_both, two_stand}
use Rattle.ci_plan.proofs.NameLaws.{held_later}
use Rattle.ci_plan.proofs.names.Scope.two.Goals as goal

pub term-requires-2 : goal.term-requires-2
term-requires-2 c =
    held_later c.args.self.now.module.now c.args.self.now.wires.now c.args.draft.now c.term.new.draft c.in_ok-first.ensures.grows c.requires

pub returns-clause-grows : goal.returns-clause-grows
returns-clause-grows c =
    let d1 = c.term.new.draft in
    let d2 = c.term-2.new.draft in
    IfSome_then c.step.result c.step.ensures.grows
    (λ place more.
    grows_on c.args.draft.now d1 c.step.new.self c.in_ok-first.ensures.grows
    (grows_on d1 d2 c.step.new.self c.in_ok-second.ensures.grows more))

pub returns-clause-stands : goal.returns-clause-stands
returns-clause-stands c =
    let m = c.args.self.now.module.now in
    let d1 = c.term.new.draft in
    let d2 = c.term-2.new.draft in
    let l = c.in_ok-first.first in
    let r = c.in_ok-second.second in
    if_both c.step.result c.step.ensures.grows c.step.ensures.added
    (λ place more added.
    two_stand m d2 c.step.new.self c.by_number-step.result c.args.operator c.args.left.now c.args.right.now l.place r.place place
    l.width r.width c.in_ok-second.ensures.grows.is_draft more added
    (subst (λ s. MakesAs d2 s c.by_number-step.result) c.in_ok-step.ensures.is c.by_number-step.ensures) c.in_ok-step.ensures.agree
    (stands_for_later m d1 d2 l.place l.width (λ names. term_bits names c.args.left.now) c.in_ok-second.ensures.grows c.in_ok-first.ensures.found)
    c.in_ok-second.ensures.found)
