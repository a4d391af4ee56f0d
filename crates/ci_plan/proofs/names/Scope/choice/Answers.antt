use Rattle.std.proofs.lemmas.Option.{IfSome_then}
use Rattle.ci_verilog.specs.Values.{term_bits}
use Rattle.ci_plan.proofs.DraftLaws.{grows_on, stands_for_later}
use Rattle.ci_plan.proofs.FoundLaws.{if_both, choice_stands}
use Rattle.ci_plan.proofs.NameLaws.{held_later}
use Rattle.ci_plan.proofs.names.Scope.choice.Goals as goal

pub term-requires-2 : goal.term-requires-2
term-requires-2 c =
    held_later c.args.self.now.module.now c.args.self.now.wires.now c.args.draft.now c.term.new.draft c.in_ok-test.ensures.grows c.requires

pub term-requires-3 : goal.term-requires-3
term-requires-3 c =
    let d0 = c.args.draft.now in
    let d1 = c.term.new.draft in
    let d2 = c.term-2.new.draft in
    held_later c.args.self.now.module.now c.args.self.now.wires.now d0 d2
    (grows_on d0 d1 d2 c.in_ok-test.ensures.grows c.in_ok-first.ensures.grows) c.requires

pub returns-clause-grows : goal.returns-clause-grows
returns-clause-grows c =
    let d0 = c.args.draft.now in
    let d1 = c.term.new.draft in
    let d2 = c.term-2.new.draft in
    let d3 = c.term-3.new.draft in
    let d4 = c.step.new.self in
    IfSome_then c.step.result c.step.ensures.grows
    (λ place more.
    grows_on d0 d1 d4 c.in_ok-test.ensures.grows
    (grows_on d1 d2 d4 c.in_ok-first.ensures.grows (grows_on d2 d3 d4 c.in_ok-second.ensures.grows more)))

pub returns-clause-stands : goal.returns-clause-stands
returns-clause-stands c =
    let m = c.args.self.now.module.now in
    let d1 = c.term.new.draft in
    let d2 = c.term-2.new.draft in
    let d3 = c.term-3.new.draft in
    let t = c.in_ok-test.test in
    let f = c.in_ok-first.first in
    let s = c.in_ok-second.second in
    if_both c.step.result c.step.ensures.grows c.step.ensures.added
    (λ place more added.
    choice_stands m d3 c.step.new.self c.args.test.now c.args.first.now c.args.second.now t.place f.place s.place place t.width
    f.width s.width more added
    (stands_for_later m d1 d3 t.place t.width (λ names. term_bits names c.args.test.now)
    (grows_on d1 d2 d3 c.in_ok-first.ensures.grows c.in_ok-second.ensures.grows) c.in_ok-test.ensures.found)
    (stands_for_later m d2 d3 f.place f.width (λ names. term_bits names c.args.first.now) c.in_ok-second.ensures.grows c.in_ok-first.ensures.found)
    c.in_ok-second.ensures.found)
