use Rattle.std.proofs.Common.{sym, subst, ◌≤◌}
use Rattle.ci_verilog.specs.declared.expressions.Term.TheVariants.{Plain, Repeat}
use Rattle.ci_verilog.specs.Modules.{known_by, IsSimple, AreItems, IsTerm}
use Rattle.ci_verilog.proofs.WidthLaws.{Tells, tells_too, plain_term_parts, repeat_term_parts, repeat_tells, join_tells}
use Rattle.ci_verilog.proofs.wires.Wires.term_width.Goals as goal

pub returns-in-Plain : goal.returns-in-Plain
returns-in-Plain c =
    let known = known_by c.args.self.now in
    subst (λ term. Tells (IsTerm known term) c.simple_width.result) (sym c.in-Plain.is)
    (tells_too (IsSimple known c.in-Plain.simple) (IsTerm known (Plain c.in-Plain.simple)) c.simple_width.result
    c.simple_width.ensures (λ w is. IsTerm.plain is) (plain_term_parts known c.in-Plain.simple))

pub returns-in-Some : goal.returns-in-Some
returns-in-Some c =
    let known = known_by c.args.self.now in
    let count = c.in-Repeat.count in
    let simple = c.in-Repeat.simple in
    subst (λ term. Tells (IsTerm known term) c.repeated.result) (sym c.in-Repeat.is)
    (repeat_tells known (IsTerm known (Repeat count simple)) count simple c.in-Some.width c.simple_width-in-Repeat.result
    c.repeated.result c.in-Some.is c.simple_width-in-Repeat.ensures c.repeated.ensures
    (λ u some narrow is. IsTerm.repeat some narrow is) (repeat_term_parts known count simple))

pub returns-in-Join : goal.returns-in-Join
returns-in-Join c =
    let known = known_by c.args.self.now in
    let told = subst (λ items. Tells (λ w. AreItems known items w × (w ≤ 64)) c.items_width.result) c.as_slice.ensures c.items_width.ensures in
    subst (λ term. Tells (IsTerm known term) c.items_width.result) (sym c.in-Join.is)
    (join_tells known c.in-Join.items c.items_width.result told)
