use Rattle.std.proofs.Common.{sym, subst}
use Rattle.ci_verilog.specs.declared.expressions.Item.TheVariants.{Plain, Repeat}
use Rattle.ci_verilog.specs.Modules.{known_by, IsSimple, IsItem}
use Rattle.ci_verilog.proofs.WidthLaws.{Tells, tells_too, plain_item_parts, repeat_item_parts, repeat_tells}
use Rattle.ci_verilog.proofs.wires.Wires.item_width.Goals as goal

pub returns-in-Plain : goal.returns-in-Plain
returns-in-Plain c =
    let known = known_by c.args.self.now in
    subst (λ item. Tells (IsItem known item) c.simple_width.result) (sym c.in-Plain.is)
    (tells_too (IsSimple known c.in-Plain.simple) (IsItem known (Plain c.in-Plain.simple)) c.simple_width.result
    c.simple_width.ensures (λ w is. IsItem.plain is) (plain_item_parts known c.in-Plain.simple))

pub returns-in-Some : goal.returns-in-Some
returns-in-Some c =
    let known = known_by c.args.self.now in
    let count = c.in-Repeat.count in
    let simple = c.in-Repeat.simple in
    subst (λ item. Tells (IsItem known item) c.repeated.result) (sym c.in-Repeat.is)
    (repeat_tells known (IsItem known (Repeat count simple)) count simple c.in-Some.width c.simple_width-in-Repeat.result
    c.repeated.result c.in-Some.is c.simple_width-in-Repeat.ensures c.repeated.ensures
    (λ u some narrow is. IsItem.repeat some narrow is) (repeat_item_parts known count simple))
