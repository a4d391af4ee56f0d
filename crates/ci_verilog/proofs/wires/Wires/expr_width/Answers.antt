use Rattle.std.proofs.Common.{sym, subst}
use Rattle.ci_verilog.specs.Modules.{known_by, IsExpr}
use Rattle.ci_verilog.proofs.WidthLaws.{Tells, term_tells, two_tell, choice_tells}
use Rattle.ci_verilog.proofs.wires.Wires.expr_width.Goals as goal

pub returns-in-One : goal.returns-in-One
returns-in-One c =
    let known = known_by c.args.self.now in
    subst (λ expr. Tells (IsExpr known expr) c.term_width.result) (sym c.in-One.is)
    (term_tells known c.in-One.term c.term_width.result c.term_width.ensures)

pub returns-in_ok-right-in-Two : goal.returns-in_ok-right-in-Two
returns-in_ok-right-in-Two c =
    let known = known_by c.args.self.now in
    subst (λ expr. Tells (IsExpr known expr) c.made.result) (sym c.in-Two.is)
    (two_tell known c.in-Two.operator c.in-Two.left c.in-Two.right c.in_ok-left-in-Two.left c.in_ok-right-in-Two.right
    c.term_width-in-Two.result c.term_width-in-Two-2.result c.made.result c.in_ok-left-in-Two.was c.in_ok-right-in-Two.was
    c.term_width-in-Two.ensures c.term_width-in-Two-2.ensures c.made.ensures)

pub returns-in_ok-second-in-Choose : goal.returns-in_ok-second-in-Choose
returns-in_ok-second-in-Choose c =
    let known = known_by c.args.self.now in
    subst (λ expr. Tells (IsExpr known expr) c.chosen.result) (sym c.in-Choose.is)
    (choice_tells known c.in-Choose.test c.in-Choose.first c.in-Choose.second c.in_ok-test-in-Choose.test c.in_ok-first-in-Choose.first
    c.in_ok-second-in-Choose.second c.term_width-in-Choose.result c.term_width-in-Choose-2.result
    c.term_width-in-Choose-3.result c.chosen.result c.in_ok-test-in-Choose.was c.in_ok-first-in-Choose.was c.in_ok-second-in-Choose.was
    c.term_width-in-Choose.ensures c.term_width-in-Choose-2.ensures c.term_width-in-Choose-3.ensures c.chosen.ensures)
