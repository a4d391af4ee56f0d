use Rattle.std.proofs.Common.{sym, subst, None}
use Rattle.ci_vread.specs.Grammar.{ended}
use Rattle.ci_vread.specs.private.Tables.{end_of}
use Rattle.ci_vread.specs.private.Checked.{StepsOn}
use Rattle.ci_vread.proofs.seen.Seen.end.Goals as goal

pub returns-in-Simple-clause-on : goal.returns-in-Simple-clause-on
returns-in-Simple-clause-on c =
    subst (λ w. StepsOn c.args.self.now c.end_simple.new.self c.end_simple.result (ended (end_of w))) (sym c.in-Simple.is) c.end_simple.ensures.on

pub returns-in_ok-end_term-in-Term-clause-on : goal.returns-in_ok-end_term-in-Term-clause-on
returns-in_ok-end_term-in-Term-clause-on c =
    subst (λ w. StepsOn c.args.self.now c.end_term.new.self None (ended (end_of w))) (sym c.in-Term.is) c.in_ok-end_term-in-Term.ensures.on

pub returns-in-Side-clause-on : goal.returns-in-Side-clause-on
returns-in-Side-clause-on c =
    subst (λ w. StepsOn c.args.self.now c.end_side.new.self c.end_side.result (ended (end_of w))) (sym c.in-Side.is) c.end_side.ensures.on

pub returns-in-Condition-clause-on : goal.returns-in-Condition-clause-on
returns-in-Condition-clause-on c =
    subst (λ w. StepsOn c.args.self.now c.end_condition.new.self c.end_condition.result (ended (end_of w))) (sym c.in-Condition.is) c.end_condition.ensures.on

pub returns-in-Branch-clause-on : goal.returns-in-Branch-clause-on
returns-in-Branch-clause-on c =
    subst (λ w. StepsOn c.args.self.now c.end_branch.new.self c.end_branch.result (ended (end_of w))) (sym c.in-Branch.is) c.end_branch.ensures.on

pub returns-in-Operand-clause-on : goal.returns-in-Operand-clause-on
returns-in-Operand-clause-on c =
    subst (λ w. StepsOn c.args.self.now c.end_operand.new.self c.end_operand.result (ended (end_of w))) (sym c.in-Operand.is) c.end_operand.ensures.on

pub returns-in_ok-end_wire-in-Wire-clause-on : goal.returns-in_ok-end_wire-in-Wire-clause-on
returns-in_ok-end_wire-in-Wire-clause-on c =
    subst (λ w. StepsOn c.args.self.now c.end_wire.new.self None (ended (end_of w))) (sym c.in-Wire.is) c.in_ok-end_wire-in-Wire.ensures.on

pub returns-in-Wires-clause-on : goal.returns-in-Wires-clause-on
returns-in-Wires-clause-on c =
    subst (λ w. StepsOn c.args.self.now c.end_wires.new.self None (ended (end_of w))) (sym c.in-Wires.is) c.end_wires.ensures.on

pub returns-in_ok-end_three-in-Three-clause-on : goal.returns-in_ok-end_three-in-Three-clause-on
returns-in_ok-end_three-in-Three-clause-on c =
    subst (λ w. StepsOn c.args.self.now c.end_three.new.self None (ended (end_of w))) (sym c.in-Three.is) c.in_ok-end_three-in-Three.ensures.on
