-- The addresses before the present one are no text.
use Rattle.std.proofs.Common.{◌∙◌, sym}
use Rattle.ci_machine.specs.Programs.{in_text}
use Rattle.ci_machine.specs.States.{program_of}
use Rattle.ci_machine.proofs.AccessLaws.{find_here, find_later, find_none}
use Rattle.ci_machine.proofs.state.State.first_in_text.Goals as goal

pub returns-then-in_text : goal.returns-then-in_text
returns-then-in_text c =
    sym (c.loop-i.invariant
    ∙ find_here (in_text (program_of c.args.self.now)) c.args.count c.loop-i.i c.args.address c.loop-i-test.true (sym c.in_text.ensures ∙ c.if-in_text.true))

pub loop-i-preserved : goal.loop-i-preserved
loop-i-preserved c =
    c.loop-i.invariant
    ∙ find_later (in_text (program_of c.args.self.now)) c.args.count c.loop-i.i c.args.address c.loop-i-test.true (sym c.in_text.ensures ∙ c.if-in_text.false)

pub returns : goal.returns
returns c =
    sym (c.loop-i.invariant ∙ find_none (in_text (program_of c.args.self.now)) c.args.count c.loop-i.i c.args.address c.loop-i-test.false)
