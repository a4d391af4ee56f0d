use Rattle.std.proofs.Common.{sym, ◌∙◌, ap}
use Rattle.ci_select.specs.Histories.{leader_of}
use Rattle.ci_select.proofs.JudgeLaws.{judged_best, judged_without}
use Rattle.ci_select.proofs.acceptance.wrong_search.Goals as goal

pub returns-in-Best : goal.returns-in-Best
returns-in-Best c =
    rw c.in-Best.is
    (judged_best c.args.graph.now c.args.plan.now c.args.leader c.in-Best.leader c.in-Best.cut c.in-Best.log c.wrong_item.result
    (sym (ap leader_of c.in-Best.is) ∙ sym c.leader_of.ensures ∙ c.if-leader_of-leader.false) c.wrong_item.ensures)

pub returns-in-Without : goal.returns-in-Without
returns-in-Without c =
    rw c.in-Without.is
    (judged_without c.args.graph.now c.args.plan.now c.args.leader c.in-Without.leader c.in-Without.log c.wrong_item-in-Without.result
    (sym (ap leader_of c.in-Without.is) ∙ sym c.leader_of.ensures ∙ c.if-leader_of-leader.false) c.wrong_item-in-Without.ensures)
