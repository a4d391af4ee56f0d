use Rattle.std.proofs.Common.{◌≡◌, ℕ, Bool, List, take, ◌+◌, sym, ap, ◌∙◌, subst, get_or}
use Rattle.ci_live.specs.private.Found.{AreVisits, IsTransfer}
use Rattle.ci_live.proofs.VisitLaws.{visit_changed, visit_unchanged}
use Rattle.ci_live.proofs.iteration.visit.Goals as goal
use Rattle.ci_live.proofs.iteration.visit.Goals.{then-transfer+in_ok-push, else-transfer}

pub loop-number-preserved : goal.loop-number-preserved
loop-number-preserved c =
    let flows = c.args.flows.now in
    let order : List ℕ = c.args.order.now in
    let i : ℕ = c.loop-number.number-index in
    let transferred = λ (b : Bool) (same : c.transfer.result ≡ b). subst
    (λ changes. IsTransfer flows c.loop-number.found c.transfer.new.self (get_or order i 0) changes) same
    c.transfer.ensures.transfer in
    elim c.if-transfer.branch [
      | then-transfer+in_ok-push w ↦
          subst (λ (changed : List ℕ). AreVisits flows c.args.found.now c.transfer.new.self (take (i + 1) order) changed)
          (sym (ap (λ v. v.items) w.changed-is ∙ w.in_ok-push.ensures.items))
          (visit_changed flows c.args.found.now c.loop-number.found c.transfer.new.self order
          c.loop-number.changed.items i c.loop-number-test.true c.loop-number.invariant c.transfer.ensures.sound
          (transferred _ w.if-transfer.true) _)
      | else-transfer w ↦
          subst (λ (changed : List ℕ). AreVisits flows c.args.found.now c.transfer.new.self (take (i + 1) order) changed)
          (sym (ap (λ v. v.items) w.changed-is))
          (visit_unchanged flows c.args.found.now c.loop-number.found c.transfer.new.self order
          c.loop-number.changed.items i c.loop-number-test.true c.loop-number.invariant c.transfer.ensures.sound
          (transferred _ w.if-transfer.false))
    ]
