use Rattle.std.proofs.Common.{◌-◌, ◌+◌, [], ◌∷◌, ◌++◌, drop, arith, sym, ap, ◌∙◌, inl, inr}
use Rattle.ci_vread.specs.private.Building.{left, begins_item, item_of, items_of}
use Rattle.ci_vread.proofs.ManyTokens.{goes_on, stops, items_begun}
use Rattle.ci_vread.proofs.building.Builder.items.Goals as goal
use Rattle.ci_vread.proofs.building.Builder.items.Goals.{else-loop-count-test, then-loop-count-test+then-not-begins}

pub loop-count-init : goal.loop-count-init
loop-count-init c =
    items_begun (left c.args.self.now) (left c.item.new.self) c.in_ok-item.field-0 c.push.new.self c.in_ok-item.ensures.value
    c.in_ok-item.ensures.rest (c.in_ok-push.ensures.ok ∙ ap (λ xs. xs ++ c.in_ok-item.field-0 ∷ []) c.new-items.ensures)

pub loop-count-preserved : goal.loop-count-preserved
loop-count-preserved c =
    goes_on begins_item (λ k rest. item_of (drop 1 rest)) (items_of (left c.args.self.now)) (64 - c.loop-count._count)
    (64 - (c.loop-count._count + 1)) c.loop-count._count c.loop-count.items c.push-in-loop-count.new.self c.in_ok-item-2.field-0
    (left c.loop-count.self) (left c.item-in-loop-count.new.self) (omega arith) (sym c.if-not-begins.ensures)
    (c.in_ok-item-2.ensures.value ∙ ap (λ ts. (item_of ts).0) c.pass.ensures)
    (c.in_ok-item-2.ensures.rest ∙ ap (λ ts. (item_of ts).1) c.pass.ensures) c.in_ok-push-2.ensures.ok c.loop-count.invariant

pub returns : goal.returns
returns c =
    let whole =
    stops begins_item (λ k rest. item_of (drop 1 rest)) (items_of (left c.args.self.now)) (64 - c.loop-count._count)
    c.loop-count._count c.loop-count.items (left c.loop-count.self)
    (elim c.loop-count-test.branch [
      | else-loop-count-test w ↦ inl (omega arith)
      | then-loop-count-test+then-not-begins w ↦ inr (sym w.if-not-begins.ensures)
    ])
    c.loop-count.invariant in
    record { value = whole.0; rest = whole.1 }
