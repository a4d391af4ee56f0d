use Rattle.std.proofs.Common.{arith, sym, ◌∙◌, ap, subst}
use Rattle.std.proofs.lemmas.Result.{err_from_is_err_and}
use Rattle.ci_log.specs.private.Reading.{Fails, trees}
use Rattle.ci_log.proofs.TreeReading.{behind_items, next_item, item_fails, no_tree_due, none_before, item_length, due_most}
use Rattle.ci_log.proofs.trees.tree.Goals as goal

pub returns-in_err-item : goal.returns-in_err-item
returns-in_err-item c =
    let p = err_from_is_err_and c.from_residual.result c.from_residual.ensures.1 in
    let e = c.in_err-item.field-0.0 in
    rw (p.1, p.2) (subst (Fails e) c.loop-due.invariant.0
    (item_fails e c.loop-due.items.items c.loop-due.due c.loop-due.rest.now c.loop-due-test.true
    c.in_err-item.ensures))

pub loop-due-init : goal.loop-due-init
loop-due-init c = (ap (λ items. behind_items items (trees 1 c.args.bytes.now)) c.new-items.ensures.items ∙ none_before (trees 1 c.args.bytes.now), omega arith)

pub loop-due-preserved : goal.loop-due-preserved
loop-due-preserved c =
    let items = c.loop-due.items.items in
    let i = c.in_ok-item.item in
    let after = c.in_ok-item.after.now in (
      rw (c.in_ok-push.ensures.items, c.due_behind-due.ensures)
          (sym (next_item items c.loop-due.due c.loop-due.rest.now after i c.loop-due-test.true
          c.in_ok-item.ensures) ∙ c.loop-due.invariant.0),
      omega (
        arith,
        c.loop-due.invariant.1,
        c.due_behind-due.ensures,
        due_most i c.loop-due.due c.loop-due-test.true,
        item_length c.loop-due.rest.now after i c.in_ok-item.ensures,
      ),
    )

pub returns : goal.returns
returns c = sym c.loop-due.invariant.0 ∙ no_tree_due c.loop-due.items.items c.loop-due.due c.loop-due.rest.now (omega (arith, c.loop-due-test.false))
