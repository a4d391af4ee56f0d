use Rattle.std.proofs.Common.{arith, refl, zero-le}
use Rattle.ci_log.proofs.PackingLaws.{writes_nothing, next_item_written, items_written}
use Rattle.ci_log.proofs.packing.push_items.Goals as goal

pub loop-item-init : goal.loop-item-init
loop-item-init c = (writes_nothing _ _, tt, zero-le)

pub push_item-requires-clause-few : goal.push_item-requires-clause-few
push_item-requires-clause-few c = omega (arith, c.loop-item.invariant.2, c.loop-item-test.true)

pub loop-item-preserved : goal.loop-item-preserved
loop-item-preserved c = (
  next_item_written _ _ _ _ _ _ c.args.items.now c.loop-item.item-index _ _ c.loop-item-test.true refl c.loop-item.invariant.0
      c.in_ok-waiting.ensures.written,
  c.in_ok-waiting.ensures.half,
  omega (arith, c.loop-item.invariant.2, c.in_ok-waiting.ensures.few),
)

pub returns-clause-written : goal.returns-clause-written
returns-clause-written c = items_written _ _ _ _ c.args.items.now c.loop-item.item-index c.loop-item.invariant.0 (omega (arith, c.loop-item-test.false))
