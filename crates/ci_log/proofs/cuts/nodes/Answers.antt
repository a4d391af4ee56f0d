use Rattle.std.proofs.Common.{arith, sym, ◌∙◌, ◌-◌, ◌+◌, ap, Ok}
use Rattle.std.specs.Ordering.{nat_cmp}
use Rattle.std.specs.FinSet as set
use Rattle.std.proofs.lemmas.Result.{err_from_is_err_and}
use Rattle.ci_reading.specs.LineReading.{stop}
use Rattle.ci_log.proofs.CutReading.{last_node, next_node, node_stops, no_node_left, node_small}
use Rattle.ci_log.proofs.cuts.nodes.Goals as goal

pub returns-in_err-node : goal.returns-in_err-node
returns-in_err-node c =
    let p = err_from_is_err_and c.from_residual.result c.from_residual.ensures.1 in
    rw (p.1, p.2)
    (sym c.loop.invariant.1
    ∙ node_stops c.loop.cut (256 - (c.loop.counter + 1)) (256 - c.loop.counter) c.loop.low c.loop.rest.now (omega (arith, c.loop-test.true))
    (stop c.in_err-node.field-0.0.left) c.in_err-node.ensures)

pub overflow_cast-node : goal.overflow_cast-node
overflow_cast-node c =
    omega (
      arith,
      (node_small c.loop.low c.in_ok-node.node c.in_ok-node.end c.loop.rest.now c.in_ok-node.after.now c.loop.invariant.0 c.in_ok-node.ensures).0,
    )

pub returns-then-end-eq10 : goal.returns-then-end-eq10
returns-then-end-eq10 c =
    sym c.loop.invariant.1
    ∙ (last_node c.loop.cut (256 - (c.loop.counter + 1)) (256 - c.loop.counter) c.loop.low c.loop.rest.now
    (omega (arith, c.loop-test.true)) c.in_ok-node.node c.in_ok-node.end c.in_ok-node.after.now
    c.in_ok-node.ensures c.if-end-eq10.true
    ∙ ap (λ (s : set.FinSet nat_cmp). Ok (s, c.in_ok-node.after.now)) (sym c.insert.ensures))

pub overflow_add-low : goal.overflow_add-low
overflow_add-low c =
    omega (
      arith,
      (node_small c.loop.low c.in_ok-node.node c.in_ok-node.end c.loop.rest.now c.in_ok-node.after.now c.loop.invariant.0 c.in_ok-node.ensures).0,
    )

pub loop-preserved : goal.loop-preserved
loop-preserved c = (
  (node_small c.loop.low c.in_ok-node.node c.in_ok-node.end c.loop.rest.now c.in_ok-node.after.now
      c.loop.invariant.0 c.in_ok-node.ensures).1 c.if-end-eq10.false,
  rw c.insert.ensures
      (sym (next_node c.loop.cut (256 - (c.loop.counter + 1)) (256 - c.loop.counter) c.loop.low c.loop.rest.now
      (omega (arith, c.loop-test.true)) c.in_ok-node.node c.in_ok-node.end c.in_ok-node.after.now
      c.in_ok-node.ensures c.if-end-eq10.false)
      ∙ c.loop.invariant.1),
)

pub returns : goal.returns
returns c = rw c.stopped.ensures (sym c.loop.invariant.1
    ∙ no_node_left c.loop.cut (256 - c.loop.counter) c.loop.low c.loop.rest.now (omega (arith, c.loop-test.false)))
