use Rattle.std.proofs.Common.{◌-◌, ◌+◌, arith, sym, inl, inr}
use Rattle.ci_vread.specs.private.Building.{left, begins_wire, wire_of, wires_of}
use Rattle.ci_vread.proofs.ManyTokens.{goes_on, stops}
use Rattle.ci_vread.proofs.building.Builder.wires.Goals as goal
use Rattle.ci_vread.proofs.building.Builder.wires.Goals.{else-loop-number-test, then-loop-number-test+then-not-begins}

pub loop-number-preserved : goal.loop-number-preserved
loop-number-preserved c =
    goes_on begins_wire (λ k rest. wire_of rest) (wires_of (left c.args.self.now)) (2048 - c.loop-number.number)
    (2048 - (c.loop-number.number + 1)) c.loop-number.number c.loop-number.wires.items c.push.new.self.items c.in_ok-wire.field-0
    (left c.loop-number.self) (left c.wire.new.self) (omega arith) (sym c.if-not-begins.ensures)
    c.in_ok-wire.ensures.value c.in_ok-wire.ensures.rest c.in_ok-push.ensures.items c.loop-number.invariant

pub returns : goal.returns
returns c =
    let whole =
    stops begins_wire (λ k rest. wire_of rest) (wires_of (left c.args.self.now)) (2048 - c.loop-number.number)
    c.loop-number.number c.loop-number.wires.items (left c.loop-number.self)
    (elim c.loop-number-test.branch [
      | else-loop-number-test w ↦ inl (omega arith)
      | then-loop-number-test+then-not-begins w ↦ inr (sym w.if-not-begins.ensures)
    ])
    c.loop-number.invariant in
    record { value = whole.0; rest = whole.1 }
