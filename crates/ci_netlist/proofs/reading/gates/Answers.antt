use Rattle.std.proofs.Common.{◌≡◌, ◌-◌, sym, ap, ◌∙◌, arith}
use Rattle.std.proofs.lemmas.Result.{err_from_is_err_and}
use Rattle.ci_reading.specs.LineReading.{stop}
use Rattle.ci_reading.proofs.Repetitions.{no_front}
use Rattle.ci_netlist.specs.private.Reading.{gates_read}
use Rattle.ci_netlist.proofs.ReadingLoops.{next_gate, gate_stops, gates_end}
use Rattle.ci_netlist.proofs.reading.gates.Goals as goal

pub loop-made-init : goal.loop-made-init
loop-made-init c = rw c.in_ok-gates.ensures.items (no_front (gates_read 0 (c.args.count - 0) c.args.bytes.now)
    ∙ ap (λ n. gates_read 0 n c.args.bytes.now) (let e : c.args.count - 0 ≡ c.args.count = omega arith in e))

pub returns-in_err-gate : goal.returns-in_err-gate
returns-in_err-gate c =
    let p = err_from_is_err_and c.from_residual-in_err-gate.result c.from_residual-in_err-gate.ensures.1 in
    let before = c.loop-made in
    rw (p.1, p.2)
    (sym before.invariant
    ∙ gate_stops before.gates.items before.made c.args.count before.rest.now (stop c.in_err-gate.field-0.0.left)
    c.loop-made-test.true c.in_err-gate.ensures)

pub loop-made-preserved : goal.loop-made-preserved
loop-made-preserved c =
    let before = c.loop-made in
    let read = c.in_ok-gate in
    rw c.in_ok-push.ensures.items
    (next_gate before.gates.items before.made c.args.count before.rest.now read.gate read.after.now
    c.loop-made-test.true read.ensures
    ∙ before.invariant)

pub returns : goal.returns
returns c =
    sym c.loop-made.invariant
    ∙ gates_end c.loop-made.gates.items c.loop-made.made c.args.count c.loop-made.rest.now c.loop-made-test.false
