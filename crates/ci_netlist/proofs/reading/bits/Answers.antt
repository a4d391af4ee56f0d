use Rattle.std.proofs.Common.{◌≡◌, sym, subst, ◌∙◌, Ok, Err}
use Rattle.std.proofs.lemmas.Result.{err_from_is_err_and}
use Rattle.ci_reading.specs.LineReading.{stop}
use Rattle.ci_reading.proofs.Repetitions.{no_front}
use Rattle.ci_netlist.specs.private.Reading.{bits_read, bit_read}
use Rattle.ci_netlist.proofs.ReadingLoops.{next_bit, bit_stops, bits_end}
use Rattle.ci_netlist.proofs.reading.bits.Goals as goal

pub loop-k-init : goal.loop-k-init
loop-k-init c = rw c.in_ok-bits.ensures.items (no_front (bits_read c.args.made 32 c.args.bytes.now))

pub returns-in_err-bit : goal.returns-in_err-bit
returns-in_err-bit c =
    let p = err_from_is_err_and c.from_residual-in_err-bit.result c.from_residual-in_err-bit.ensures.1 in
    let before = c.loop-k in
    let made = c.args.made in
    let stopped = stop c.in_err-bit.field-0.0.left in
    rw (p.1, p.2)
    (sym before.invariant
    ∙ bit_stops before.bits.items made before.k before.rest.now stopped c.loop-k-test.true
    (subst (λ e. bit_read made e before.rest.now ≡ Err stopped) c.end_of.ensures.value c.in_err-bit.ensures))

pub loop-k-preserved : goal.loop-k-preserved
loop-k-preserved c =
    let before = c.loop-k in
    let made = c.args.made in
    let read = c.in_ok-bit in
    rw c.in_ok-push.ensures.items
    (next_bit before.bits.items made before.k before.rest.now read.bit read.after.now c.loop-k-test.true
    (subst (λ e. bit_read made e before.rest.now ≡ Ok (read.bit, read.after.now)) c.end_of.ensures.value read.ensures)
    ∙ before.invariant)

pub returns : goal.returns
returns c =
    sym c.loop-k.invariant ∙ bits_end c.loop-k.bits.items c.args.made c.loop-k.k c.loop-k.rest.now c.loop-k-test.false
