use Rattle.std.proofs.Common.{◌≡◌, ◌++◌, ap, arith, sym, length, length-append}
use Rattle.ci_log.specs.Books.{first_line}
use Rattle.std.proofs.lemmas.Bool.{eqb-true}
use Rattle.std.proofs.lemmas.Bool.Decides.{nat_tests}
use Rattle.ci_log.proofs.EntryReading.{header_read}
use Rattle.ci_log.proofs.OneFault.{header_failure, body_failure, body_left, rest_left, book_read, more_read}
use Rattle.ci_log.proofs.reading.book_or_fault.Goals as goal

pub returns-in-Err-clause-fault : goal.returns-in-Err-clause-fault
returns-in-Err-clause-fault c = rw c.header_fault.ensures (header_failure c.args.bytes.now c.in-Err.stop.left c.requires c.in-Err.ensures)

pub body-requires : goal.body-requires
body-requires c =
    let first : length c.args.bytes.now ≡ length (first_line c.in-Ok.read.0 ++ c.in-Ok.read.1.now) =
    ap length (header_read c.args.bytes.now c.in-Ok.read.1.now c.in-Ok.read.0 c.requires c.in-Ok.ensures) in
    omega (arith, c.requires, first, length-append (first_line c.in-Ok.read.0) c.in-Ok.read.1.now)

pub fault_at-requires-clause-left : goal.fault_at-requires-clause-left
fault_at-requires-clause-left c =
    body_left c.in-Ok.read.0 c.args.bytes.now c.in-Ok.read.1.now c.in-Err-body.failure
    (header_read c.args.bytes.now c.in-Ok.read.1.now c.in-Ok.read.0 c.requires c.in-Ok.ensures) c.requires
    c.in-Err-body.ensures

pub returns-in-Err-body-clause-fault : goal.returns-in-Err-body-clause-fault
returns-in-Err-body-clause-fault c =
    rw c.fault_at.ensures
    (body_failure c.in-Ok.read.0 c.args.bytes.now c.in-Ok.read.1.now c.in-Err-body.failure
    (header_read c.args.bytes.now c.in-Ok.read.1.now c.in-Ok.read.0 c.requires c.in-Ok.ensures) c.requires
    c.in-Err-body.ensures)

pub overflow_sub-result : goal.overflow_sub-result
overflow_sub-result c =
    rest_left c.in-Ok.read.0 c.args.bytes.now c.in-Ok.read.1.now c.in-Ok-body.read.1.now c.in-Ok-body.read.0
    (header_read c.args.bytes.now c.in-Ok.read.1.now c.in-Ok.read.0 c.requires c.in-Ok.ensures) c.requires c.in-Ok-body.ensures

pub returns-then-is_empty-clause-book : goal.returns-then-is_empty-clause-book
returns-then-is_empty-clause-book c =
    book_read c.in-Ok.read.0 c.args.bytes.now c.in-Ok.read.1.now c.in-Ok-body.read.1.now c.in-Ok-body.read.0
    (header_read c.args.bytes.now c.in-Ok.read.1.now c.in-Ok.read.0 c.requires c.in-Ok.ensures) c.requires c.in-Ok-body.ensures
    (eqb-true (length c.in-Ok-body.read.1.now) 0 (sym c.if-is_empty.ensures))

pub returns-else-is_empty-clause-fault : goal.returns-else-is_empty-clause-fault
returns-else-is_empty-clause-fault c =
    more_read c.in-Ok.read.0 c.args.bytes.now c.in-Ok.read.1.now c.in-Ok-body.read.1.now c.in-Ok-body.read.0
    (header_read c.args.bytes.now c.in-Ok.read.1.now c.in-Ok.read.0 c.requires c.in-Ok.ensures) c.requires c.in-Ok-body.ensures
    (let e = c.if-is_empty.ensures in grind (arith, nat_tests, e))
