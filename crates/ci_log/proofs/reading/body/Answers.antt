use Rattle.std.proofs.Common.{arith}
use Rattle.std.proofs.lemmas.Result.{err_from_is_err_and}
use Rattle.ci_log.proofs.BookReading.{body_read}
use Rattle.ci_log.proofs.Loops.{rounds_fail, finish_fails, body_reads}
use Rattle.ci_log.proofs.reading.body.Goals as goal

pub rounds-requires : goal.rounds-requires
rounds-requires c = omega (arith, c.in_ok-entries.ensures.left, c.requires)

pub returns-in_err-entries-2 : goal.returns-in_err-entries-2
returns-in_err-entries-2 c =
    let p = err_from_is_err_and c.from_residual-in_err-entries-2.result c.from_residual-in_err-entries-2.ensures.1 in
    rw (p.1, p.2)
    (rounds_fail c.args.version c.args.bytes.now c.in_ok-entries.rest.now c.in_ok-entries.entries.items c.in_ok-entries.ensures.entries c.in_err-entries-2.field-0.0
    c.in_err-entries-2.ensures.entries)

pub returns-in_err-finish : goal.returns-in_err-finish
returns-in_err-finish c =
    let p = err_from_is_err_and c.from_residual-in_err-finish.result c.from_residual-in_err-finish.ensures.1 in
    rw (p.1, p.2)
    (finish_fails c.args.version c.args.bytes.now c.in_ok-entries.rest.now c.in_ok-entries.entries.items c.in_ok-entries.ensures.entries c.in_ok-entries-2.entries.items
    c.in_ok-entries-2.rest.now c.in_ok-entries-2.ensures.entries c.in_err-finish.field-0.0 c.in_err-finish.ensures)

pub new-requires : goal.new-requires
new-requires c =
    body_read c.args.version c.args.bytes.now c.in_ok-finish.rest.now _ c.requires
    (body_reads c.args.version c.args.bytes.now c.in_ok-entries.rest.now c.in_ok-entries.entries.items c.in_ok-entries.ensures.entries c.in_ok-entries-2.entries.items
    c.in_ok-entries-2.rest.now c.in_ok-entries-2.ensures.entries c.in_ok-finish.finish c.in_ok-finish.rest.now c.in_ok-finish.ensures)

pub returns : goal.returns
returns c =
    rw c.new.ensures
    (body_reads c.args.version c.args.bytes.now c.in_ok-entries.rest.now c.in_ok-entries.entries.items c.in_ok-entries.ensures.entries c.in_ok-entries-2.entries.items
    c.in_ok-entries-2.rest.now c.in_ok-entries-2.ensures.entries c.in_ok-finish.finish c.in_ok-finish.rest.now c.in_ok-finish.ensures)
