use Rattle.std.proofs.Common.{arith, codes}
use Rattle.ci_log.proofs.EntryReading.{word_left, address_left}
use Rattle.ci_log.proofs.entries.search.Goals as goal

pub best-requires : goal.best-requires
best-requires c =
    let first = word_left (codes "block ") c.args.bytes.now c.in_ok-rest.rest.now c.in_ok-rest.ensures in
    let second = address_left c.in_ok-rest.rest.now c.in_ok-leader.rest.now c.in_ok-leader.leader (omega (arith, c.requires, first)) c.in_ok-leader.ensures in
    omega (arith, c.requires, first, second, word_left (codes " ") c.in_ok-leader.rest.now c.in_ok-rest-2.rest.now c.in_ok-rest-2.ensures)

pub without-requires : goal.without-requires
without-requires c =
    let first = word_left (codes "block ") c.args.bytes.now c.in_ok-rest.rest.now c.in_ok-rest.ensures in
    let second = address_left c.in_ok-rest.rest.now c.in_ok-leader.rest.now c.in_ok-leader.leader (omega (arith, c.requires, first)) c.in_ok-leader.ensures in
    omega (arith, c.requires, first, second, word_left (codes " ") c.in_ok-leader.rest.now c.in_ok-rest-2.rest.now c.in_ok-rest-2.ensures)
