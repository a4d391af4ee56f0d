-- The modules of a text without fault are those that are built, and the fault is the one that the checker tells.
use Rattle.std.proofs.Common.{sym, subst}
use Rattle.ci_vread.specs.private.Led.{IsAnswer}
use Rattle.ci_vread.specs.Spelling.{Spell}
use Rattle.ci_vread.proofs.ToldFaults.{are_placed, spelled}
use Rattle.ci_vread.proofs.reading.read.Goals as goal

pub first_fault-requires : goal.first_fault-requires
first_fault-requires c =
    are_placed c.args.bytes.now c.in_ok-tokens.tokens.items c.in_ok-tokens.ensures c.deref.result.now c.deref.ensures.value

pub returns-in-Some-clause-fault : goal.returns-in-Some-clause-fault
returns-in-Some-clause-fault c = subst (IsAnswer c.args.bytes.now) c.in-Some.is c.in_ok-kind.ensures

pub build-requires : goal.build-requires
build-requires c =
    let s =
    spelled c.args.bytes.now c.in_ok-tokens.tokens.items c.in_ok-tokens.ensures c.deref-2.result.now c.deref-2.ensures.value
    c.in_ok-kind.field-0 c.in_default.is c.in_ok-kind.ensures in
    (s.0, s.1)

pub returns-clause-modules : goal.returns-clause-modules
returns-clause-modules c =
    let s =
    spelled c.args.bytes.now c.in_ok-tokens.tokens.items c.in_ok-tokens.ensures c.deref-2.result.now c.deref-2.ensures.value
    c.in_ok-kind.field-0 c.in_default.is c.in_ok-kind.ensures in
    subst (Spell c.args.bytes.now) (sym (c.in_ok-build.ensures s.0 s.1)) s.2
