use Rattle.std.proofs.Common.{arith}
use Rattle.ci_machine.proofs.ExtendedMeaning.{five_words}
use Rattle.ci_xemu.proofs.UnitResults.{unit_gives}
use Rattle.ci_xemu.proofs.prepared.PreparedMachineMachine.unit.Goals as goal

pub returns-clause-given : goal.returns-clause-given
returns-clause-given c meaning is =
    let a = c.args in
    let there = c.in_ok-unit.ensures.lookup in
    unit_gives a.self.now.units.now meaning is a.number c.in_ok-unit.unit.now (there.0, there.1) c.results.ensures.kept
    a.a a.b a.c a.d a.e (five_words a.a a.b a.c a.d a.e (omega arith) (omega arith) (omega arith) (omega arith) (omega arith))
    c.results.result c.results.ensures.value
