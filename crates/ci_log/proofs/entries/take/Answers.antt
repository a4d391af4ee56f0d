use Rattle.std.proofs.Common.{arith}
use Rattle.ci_log.proofs.EntryReading.{unit_small}
use Rattle.ci_log.proofs.entries.take.Goals as goal

pub overflow_cast-unit : goal.overflow_cast-unit
overflow_cast-unit c = omega (arith, unit_small c.in_ok-rest-2.rest.now c.in_ok-unit.rest.now (c.in_ok-unit.unit, c.in_ok-unit.field-0-1) c.in_ok-unit.ensures)
