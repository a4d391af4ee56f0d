use Rattle.std.proofs.Common.{◌≡◌, drop}
use Rattle.ci_asm.specs.private.Statements.{read_slots}
use Rattle.ci_asm.proofs.statements.read_slots.Given as goal

-- what is left to read gives the whole answer
abbrev pub invariant-loop-slot : goal.invariant-loop-slot
invariant-loop-slot l = read_slots l.line (drop l.slot-index l.slots) l.place l.read ≡ read_slots l.line l.slots l.from l.fn.operands
