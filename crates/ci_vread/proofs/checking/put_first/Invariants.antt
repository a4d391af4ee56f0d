use Rattle.std.proofs.Common.{◌≡◌, ◌++◌, drop, map}
use Rattle.ci_vread.specs.private.Tables.{part_of, due_of}
use Rattle.ci_vread.proofs.checking.put_first.Given as goal

abbrev pub invariant-loop-i : goal.invariant-loop-i
invariant-loop-i l = due_of l.due.items ≡ map part_of (drop l.i l.parts) ++ due_of l.initial.due.items
