use Rattle.std.proofs.Common.{◌≡◌, ◌≤◌, ◌+◌, ◌-◌, true, is_some}
use Rattle.ci_machine.specs.Accesses.{addresses, bytes_at}
use Rattle.ci_machine.specs.Memories.{memory_of}
use Rattle.ci_machine.proofs.memory.Memory.are_mapped.Given as goal

abbrev pub invariant-loop-left : goal.invariant-loop-left
invariant-loop-left l = record {
  some_left : l.left ≤ l.count;
  mapped : is_some (bytes_at (memory_of l.self) (addresses (l.count - l.left) (l.address + l.left))) ≡ true;
}

abbrev pub decreases-loop-left : goal.decreases-loop-left
decreases-loop-left l = l.left
