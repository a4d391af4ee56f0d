use Rattle.std.proofs.Common.{◌≡◌, ◌≤◌, ◌+◌, ◌-◌, length, drop}
use Rattle.ci_machine.specs.Accesses.{addresses, with_bytes}
use Rattle.ci_machine.specs.Memories.{memory_of, segments_of}
use Rattle.ci_machine.proofs.memory.Memory.put_all.Given as goal

abbrev pub invariant-loop-left : goal.invariant-loop-left
invariant-loop-left l = record {
  some_left : l.left ≤ length l.bytes;
  written : memory_of l.self
      ≡ with_bytes (memory_of l.initial.self) (addresses (length l.bytes - l.left) (l.address + l.left)) (drop l.left l.bytes);
  end : l.self.heap_end ≡ l.initial.self.heap_end;
  segments : segments_of l.self ≡ segments_of l.initial.self;
}

abbrev pub decreases-loop-left : goal.decreases-loop-left
decreases-loop-left l = l.left
