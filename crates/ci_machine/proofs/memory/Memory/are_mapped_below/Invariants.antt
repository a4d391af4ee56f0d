use Rattle.std.proofs.Common.{◌≡◌, ℕ, ◌≤◌, ◌<◌, ◌+◌, ◌-◌, true}
use Rattle.ci_machine.specs.Memories.{is_mapped}
use Rattle.ci_machine.proofs.memory.Memory.are_mapped_below.Given as goal

abbrev pub invariant-loop-done : goal.invariant-loop-done
invariant-loop-done l = record {
  within : l.done ≤ l.count;
  mapped : (k : ℕ) → k < l.done → is_mapped l.self (l.address + k) ≡ true;
}

abbrev pub decreases-loop-done : goal.decreases-loop-done
decreases-loop-done l = l.count - l.done
