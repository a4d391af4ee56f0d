use Rattle.std.proofs.Common.{◌≡◌, ◌<◌, ◌+◌, ◌-◌, ◌/◌, ℕ, true}
use Rattle.ci_machine.specs.Memories.{memory_of, segments_of}
use Rattle.ci_machine.specs.Pages.{has}
use Rattle.ci_machine.proofs.memory.Memory.make_pages.Given as goal

abbrev pub invariant-loop-done : goal.invariant-loop-done
invariant-loop-done l = record {
  there : (k : ℕ) → k < l.done → k < l.count → has l.self.pages ((l.address + k) / 4096) ≡ true;
  memory : memory_of l.self ≡ memory_of l.initial.self;
  end : l.self.heap_end ≡ l.initial.self.heap_end;
  segments : segments_of l.self ≡ segments_of l.initial.self;
}

abbrev pub decreases-loop-done : goal.decreases-loop-done
decreases-loop-done l = l.count - l.done
