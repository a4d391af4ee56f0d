use Rattle.std.proofs.Common.{◌≡◌, ◌≤◌, ◌+◌, ◌-◌, ◌++◌}
use Rattle.std.specs.Prelude.{vec_capacity, vec_len}
use Rattle.ci_machine.specs.Pages.{content}
use Rattle.ci_machine.specs.PageTables.{run_of}
use Rattle.ci_machine.proofs.memory.Memory.append_to.Given as goal

abbrev pub invariant-loop-done : goal.invariant-loop-done
invariant-loop-done l = record {
  within : l.done ≤ l.count;
  items : l.output.items ≡ l.initial.output.items ++ run_of (content l.self.pages) l.done l.address;
  room : vec_len l.output + (l.count - l.done) ≤ vec_capacity l.output;
}

abbrev pub decreases-loop-done : goal.decreases-loop-done
decreases-loop-done l = l.count - l.done
