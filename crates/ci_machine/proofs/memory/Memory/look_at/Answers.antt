use Rattle.std.proofs.Common.{◌/◌, ◌%◌}
use Rattle.ci_machine.specs.Memories.{is_mapped, memory_of}
use Rattle.ci_machine.specs.Layouts.{HasLayout, HasPages}
use Rattle.ci_machine.specs.Windows.{HasWindows}
use Rattle.ci_machine.proofs.WindowLaws.{window_set}
use Rattle.ci_machine.proofs.memory.Memory.look_at.Goals as goal

pub invariant_of-self : goal.invariant_of-self
unfolding is_mapped HasLayout HasPages HasWindows
invariant_of-self c =
    let old = c.place_of.new.self in
    record {
      laid_out = old.laid_out;
      paged = old.paged;
      seen = window_set old.pages.table.items old.spans.spans.items old.heap_start old.heap_end old.windows (c.args.address / 4096 % 256)
          c.window_on-window.result old.seen c.window_on-window.ensures;
    }

pub returns-in-Some-clause-memory : goal.returns-in-Some-clause-memory
unfolding memory_of is_mapped
returns-in-Some-clause-memory c = c.place_of.ensures.memory
