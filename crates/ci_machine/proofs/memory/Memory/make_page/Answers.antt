use Rattle.std.proofs.Common.{◌/◌, Some, None, cond}
use Rattle.ci_machine.specs.Memories.{is_mapped, memory_of}
use Rattle.ci_machine.specs.Layouts.{HasLayout, HasPages}
use Rattle.ci_machine.specs.Windows.{HasWindows}
use Rattle.ci_machine.proofs.MemoryLaws.{paged_made, room_to_make}
use Rattle.ci_machine.proofs.PageLaws.{has_not}
use Rattle.ci_machine.proofs.WindowLaws.{no_windows}
use Rattle.ci_machine.proofs.memory.Memory.make_page.Goals as goal

pub add_at-requires-clause-room : goal.add_at-requires-clause-room
unfolding HasLayout HasPages
add_at-requires-clause-room c =
    let old = c.args.self.now in
    room_to_make old.spans.spans.items old.segments.items old.heap_start old.heap_end old.loaded old.laid_out old.pages old.paged
    c.args.address c.requires.heap (has_not old.pages (c.args.address / 4096) c.args.place c.requires.gap)

pub invariant_of-self : goal.invariant_of-self
unfolding HasLayout HasPages HasWindows
invariant_of-self c =
    let old = c.args.self.now in
    record {
      laid_out = old.laid_out;
      paged = paged_made old.spans.spans.items old.segments.items old.heap_start old.heap_end old.loaded old.laid_out old.pages old.paged
          c.add_at.new.self c.args.address c.requires.heap (has_not old.pages (c.args.address / 4096) c.args.place c.requires.gap)
          c.add_at.ensures.content c.add_at.ensures.has c.add_at.ensures.room;
      seen = no_windows c.add_at.new.self.table.items old.spans.spans.items old.heap_start old.heap_end _ c.none-self.ensures;
    }

pub returns-clause-memory : goal.returns-clause-memory
unfolding memory_of is_mapped
returns-clause-memory c = λ k x. cond (is_mapped c.args.self.now x) (Some (c.add_at.ensures.content k x)) None
