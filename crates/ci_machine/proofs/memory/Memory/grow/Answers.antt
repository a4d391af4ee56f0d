use Rattle.std.proofs.Common.{◌∙◌}
use Rattle.ci_machine.specs.Memories.{memory_of, is_mapped, segments_of}
use Rattle.ci_machine.specs.Layouts.{HasLayout, HasPages}
use Rattle.ci_machine.specs.Windows.{HasWindows}
use Rattle.ci_machine.proofs.WindowLaws.{windows_up}
use Rattle.ci_machine.proofs.MemoryLaws.{fits_there, room_tells, moved_up, laid_up, paged_up}
use Rattle.ci_machine.proofs.memory.Memory.grow.Goals as goal

pub invariant_of-self : goal.invariant_of-self
unfolding segments_of HasLayout HasPages HasWindows
invariant_of-self c =
    let old = c.args.self.now in
    let may = room_tells old.heap_start old.loaded c.args.end
    ((λ k. fits_there (old.laid_out.begins k) (old.laid_out.counted k) c.args.end) ∙ c.requires.may) in
    record {
      laid_out = laid_up old.spans.spans.items old.segments.items old.heap_start old.heap_end old.loaded old.laid_out old.pages old.paged
          c.args.end may c.requires.up;
      paged = paged_up old.spans.spans.items old.segments.items old.heap_start old.heap_end old.loaded old.laid_out old.pages old.paged
          c.args.end may c.requires.up;
      seen = windows_up old.pages.table.items old.spans.spans.items old.windows old.heap_start old.heap_end c.args.end c.requires.up old.seen;
    }

pub returns-clause-moved : goal.returns-clause-moved
unfolding segments_of memory_of is_mapped HasLayout HasPages
returns-clause-moved c =
    let old = c.args.self.now in
    let may = room_tells old.heap_start old.loaded c.args.end
    ((λ k. fits_there (old.laid_out.begins k) (old.laid_out.counted k) c.args.end) ∙ c.requires.may) in
    λ k x. moved_up old.spans.spans.items old.segments.items old.heap_start old.heap_end old.loaded old.laid_out old.pages old.paged
    c.args.end may c.requires.up x k
