use Rattle.std.proofs.Common.{◌≡◌, ◌*◌, ◌≤◌, ℕ, ap, ◌∙◌, arith}
use Rattle.ci_machine.specs.Memories.{memory_of, is_mapped, segments_of}
use Rattle.ci_machine.specs.Pages.{content, has}
use Rattle.ci_machine.specs.PageTables.{missing, pages_to, without_pages, zeroed}
use Rattle.ci_machine.specs.Layouts.{HasLayout, HasPages}
use Rattle.ci_machine.specs.Windows.{HasWindows}
use Rattle.ci_machine.proofs.WindowLaws.{no_windows}
use Rattle.ci_machine.proofs.ByteLaws.{zeros_more}
use Rattle.ci_machine.proofs.MemoryLaws.{fits_there, room_tells, moved_down, laid_down, paged_down}
use Rattle.ci_machine.proofs.memory.Memory.shrink.Goals as goal

-- both that are zeroed lie side by side
joined : (bytes : ℕ → ℕ) (end old low high : ℕ) → low ≡ pages_to end → high ≡ pages_to old → end ≤ old
    → zeroed (zeroed bytes (low * 4096) (high * 4096)) end (pages_to end * 4096) ≡ zeroed bytes end (pages_to old * 4096)
joined bytes end old low high is_low is_high le =
    (λ k. zeroed (zeroed bytes (is_low k * 4096) (is_high k * 4096)) end (pages_to end * 4096))
    ∙ (λ k x. zeros_more bytes end (pages_to end * 4096) (pages_to old * 4096) x (omega arith) (omega arith) k)

pub invariant_of-self : goal.invariant_of-self
unfolding segments_of HasLayout HasPages HasWindows
invariant_of-self c =
    let old = c.args.self.now in
    let may = room_tells old.heap_start old.loaded c.args.end
    ((λ k. fits_there (old.laid_out.begins k) (old.laid_out.counted k) c.args.end) ∙ c.requires.may) in
    let cleared = c.clear_rest.ensures.content
    ∙ (λ k. zeroed (c.remove_all.ensures.content k) c.args.end (pages_to c.args.end * 4096))
    ∙ joined (content old.pages) c.args.end old.heap_end c.pages_to.result c.pages_to-2.result c.pages_to.ensures c.pages_to-2.ensures (omega (arith, c.requires.down)) in
    let gone = c.clear_rest.ensures.has ∙ c.remove_all.ensures.has
    ∙ (λ k. without_pages (has old.pages) (c.pages_to.ensures k) (c.pages_to-2.ensures k)) in
    record {
      laid_out = laid_down old.spans.spans.items old.segments.items old.heap_start old.heap_end old.loaded old.laid_out old.pages old.paged
          c.args.end may.ordered c.requires.down c.clear_rest.new.self cleared gone;
      paged = paged_down old.spans.spans.items old.segments.items old.heap_start old.heap_end old.loaded old.laid_out old.pages old.paged
          c.args.end may.ordered c.requires.down c.clear_rest.new.self cleared gone
          (λ low high. omega (
            arith,
            c.remove_all.ensures.room low high,
            c.clear_rest.ensures.room,
            ap (λ numbers. missing numbers low high) c.clear_rest.ensures.has,
          ));
      seen = no_windows c.clear_rest.new.self.table.items old.spans.spans.items old.heap_start c.args.end _ c.none-self.ensures;
    }

pub returns-clause-moved : goal.returns-clause-moved
unfolding segments_of memory_of is_mapped HasLayout HasPages
returns-clause-moved c =
    let old = c.args.self.now in
    let may = room_tells old.heap_start old.loaded c.args.end
    ((λ k. fits_there (old.laid_out.begins k) (old.laid_out.counted k) c.args.end) ∙ c.requires.may) in
    let cleared = c.clear_rest.ensures.content
    ∙ (λ k. zeroed (c.remove_all.ensures.content k) c.args.end (pages_to c.args.end * 4096))
    ∙ joined (content old.pages) c.args.end old.heap_end c.pages_to.result c.pages_to-2.result c.pages_to.ensures c.pages_to-2.ensures (omega (arith, c.requires.down)) in
    let gone = c.clear_rest.ensures.has ∙ c.remove_all.ensures.has
    ∙ (λ k. without_pages (has old.pages) (c.pages_to.ensures k) (c.pages_to-2.ensures k)) in
    λ k x. moved_down old.spans.spans.items old.segments.items old.heap_start old.heap_end old.loaded old.laid_out old.pages old.paged
    c.args.end may.ordered c.requires.down c.clear_rest.new.self cleared gone x k
