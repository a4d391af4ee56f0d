use Rattle.std.proofs.Common.{◌≡◌, ◌+◌, ◌*◌, ◌/◌, ◌||◌, ◌∙◌, ℕ, List, Bool, Some, None, cond, true, false, map, refl, ap, sym, arith}
use Rattle.ci_elf.specs.declared.segments.Segment.{Segment}
use Rattle.ci_elf.specs.MemoryMap.{stack_start, stack_end}
use Rattle.ci_machine.specs.Layouts.{HasLayout, HasPages, heap_limit}
use Rattle.ci_machine.specs.Pages.{has}
use Rattle.ci_machine.specs.PageTables.{pages_to}
use Rattle.ci_machine.proofs.MissingPages.{missing_few}
use Rattle.ci_machine.specs.Windows.{HasWindows}
use Rattle.ci_machine.proofs.WindowLaws.{no_windows}
use Rattle.ci_machine.specs.Memories.{is_mapped, memory_of, segments_of}
use Rattle.ci_machine.specs.Programs.{extent_of, loaded_size, lies_in, maximum_end}
use Rattle.ci_machine.specs.Spans.{in_spans}
use Rattle.ci_machine.specs.private.Loading.{in_segments, loaded_content}
use Rattle.ci_machine.proofs.StartLaws.{segments_end, segments_fit, opening_is, opening_clean, opening_below}
use Rattle.std.proofs.Common.{inl, inr}
use Rattle.std.proofs.lemmas.Bool.{cases_lt}
use Rattle.ci_machine.proofs.TestLaws.{neither_first, outside}
use Rattle.ci_machine.proofs.start.opening_memory.Goals as goal

pub heap_start-heap_start-requires : goal.heap_start-heap_start-requires
heap_start-heap_start-requires c = rw c.segments.ensures.value (segments_end c.args.image.now c.segments.ensures.well_formed)

pub loaded_size-loaded-requires : goal.loaded_size-loaded-requires
loaded_size-loaded-requires c = rw c.segments-2.ensures.value (segments_fit c.args.image.now c.segments-2.ensures.well_formed)

pub opening_pages-requires-clause-start : goal.opening_pages-requires-clause-start
opening_pages-requires-clause-start c =
    let begins = c.heap_start-heap_start.ensures ∙ ap (λ (ss : List Segment). (maximum_end (map extent_of ss) + 15) / 16 * 16) c.segments.ensures.value in
    omega (arith, begins, segments_end c.args.image.now c.segments.ensures.well_formed)

pub opening_pages-requires-clause-fits : goal.opening_pages-requires-clause-fits
opening_pages-requires-clause-fits c =
    let counted = c.loaded_size-loaded.ensures ∙ ap (λ (ss : List Segment). loaded_size (map extent_of ss)) c.segments-2.ensures.value in
    omega (arith, counted, segments_fit c.args.image.now c.segments-2.ensures.well_formed)

empty : (start x : ℕ) → lies_in start start x ≡ false
empty start x = outside start start x (elim (cases_lt x start) [ inl lt ↦ inl lt | inr from ↦ inr from ])

pub invariant_of-result : goal.invariant_of-result
unfolding HasLayout HasPages HasWindows
invariant_of-result c =
    let formed = c.segments.ensures.well_formed in
    let file = c.args.image.now in
    let start = c.heap_start-heap_start.result in
    let begins = c.heap_start-heap_start.ensures ∙ ap (λ (ss : List Segment). (maximum_end (map extent_of ss) + 15) / 16 * 16) c.segments.ensures.value in
    let counted = c.loaded_size-loaded.ensures ∙ ap (λ (ss : List Segment). loaded_size (map extent_of ss)) c.segments-2.ensures.value in
    let same = c.in_ok-segments.ensures.items ∙ c.segments-3.ensures.value in
    record {
      laid_out = record {
        begins = begins ∙ ap (λ (ss : List Segment). (maximum_end (map extent_of ss) + 15) / 16 * 16) (sym same);
        ordered = omega arith;
        top = omega (arith, begins, segments_end file formed);
        clear = λ some. absurd (omega arith);
        counted = counted ∙ ap (λ (ss : List Segment). loaded_size (map extent_of ss)) (sym same);
        fits = omega (arith, counted, segments_fit file formed);
        below = λ x is. opening_below file formed start x begins (sym (c.in_ok-spans.ensures x) ∙ is);
      };
      paged = record {
        covered = λ x is. ap (λ f. f (x / 4096)) c.load_segments.ensures.has ∙ c.in_ok-pages.ensures.covered x is;
        clean = λ x none. c.load_segments.ensures.content x
            ∙ opening_clean file formed x
            (neither_first (in_segments file.segments x) (lies_in stack_start stack_end x)
            (sym (c.in_ok-spans.ensures x) ∙ neither_first (in_spans c.in_ok-spans.spans.spans.items x) (lies_in start start x) none));
        room = omega (
          arith,
          missing_few (has c.load_segments.new.pages) (start / 4096) (pages_to (heap_limit start c.loaded_size-loaded.result)),
          c.in_ok-pages.ensures.room,
          c.load_segments.ensures.room,
        );
      };
      seen = no_windows c.load_segments.new.pages.table.items c.in_ok-spans.spans.spans.items start start _ c.none.ensures;
    }

or_empty : (b e : Bool) → e ≡ false → (b || e) ≡ b
or_empty true e is = refl
or_empty false e is = is

pub returns-clause-bytes : goal.returns-clause-bytes
unfolding memory_of is_mapped
returns-clause-bytes c =
    let formed = c.segments.ensures.well_formed in
    let file = c.args.image.now in
    let start = c.heap_start-heap_start.result in
    λ k x. ((λ j. cond (or_empty (in_spans c.in_ok-spans.spans.spans.items x) (lies_in start start x) (empty start x) j) (Some (c.load_segments.ensures.content x j)) None)
    ∙ ap (λ b. cond b (Some (loaded_content file.bytes file.segments x)) None) (c.in_ok-spans.ensures x)
    ∙ opening_is file formed x) k

pub returns-clause-segments : goal.returns-clause-segments
unfolding segments_of
returns-clause-segments c = ap (map extent_of) (c.in_ok-segments.ensures.items ∙ c.segments-3.ensures.value)
