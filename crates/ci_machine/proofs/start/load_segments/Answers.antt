use Rattle.std.proofs.Common.{◌+◌, ◌-◌, ◌/◌, ◌<◌, ◌∙◌, List, length, drop, get_or, ap, sym, subst, arith}
use Rattle.ci_elf.specs.declared.segments.Segment.{Segment}
use Rattle.ci_machine.specs.private.Loading.{loaded_content}
use Rattle.ci_machine.specs.Pages.{content}
use Rattle.ci_machine.proofs.TestLaws.{bounds-lies_in}
use Rattle.ci_machine.proofs.StartLaws.{segment_read, loaded_step}
use Rattle.ci_machine.proofs.start.load_segments.Goals as goal

pub write_all-requires-clause-fits : goal.write_all-requires-clause-fits
write_all-requires-clause-fits c =
    let none : Segment = record { address = 0; memory_size = 0; offset = 0; file_size = 0 } in
    let read = segment_read c.args.image.now c.segments-segments.ensures.well_formed c.segments-segments.result.now (c.loop-left.left - 1) none
    c.segments-segments.ensures.value (subst (λ (ss : List Segment). c.loop-left.left - 1 < length ss) (sym c.segments-segments.ensures.value) (omega (arith, c.loop-left.invariant.within))) in
    omega (arith, read.filled, read.top, c.file_part.ensures.size)

pub write_all-requires-clause-there : goal.write_all-requires-clause-there
write_all-requires-clause-there c =
    let none : Segment = record { address = 0; memory_size = 0; offset = 0; file_size = 0 } in
    let read = segment_read c.args.image.now c.segments-segments.ensures.well_formed c.segments-segments.result.now (c.loop-left.left - 1) none
    c.segments-segments.ensures.value (subst (λ (ss : List Segment). c.loop-left.left - 1 < length ss) (sym c.segments-segments.ensures.value) (omega (arith, c.loop-left.invariant.within))) in
    let s = get_or c.segments-segments.result.now (c.loop-left.left - 1) none in
    λ k lt. ap (λ f. f ((s.address + k) / 4096)) c.loop-left.invariant.has
    ∙ c.requires.there (s.address + k)
    (read.held (s.address + k) (bounds-lies_in s.address (s.address + s.memory_size) (s.address + k) (omega arith) (omega (arith, read.filled, c.file_part.ensures.size))))

pub loop-left-preserved : goal.loop-left-preserved
loop-left-preserved c =
    let l = c.loop-left in
    let same = c.segments-segments.ensures.value in
    let below : l.left - 1 < length c.args.image.now.segments = omega (arith, l.invariant.within) in
    let none : Segment = record { address = 0; memory_size = 0; offset = 0; file_size = 0 } in
    let seg = λ (ss : List Segment). get_or ss (l.left - 1) none in
    record {
      within = omega (arith, l.invariant.within);
      content = λ x. ap (λ f. f x) c.write_all.ensures.content
          ∙ rw same (loaded_step c.args.image.now.bytes x c.args.image.now.segments (l.left - 1) none c.file_part.result.now (content l.pages) below
          (c.file_part.ensures.size ∙ ap (λ (ss : List Segment). (get_or ss (l.left - 1) none).file_size) same)
          (λ k lt. c.file_part.ensures.bytes k (subst (λ (ss : List Segment). k < (get_or ss (l.left - 1) none).file_size) (sym same) lt)
          ∙ (λ j. get_or (c.bytes.ensures j) ((get_or (same j) (l.left - 1) none).offset + k) 0))
          (l.invariant.content x ∙ ap (λ n. loaded_content c.args.image.now.bytes (drop n c.args.image.now.segments) x) {x = l.left} {y = l.left - 1 + 1} (omega arith)));
      has = c.write_all.ensures.has ∙ l.invariant.has;
      room = c.write_all.ensures.room ∙ l.invariant.room;
    }
