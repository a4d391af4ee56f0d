use Rattle.std.proofs.Common.{◌||◌, ◌∙◌, ap, arith}
use Rattle.std.proofs.lemmas.List.Elements.{Contains-get_or}
use Rattle.ci_elf.specs.declared.segments.Segment.{Segment}
use Rattle.ci_machine.specs.Spans.{in_spans}
use Rattle.ci_machine.proofs.StartLaws.{held_at, one_apart, segment_more}
use Rattle.ci_machine.proofs.start.insert_all.Goals as goal

abbrev none : Segment
none = record { address = 0; memory_size = 0; offset = 0; file_size = 0 }

pub overflow_add-segment : goal.overflow_add-segment
overflow_add-segment c =
    omega (arith, (c.requires.filled _ (Contains-get_or c.args.segments.now c.loop-segment.segment-index none c.loop-segment-test.true)).1)

pub insert-requires-clause-filled : goal.insert-requires-clause-filled
insert-requires-clause-filled c =
    omega (arith, (c.requires.filled _ (Contains-get_or c.args.segments.now c.loop-segment.segment-index none c.loop-segment-test.true)).0)

pub insert-requires-clause-apart : goal.insert-requires-clause-apart
insert-requires-clause-apart c =
    λ x is. c.loop-segment.invariant x
    ∙ ap (λ b. b || in_spans c.args.spans.now.spans.items x)
    (one_apart x c.args.segments.now c.loop-segment.segment-index none c.loop-segment-test.true (c.requires.apart x) is)
    ∙ c.requires.free x (held_at c.args.segments.now c.loop-segment.segment-index none c.loop-segment-test.true x is)

pub loop-segment-preserved : goal.loop-segment-preserved
loop-segment-preserved c =
    λ x. c.in_ok-insert.ensures x
    ∙ segment_more c.args.segments.now c.loop-segment.segment-index none c.loop-segment-test.true x
    (in_spans c.loop-segment.spans.spans.items x) (in_spans c.args.spans.now.spans.items x) (c.loop-segment.invariant x)
