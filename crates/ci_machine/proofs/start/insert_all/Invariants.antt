use Rattle.std.proofs.Common.{◌≡◌, ◌||◌, ℕ, take}
use Rattle.ci_machine.specs.private.Loading.{in_segments}
use Rattle.ci_machine.specs.Spans.{in_spans}
use Rattle.ci_machine.proofs.start.insert_all.Given as goal

abbrev pub invariant-loop-segment : goal.invariant-loop-segment
invariant-loop-segment l =
    (address : ℕ) → in_spans l.spans.spans.items address
    ≡ (in_segments (take l.segment-index l.segments) address || in_spans l.initial.spans.spans.items address)
