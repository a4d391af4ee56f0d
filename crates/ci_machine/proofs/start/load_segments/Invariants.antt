use Rattle.std.proofs.Common.{◌≡◌, ◌≤◌, ℕ, length, drop}
use Rattle.ci_machine.specs.private.Loading.{loaded_content}
use Rattle.ci_machine.specs.Pages.{content, has, room}
use Rattle.ci_machine.proofs.start.load_segments.Given as goal

abbrev pub invariant-loop-left : goal.invariant-loop-left
invariant-loop-left l = record {
  within : l.left ≤ length l.image.segments;
  content : (address : ℕ) → content l.pages address ≡ loaded_content l.image.bytes (drop l.left l.image.segments) address;
  has : has l.pages ≡ has l.initial.pages;
  room : room l.pages ≡ room l.initial.pages;
}

abbrev pub decreases-loop-left : goal.decreases-loop-left
decreases-loop-left l = l.left
