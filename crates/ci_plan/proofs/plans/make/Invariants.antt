use Rattle.std.proofs.Common.{◌≡◌, ◌+◌, length, take}
use Rattle.ci_plan.specs.private.Steps.{words_after}
use Rattle.ci_plan.proofs.plans.make.Given as goal

abbrev pub invariant-loop-step : goal.invariant-loop-step
invariant-loop-step l = record {
  whole : length l.words ≡ length l.fn.words;
  place_is : l.place ≡ 5 + l.step-index;
  made : l.words ≡ words_after l.fn.words 5 (take l.step-index l.steps);
}
