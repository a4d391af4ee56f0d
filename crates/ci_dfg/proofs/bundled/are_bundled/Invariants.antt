-- The instructions so far stand with what they ask for.
use Rattle.std.proofs.Common.{ℕ, ◌<◌}
use Rattle.ci_dfg.specs.Bundles.{IsBundledAt}
use Rattle.ci_dfg.proofs.bundled.are_bundled.Given as goal

abbrev pub invariant-loop-k : goal.invariant-loop-k
invariant-loop-k l = (i : ℕ) → i < l.k → IsBundledAt l.insns i
