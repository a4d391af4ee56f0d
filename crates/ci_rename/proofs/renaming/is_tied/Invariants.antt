use Rattle.std.proofs.Common.{◌≡◌, ℕ, ◌<◌, false}
use Rattle.ci_rename.specs.private.ValueTests as tests
use Rattle.ci_rename.proofs.renaming.is_tied.Given as goal

abbrev pub invariant-loop-k : goal.invariant-loop-k
invariant-loop-k l = (j : ℕ) → j < l.k → tests.ties l.insns l.i l.register j ≡ false
