use Rattle.std.proofs.Common.{◌≡◌, ℕ, ◌<◌, false}
use Rattle.ci_rename.specs.private.ValueTests.{writes_at}
use Rattle.ci_rename.proofs.renaming.last_reader.Given as goal

abbrev pub invariant-loop-k : goal.invariant-loop-k
invariant-loop-k l = (j : ℕ) → l.i < j → j < l.k → writes_at l.insns j l.register ≡ false
