use Rattle.std.proofs.Common.{ℕ, ◌<◌}
use Rattle.ci_elf.specs.private.Parts.{AreApartAt}
use Rattle.ci_elf.proofs.parts.first_overlapping.Given as goal

abbrev pub invariant-loop-k : goal.invariant-loop-k
invariant-loop-k l = (k : ℕ) → k < l.k → AreApartAt l.parts k l.n
