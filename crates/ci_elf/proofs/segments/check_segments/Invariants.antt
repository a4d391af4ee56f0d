use Rattle.std.proofs.Common.{ℕ, ◌<◌, [], ◌∷◌}
use Rattle.ci_elf.specs.Rules.{NamesNoInterpreter, HasFilePart, IsPlaced, KeepsRules}
use Rattle.ci_elf.proofs.segments.check_segments.Given as goal

abbrev pub invariant-loop-n : goal.invariant-loop-n
invariant-loop-n l = (k : ℕ) → k < l.n → KeepsRules l.bytes (NamesNoInterpreter k ∷ HasFilePart k ∷ IsPlaced k ∷ [])
