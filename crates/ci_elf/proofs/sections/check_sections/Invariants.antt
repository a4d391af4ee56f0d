use Rattle.std.proofs.Common.{ℕ, ◌<◌, ◌≤◌, [], ◌∷◌}
use Rattle.ci_elf.specs.Rules.{HasSymbols, TextIsLoaded, TextIsAlone, KeepsRules}
use Rattle.ci_elf.proofs.sections.check_sections.Given as goal

abbrev pub invariant-loop-n : goal.invariant-loop-n
invariant-loop-n l =
    ((k : ℕ) → k < l.n → KeepsRules l.bytes (HasSymbols k ∷ TextIsLoaded k ∷ TextIsAlone k ∷ []))
    × (l.n ≤ l.surroundings.first_meeting)
