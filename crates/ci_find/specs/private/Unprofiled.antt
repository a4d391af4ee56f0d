-- For private contracts: why no choice can be made.
use Rattle.std.specs.Prelude.{◌≡◌, ℕ, ◌⊎◌, List}
use Rattle.ci_elf.specs.Executables.{Executable}
use Rattle.ci_calls.specs.declared.refusals.Refusal.{Refusal}
use Rattle.ci_calls.specs.declared.refusals.Refusal.TheVariants.{NoMemory}
use Rattle.ci_find.specs.Profiled.{IsUnprofiled}

-- the executable can't be chosen from, or memory ran out
abbrev pub IsUnprofiledCause : Executable → List ℕ → ℕ → Refusal → Type 0
IsUnprofiledCause file input steps refusal = IsUnprofiled file input steps refusal ⊎ (refusal ≡ NoMemory)
