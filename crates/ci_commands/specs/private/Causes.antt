-- For private contracts: why there is no answer on a file.
use Rattle.std.specs.Prelude.{ℕ, List, ⊤}
use Rattle.ci_asm.specs.declared.faults.AsmFault.{AsmFault}
use Rattle.ci_asm.specs.declared.faults.AsmFault.TheVariants as assembly
use Rattle.ci_calls.specs.declared.refusals.Refusal.{Refusal}
use Rattle.ci_calls.specs.declared.refusals.Refusal.TheVariants.{Unsupported, NoMemory}
use Rattle.ci_calls.specs.Forms.{IsBadText}

-- The position and the word that the refusal names have this property, or memory ran out.
abbrev pub IsCause : (ℕ → ℕ → Type 0) → Refusal → Type 0
IsCause P (Unsupported position word) = P position word
IsCause P NoMemory = ⊤
IsCause P refusal = ⊥

-- why a text has no words: its first fault, or memory ran out
abbrev pub IsTextFault : List ℕ → AsmFault → Type 0
IsTextFault text (assembly.Bad kind line column) = IsBadText text kind line column
IsTextFault text assembly.NoMemory = ⊤
