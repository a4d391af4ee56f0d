-- Bytes of a form have none of its faults.
use Rattle.std.proofs.Common.{ℕ, inl, inr, List, [], ◌∷◌, ◌++◌, subst}
use Rattle.std.specs.List.{AllByRecursion}
use Rattle.ci_asm.proofs.Promises.{no_fault}
use Rattle.ci_elf.specs.declared.faults.ElfFault.{ElfFault}
use Rattle.ci_reading.specs.Broken.{IsFirstBroken}
use Rattle.ci_elf.specs.Rules.{Holds, rules, KeepsRules, BreaksFirst}
use Rattle.ci_calls.specs.Texts.{IsText, IsBadText}

-- a text that assembles has no fault
pub text_or_fault : (bytes words : List ℕ) (kind line column : ℕ) → IsText bytes words → IsBadText bytes kind line column → ⊥
text_or_fault bytes words kind line column text (inl bad) = bad.0 text.encoded
text_or_fault bytes words kind line column text (inr bad) = no_fault bytes words kind line column text.assembles bad.1

-- what holds of all of a list holds of what stands in it
there : {A : Type 0} (P : A → Type 0) (before after : List A) (x : A) → AllByRecursion P (before ++ x ∷ after) → P x
there P [] after x all = all.0
there P (y ∷ before) after x all = there P before after x all.1

-- a file that keeps all rules breaks none
pub kept_or_broken : (bytes : List ℕ) (fault : ElfFault) → KeepsRules bytes (rules bytes) → BreaksFirst bytes (rules bytes) fault → ⊥
kept_or_broken bytes fault keeps breaks =
    let first : IsFirstBroken (Holds bytes) (rules bytes) breaks.0 = breaks.1 in
    first.broken (there (Holds bytes) first.before first.after breaks.0 (subst (AllByRecursion (Holds bytes)) first.split keeps))
