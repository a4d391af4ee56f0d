-- What reading a file answers is one, but for want of memory.
use Rattle.std.proofs.Common.{◌≡◌, ◌≢◌, ℕ, List, ◌∷◌, ◌++◌, refl, ap, subst, inl, inr, Ok, Err}
use Rattle.ci_elf.specs.declared.faults.ElfFault.{ElfFault}
use Rattle.ci_elf.specs.declared.faults.ElfFault.TheVariants.{NoMemory}
use Rattle.ci_elf.specs.Rules.{Rule, Holds, KeepsRules, BreaksFirst, rules}
use Rattle.ci_elf.specs.Laws.{AnswerIsOne}
use Rattle.ci_reading.proofs.BrokenLaws.{kept_back}
use Rattle.ci_elf.proofs.OneImage.{image_is_one}

-- none is broken first where all are kept
pub none_broken :
    (bytes : List ℕ) (list : List Rule) (fault : ElfFault) → KeepsRules bytes list → ¬ BreaksFirst bytes list fault
none_broken bytes list fault all broken =
    let first = broken.1 in
    let kept : KeepsRules bytes (first.before ++ broken.0 ∷ first.after) = subst (KeepsRules bytes) first.split all in
    first.broken ((kept_back (Holds bytes) first.before (broken.0 ∷ first.after) kept).0)

pub only_memory : (fault : ElfFault) → ¬ (fault ≢ NoMemory) → fault ≡ NoMemory
only_memory NoMemory other = refl
only_memory fault other = absurd (other (λ e. cc))

pub answer_is_one : AnswerIsOne
answer_is_one bytes file (Ok image) read other = inl (ap Ok (image_is_one bytes image file other.1 read.1))
answer_is_one bytes file (Err fault) read other =
    inr (ap Err (only_memory fault (λ real. none_broken bytes (rules bytes) fault read.0 (other real))))
