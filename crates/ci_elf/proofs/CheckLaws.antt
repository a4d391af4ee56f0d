-- The faults of rules that are tested one after the other.
use Rattle.std.proofs.Common.{◌≡◌, ◌≢◌, ℕ, ◌<◌, List, [], ◌∷◌, ◌++◌, Result, Ok, Err, IsErrAnd, MatchResult}
use Rattle.std.proofs.lemmas.Result.{err_from_is_err_and}
use Rattle.ci_elf.specs.declared.faults.ElfFault.{ElfFault}
use Rattle.ci_elf.specs.declared.faults.ElfFault.TheVariants.{NoMemory}
use Rattle.ci_elf.specs.Rules.{Rule, Holds, fault_of, KeepsRules, BreaksFirst}
use Rattle.ci_elf.specs.private.Checks.{IsTestOf}
use Rattle.ci_reading.proofs.BrokenLaws.{kept_append, broken_here, broken_in_front, broken_behind, broken_each}
use Rattle.ci_reading.specs.Broken.{each_below}

module _ (bytes : List ℕ) where
  pub keeps_append : (front behind : List Rule) → KeepsRules bytes front → KeepsRules bytes behind → KeepsRules bytes (front ++ behind)
  keeps_append front behind f b = kept_append (Holds bytes) front behind f b

  -- the first rule is broken, with this fault
  pub fault_here :
      (rule : Rule) (behind : List Rule) (fault : ElfFault) → ¬ Holds bytes rule → fault ≡ fault_of bytes rule
      → fault ≢ NoMemory → BreaksFirst bytes (rule ∷ behind) fault
  fault_here rule behind fault fails is _ = (rule, broken_here (Holds bytes) rule behind fails, is)

  -- a rule in front is broken, with others behind
  pub fault_in_front :
      (front behind : List Rule) (fault : ElfFault) → (fault ≢ NoMemory → BreaksFirst bytes front fault)
      → fault ≢ NoMemory → BreaksFirst bytes (front ++ behind) fault
  fault_in_front front behind fault b real =
      let broken : BreaksFirst bytes front fault = b real in
      (broken.0, broken_in_front (Holds bytes) front behind broken.0 broken.1, broken.2)

  -- a rule behind others is broken, which are kept
  pub fault_behind :
      (front behind : List Rule) (fault : ElfFault) → KeepsRules bytes front → (fault ≢ NoMemory → BreaksFirst bytes behind fault)
      → fault ≢ NoMemory → BreaksFirst bytes (front ++ behind) fault
  fault_behind front behind fault all b real =
      let broken : BreaksFirst bytes behind fault = b real in
      (broken.0, broken_behind (Holds bytes) front behind broken.0 all broken.1, broken.2)

  -- the exit of a `?` that hands a fault on
  pub handed_on :
      {T : Type 0} (list : List Rule) (result : Result T ElfFault) (fault : ElfFault) → IsErrAnd result (λ f. f ≡ fault)
      → (fault ≢ NoMemory → BreaksFirst bytes list fault) → IsTestOf bytes list result
  handed_on list result fault err b = let p = err_from_is_err_and result err in rw (p.1, p.2) b

  -- the last test of several, of which the ones before were passed
  pub test_behind :
      {T : Type 0} (front behind : List Rule) (result : Result T ElfFault) → KeepsRules bytes front → IsTestOf bytes behind result
      → IsTestOf bytes (front ++ behind) result
  test_behind front behind (Ok x) all t = keeps_append front behind all t
  test_behind front behind (Err fault) all t = fault_behind front behind fault all t

  -- the test of one rule
  pub test_one :
      {T : Type 0} (rule : Rule) (result : Result T ElfFault)
      → MatchResult result (λ _. Holds bytes rule) (λ fault. ¬ (Holds bytes rule) × (fault ≡ fault_of bytes rule))
      → IsTestOf bytes (rule ∷ []) result
  test_one rule (Ok x) h = (h, tt)
  test_one rule (Err fault) h = fault_here rule [] fault h.0 h.1

  -- rules that are tested number by number: number k breaks one, and those below keep theirs
  pub fault_each :
      (n k : ℕ) (f : ℕ → List Rule) (fault : ElfFault) → k < n → ((j : ℕ) → j < k → KeepsRules bytes (f j))
      → (fault ≢ NoMemory → BreaksFirst bytes (f k) fault) → fault ≢ NoMemory → BreaksFirst bytes (each_below n f) fault
  fault_each n k f fault h kept b real =
      let broken : BreaksFirst bytes (f k) fault = b real in
      (broken.0, broken_each (Holds bytes) n k f broken.0 h kept broken.1, broken.2)
