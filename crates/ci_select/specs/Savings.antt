-- What the cuts of a book save over the profiled run.
use Rattle.std.specs.Prelude.{◌≡◌, ◌≢◌, ℕ, ◌+◌, false, pos, [], ◌∷◌}
use Rattle.ci_log.specs.declared.book.Entry.{Entry}
use Rattle.ci_log.specs.declared.book.Entry.TheVariants.{Take}
use Rattle.ci_select.specs.Histories.{History, is_take}
use Rattle.ci_select.specs.Instances.{Instance}
use Rattle.ci_select.specs.Candidates.{IsCandidate}

module _ (instance : Instance) where
  -- The cuts that were taken save so many cycles together: each its gain, as often as its block was entered.
  pub data IsSaved : History → ℕ → Type 0 where
    none : IsSaved [] 0
    of_search :
        {history : History} {entry : Entry} {saved : ℕ}
        → is_take entry ≡ false → IsSaved history saved → IsSaved (entry ∷ history) saved
    of_take :
        {history : History} {leader unit saved more : ℕ}
        → IsSaved history saved → IsCandidate instance history leader (pos more)
        → IsSaved (Take leader unit ∷ history) (saved + more)

  -- The cuts that were taken as the unit of this number save so many cycles together.
  pub data IsSavedBy (unit : ℕ) : History → ℕ → Type 0 where
    by_none : IsSavedBy unit [] 0
    by_search :
        {history : History} {entry : Entry} {saved : ℕ}
        → is_take entry ≡ false → IsSavedBy unit history saved → IsSavedBy unit (entry ∷ history) saved
    by_other :
        {history : History} {leader number saved : ℕ}
        → number ≢ unit → IsSavedBy unit history saved → IsSavedBy unit (Take leader number ∷ history) saved
    by_take :
        {history : History} {leader number saved more : ℕ}
        → number ≡ unit → IsSavedBy unit history saved → IsCandidate instance history leader (pos more)
        → IsSavedBy unit (Take leader number ∷ history) (saved + more)
