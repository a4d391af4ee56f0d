-- Candidates: the blocks of which a cut can be taken next, and the one that is due.
use Rattle.std.specs.Prelude.{◌≡◌, ℕ, ◌≤◌, ℤ, pos, ◌*ℤ◌, ◌<ℤ◌, ◌⊎◌, List}
use Rattle.std.specs.FinSet as finite
use Rattle.std.specs.Ordering.{nat_cmp}
use Rattle.ci_isa.specs.declared.instruction.Insn.{Insn}
use Rattle.ci_cut.specs.Gain.{gain}
use Rattle.ci_select.specs.Histories.{History}
use Rattle.ci_select.specs.Instances.{Instance}
use Rattle.ci_select.specs.PresentBlocks.{HasPresentCut, graph_at}

module _ (instance : Instance) where
  -- The last search of the block found a cut, and what that saves over the profiled run is its gain, as often as the
  -- block was entered.
  pub record IsCandidate (history : History) (leader : ℕ) (saved : ℤ) : Type 0 where
    pub insns : List Insn
    pub cut : finite.FinSet nat_cmp
    pub has_cut : HasPresentCut instance history leader insns cut
    pub saved_is : saved ≡ gain (graph_at instance leader insns) (finite.contains cut) *ℤ pos (instance.entries leader)

  -- The candidate of which no other saves more, and that has the least leader among those that save as much.
  pub record IsDueCandidate (history : History) (leader : ℕ) : Type 0 where
    pub saved : ℤ
    pub candidate : IsCandidate history leader saved
    pub greatest :
        (other : ℕ) (others : ℤ) → IsCandidate history other others
        → (others <ℤ saved) ⊎ ((others ≡ saved) × (leader ≤ other))

  abbrev pub HasNoCandidate : History → Type 0
  HasNoCandidate history = (leader : ℕ) (saved : ℤ) → ¬ IsCandidate history leader saved
