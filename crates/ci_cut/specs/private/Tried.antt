-- For private contracts: what is known once every set has been tried that fits and agrees with a cut from some node on.
use Rattle.std.specs.Prelude.{◌≡◌, ℕ, ◌≤◌, Bool, ℤ, ◌≤ℤ◌, ◌<ℤ◌, ◌⊎◌, Some}
use Rattle.std.specs.Ordering.{nat_cmp}
use Rattle.std.specs.FinSet as set
use Rattle.ci_cut.specs.declared.incumbent.Incumbent.{Incumbent}
use Rattle.ci_cut.specs.Best.{IsSameSet, ComesBefore}

-- the same nodes from k on
abbrev pub Agrees : ℕ → (ℕ → Bool) → (ℕ → Bool) → Type 0
Agrees k s t = (j : ℕ) → k ≤ j → s j ≡ t j

-- no set that is tried gains more than this
abbrev pub NoneGainsMore : ((ℕ → Bool) → Type 0) → ((ℕ → Bool) → ℤ) → ℕ → (ℕ → Bool) → ℤ → Type 0
NoneGainsMore Fits gain k cut most = (other : ℕ → Bool) → Fits other → Agrees k other cut → gain other ≤ℤ most

-- this set is tried and gains more than the floor; no set that is tried gains more, and none of those that gain as
-- much comes before
pub record IsBestFrom (Fits : (ℕ → Bool) → Type 0) (gain : (ℕ → Bool) → ℤ) (k : ℕ) (cut : ℕ → Bool) (floor : ℤ)
    (best : ℕ → Bool) : Type 0 where
  pub fits : Fits best
  pub agrees : Agrees k best cut
  pub more : floor <ℤ gain best
  pub first : (other : ℕ → Bool) → Fits other → Agrees k other cut →
      (gain other <ℤ gain best) ⊎ ((gain other ≡ gain best) × (IsSameSet best other ⊎ ComesBefore best other))

-- where a search stands after its tries: as before, since none gains more, or at the first of the best of them
abbrev pub IsBetterFrom : ((ℕ → Bool) → Type 0) → ((ℕ → Bool) → ℤ) → ℕ → (ℕ → Bool) → Incumbent → Incumbent → Type 0
IsBetterFrom Fits gain k cut reached result =
    ((result ≡ reached) × NoneGainsMore Fits gain k cut reached.gain)
    ⊎ ((best : set.FinSet nat_cmp)
    × (result ≡ record { cut = Some best; gain = gain (set.contains best) })
    × IsBestFrom Fits gain k cut reached.gain (set.contains best))
