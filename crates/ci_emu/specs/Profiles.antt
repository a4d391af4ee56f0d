-- What a run is counted by.
use Rattle.std.specs.Prelude.{◌≡◌, ℕ, ◌<◌, ◌↔◌, true, List, Option, Some, None, slice_index}
use Rattle.std.specs.List.{AllPairs, Contains}
use Rattle.ci_elf.specs.Executables.{IsTextWord}
use Rattle.ci_elf.specs.WordPlaces.{word_place}
use Rattle.ci_machine.specs.Programs.{Program, State}
use Rattle.ci_machine.specs.Steps.{Meaning}
use Rattle.ci_machine.specs.Runs.{Latencies, after, before_step, is_made, steps_made, cost}
use Rattle.ci_machine.specs.RunEvents.{entries, jalr_target}
use Rattle.ci_machine.specs.Touches.{LeavesTextFor, IsFirstTouch}
use Rattle.ci_emu.specs.declared.counts.Counts.{Counts}
use Rattle.ci_emu.specs.declared.profile.Profile.{Profile}

-- what stands in a list at a place, and 0 where there is none
abbrev pub at_place : List ℕ → Option ℕ → ℕ
at_place counts None = 0
at_place counts (Some place) = slice_index counts place

-- how many steps were counted for the word at an address
unfoldable pub count_at : Counts → ℕ → ℕ
count_at counts address = at_place counts.by_place.items (word_place counts.places address)

-- how many steps the profile has for the word at an address
unfoldable pub entries_in : Profile → ℕ → ℕ
entries_in profile address = count_at profile.counts address

-- where JALR led, by the profile
unfoldable pub targets_in : Profile → List ℕ
targets_in profile = profile.targets.items

module _ (meaning : Meaning) (program : Program) (n : ℕ) (state : State) where
  -- a JALR of the n steps leads to the address
  pub record IsTarget (address : ℕ) : Type 0 where
    pub place : ℕ
    pub within : place < n
    pub made : is_made meaning program state place ≡ true
    pub leads : jalr_target meaning program (before_step meaning program state place) ≡ Some address

  -- none of the n steps touches the text, or this is the pc of the first that does, and the first byte that it moves
  abbrev pub IsTouch : Option (ℕ × ℕ) → Type 0
  IsTouch None = LeavesTextFor meaning program n state
  IsTouch (Some (pc, address)) = IsFirstTouch meaning program n state pc address

  -- The profile is that of n steps from the state, or of fewer where one of them ends the run.
  pub record IsProfileOf (latencies : Latencies) (profile : Profile) : Type 0 where
    pub steps : profile.steps ≡ steps_made meaning program n state
    pub cost : profile.cost ≡ cost meaning program latencies n state
    pub end : profile.end ≡ (after meaning program n state).end
    pub touched : IsTouch profile.touched
    pub entries :
        (address : ℕ) → IsTextWord program.text address
        → entries_in profile address ≡ entries meaning program n state address
    pub ascending : AllPairs (λ a b. a < b) (targets_in profile)
    pub targets : (address : ℕ) → Contains (targets_in profile) address ↔ IsTarget address
