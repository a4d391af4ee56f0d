-- For private contracts: what is counted while a run is made.
use Rattle.std.specs.Prelude.{◌≡◌, ℕ, ◌+◌, ◌<◌, ◌==◌, if◌then◌else◌, Option, Some, None, IsTrue, ◌↔◌, ◌⊎◌}
use Rattle.std.specs.List.{AllPairs, Contains}
use Rattle.std.specs.Option.{option_map}
use Rattle.std.specs.Ordering.{nat_cmp}
use Rattle.std.specs.BTreeSet.{BTreeSet, contains, IsEmpty}
use Rattle.ci_isa.specs.declared.instruction.Insn.{Insn}
use Rattle.ci_elf.specs.Executables.{IsTextWord}
use Rattle.ci_isa.specs.declared.instruction.Insn.TheVariants.{Jalr}
use Rattle.ci_machine.specs.declared.ends.End.{End}
use Rattle.ci_machine.specs.Programs.{Program, State}
use Rattle.ci_machine.specs.Steps.{Meaning}
use Rattle.ci_machine.specs.Touches.{touched}
use Rattle.ci_machine.specs.Runs.{Latencies, cost, step_cost}
use Rattle.ci_machine.specs.RunEvents.{entries, jalr_target}
use Rattle.ci_emu.specs.declared.steps.Outcome.{Outcome}
use Rattle.ci_emu.specs.declared.steps.Outcome.TheVariants.{Next}
use Rattle.ci_emu.specs.declared.profile.Profile.{Profile}
use Rattle.ci_emu.specs.declared.tally.Tally.{Tally}
use Rattle.ci_emu.specs.Profiles.{count_at, entries_in, targets_in, IsTarget, IsTouch}

-- the address is one of the targets
abbrev pub Led : BTreeSet ℕ → ℕ → Type 0
Led targets address = IsTrue (contains nat_cmp targets address)

-- the touch that is told after one step more: an earlier one, or that of the step at this pc
abbrev pub first_touch : Option (ℕ × ℕ) → ℕ → Option ℕ → Option (ℕ × ℕ)
first_touch (Some touch) pc address = Some touch
first_touch None pc address = option_map (λ a. (pc, a)) address

-- where the instruction led, if it is a JALR and did not end, and the pc is this one behind it
abbrev pub target_of : Insn → Outcome → ℕ → Option ℕ
target_of (Jalr rd rs1 offset) Next pc = Some pc
target_of insn outcome pc = None

-- nothing was counted yet
pub record IsFresh (tally : Tally) : Type 0 where
  pub cost : tally.cost ≡ 0
  pub touched : tally.touches.first ≡ None
  pub entries : (address : ℕ) → count_at tally.counts address ≡ 0
  pub targets : IsEmpty tally.targets

-- The profile tells what the tally has, of so many steps that came to this end.
pub record IsToldBy (tally : Tally) (made : ℕ) (met : Option End) (profile : Profile) : Type 0 where
  pub steps : profile.steps ≡ made
  pub cost : profile.cost ≡ tally.cost
  pub end : profile.end ≡ met
  pub touched : profile.touched ≡ tally.touches.first
  pub entries : (address : ℕ) → entries_in profile address ≡ count_at tally.counts address
  pub ascending : AllPairs (λ a b. a < b) (targets_in profile)
  pub targets : (address : ℕ) → Contains (targets_in profile) address ↔ Led tally.targets address

module _ (meaning : Meaning) (program : Program) (latencies : Latencies) where
  -- The tally is that of n steps from the state, or of fewer where one of them ends the run.
  pub record IsCounted (state : State) (n : ℕ) (tally : Tally) : Type 0 where
    pub cost : tally.cost ≡ cost meaning program latencies n state
    pub touched : IsTouch meaning program n state tally.touches.first
    pub entries :
        (address : ℕ) → IsTextWord program.text address
        → count_at tally.counts address ≡ entries meaning program n state address
    pub targets : (address : ℕ) → Led tally.targets address ↔ IsTarget meaning program n state address

  -- The step from this state was counted, and nothing else.
  pub record IsStepCounted (state : State) (old new : Tally) : Type 0 where
    pub cost : new.cost ≡ old.cost + step_cost meaning program latencies state
    pub touched : new.touches.first ≡ first_touch old.touches.first state.pc (touched meaning program state)
    pub entries :
        (address : ℕ) → IsTextWord program.text address
        → count_at new.counts address ≡ count_at old.counts address + (if state.pc == address then 1 else 0)
    pub targets :
        (address : ℕ)
        → Led new.targets address ↔ (Led old.targets address ⊎ (jalr_target meaning program state ≡ Some address))
