-- For private contracts: what the count of a step needs, what it tells of the step, and what it leaves for the next.
use Rattle.std.specs.Prelude.{◌≡◌, ℕ, ◌+◌, ◌-◌, ◌<◌, ◌≤◌, ◌^◌, ◌==◌, if◌then◌else◌, length}
use Rattle.ci_isa.specs.declared.instruction.Insn.{Insn}
use Rattle.ci_elf.specs.Executables.{IsTextWord}
use Rattle.ci_machine.specs.Programs.{Program, State, in_text}
use Rattle.ci_machine.specs.Runs.{Latencies}
use Rattle.ci_machine.specs.Steps.{Meaning}
use Rattle.ci_emu.specs.declared.steps.Outcome.{Outcome}
use Rattle.ci_emu.specs.declared.tally.Tally.{Tally}
use Rattle.ci_emu.specs.private.Counting.{IsStepCounted}
use Rattle.ci_emu.specs.private.Fetched.{IsTextBelow}
use Rattle.ci_emu.specs.private.Lines.{AreKept, AreKnown}
use Rattle.ci_emu.specs.Profiles.{count_at}
use Rattle.ci_emu.specs.Steps.{IsStep}

-- The tally is one of the program, and a step from this state can be counted by it.
pub record HasRoom (Means : Meaning → Type 0) (cycles : ℕ → Insn → ℕ) (program : Program) (state : State)
    (tally : Tally) : Type 0 where
  pub text : tally.counts.places ≡ program.text
  pub room : IsTextWord program.text state.pc → count_at tally.counts state.pc < 2 ^ 32
  pub cheap : tally.cost ≤ 2 ^ 64 - 2 ^ 32
  pub many : length tally.cache.words.items ≡ length tally.counts.by_place.items
  pub behind : IsTextBelow (in_text program) tally.touches.end
  pub begun : 0 < tally.touches.changes
  pub few : tally.touches.changes ≤ 2 ^ 33
  pub kept : AreKept cycles tally.touches.changes tally.cache.words.items
  pub known : (meaning : Meaning) → Means meaning
      → AreKnown meaning program state.core.memory tally.touches.changes tally.cache.words.items

-- The step from one state to the other was counted, and nothing else; the lines that are known then are of the other.
pub record IsCountedStep (Means : Meaning → Type 0) (latencies : Latencies) (program : Program)
    (before : State) (old : Tally) (after : State) (new : Tally) (outcome : Outcome) : Type 0 where
  pub stepped : IsStep Means program before after outcome
  pub counted : (meaning : Meaning) → Means meaning → IsStepCounted meaning program latencies before old new
  pub known : (meaning : Meaning) → Means meaning
      → AreKnown meaning program after.core.memory new.touches.changes new.cache.words.items

-- A step from this state was entered, and no other: the tally is still one of the program, and little more than it was.
pub record HasEntered (cycles : ℕ → Insn → ℕ) (program : Program) (state : State) (old new : Tally) : Type 0 where
  pub entered : (address : ℕ) → IsTextWord program.text address
      → count_at new.counts address ≡ count_at old.counts address + (if state.pc == address then 1 else 0)
  pub cost : new.cost < old.cost + 2 ^ 32
  pub text : new.counts.places ≡ old.counts.places
  pub many : length new.cache.words.items ≡ length new.counts.by_place.items
  pub end : new.touches.end ≡ old.touches.end
  pub later : old.touches.changes ≤ new.touches.changes
  pub few : new.touches.changes ≤ old.touches.changes + 1
  pub kept : AreKept cycles new.touches.changes new.cache.words.items
