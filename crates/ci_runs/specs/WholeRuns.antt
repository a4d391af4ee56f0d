-- What a rewritten executable with its modules shares with the original, over whole runs: output, ends and memory, the
-- states at leaders, and the accounts. For every reader.
use Rattle.std.specs.Prelude.{◌≡◌, ℕ, ◌+◌, ◌==◌, Bool, true, false, pos, ℤ, ◌+ℤ◌, ◌*ℤ◌, ◌↔◌, List, [], ◌∷◌, Some, None}
use Rattle.std.specs.FinSet as finite
use Rattle.std.specs.List.{list_any}
use Rattle.ci_elf.specs.Executables.{Executable}
use Rattle.ci_live.specs.Sets.{Sets, at_leader}
use Rattle.ci_verilog.specs.Modules.{Module}
use Rattle.ci_machine.specs.declared.ends.End.{End}
use Rattle.ci_machine.specs.Agreement.{AgreeOutside, AgreeOn}
use Rattle.ci_machine.specs.Extended.{IsExtended, latencies_with}
use Rattle.ci_machine.specs.Outcomes.{Reached}
use Rattle.ci_machine.specs.Programs.{State, loaded_program, opening, in_text}
use Rattle.ci_machine.specs.RunEvents.{IsTame, entries}
use Rattle.ci_machine.specs.Runs.{Latencies, after, cost}
use Rattle.ci_machine.specs.Steps.{Meaning, IsPlain}
use Rattle.ci_machine.specs.Words.{AreBytes}
use Rattle.ci_machine.specs.Outcomes.{is_access_fault}

-- ---- two runs, each by what its first n steps reach

-- The other run has come to the same end, with the same output, heap end and input left, and the same memory outside
-- the text.
pub record AreEndedAlike (text : ℕ → Bool) (one other : Reached State) (end : End) : Type 0 where
  pub ended : other.end ≡ Some end
  pub outside : AgreeOutside text one.state.core other.state.core

-- After n steps both have put the same output. Where one has come to an end by then, the other comes to the same end
-- within 256 steps more; by every end but a refused access they come to it at the same step.
pub record AreAlikeAt (text : ℕ → Bool) (n : ℕ) (old new : ℕ → Reached State) : Type 0 where
  pub output : (old n).state.core.output ≡ (new n).state.core.output
  pub old_ends : (end : End) → (old n).end ≡ Some end → AreEndedAlike text (old n) (new (n + 256)) end
  pub new_ends : (end : End) → (new n).end ≡ Some end → AreEndedAlike text (new n) (old (n + 256)) end
  pub same_steps : (end : End) → is_access_fault end ≡ false → (old n).end ≡ Some end ↔ (new n).end ≡ Some end

-- ---- an executable and a rewritten one

-- What is compared: two executables, the modules of the second, and the listed leaders of the first, with the registers
-- that are live at each.
pub record Rewriting : Type 0 where
  pub old : Executable
  pub new : Executable
  pub modules : List Module
  pub live : Sets

-- the address is one of the listed leaders
abbrev pub is_among : List ℕ → ℕ → Bool
is_among leaders address = list_any (λ leader. leader == address) leaders

-- a cut that was taken: the leader of its block, and what it saves each time the block is entered, in cycles
pub record Saving : Type 0 where
  pub leader : ℕ
  pub gain : ℤ

-- what the cuts save together, each as often as its block was entered
abbrev pub saved : List Saving → (ℕ → ℕ) → ℤ
saved [] entered = pos 0
saved (saving ∷ savings) entered = saving.gain *ℤ pos (entered saving.leader) +ℤ saved savings entered

module _ (rewriting : Rewriting) where
  abbrev pub text : ℕ → Bool
  text = in_text (loaded_program rewriting.old)

  abbrev pub old_run : Meaning → List ℕ → ℕ → Reached State
  old_run plain input n = after plain (loaded_program rewriting.old) n (opening rewriting.old input)

  abbrev pub new_run : Meaning → List ℕ → ℕ → Reached State
  new_run extended input n = after extended (loaded_program rewriting.new) n (opening rewriting.new input)

  -- the original run is tame for n steps
  abbrev pub IsTameFor : Meaning → List ℕ → ℕ → Type 0
  IsTameFor plain input n =
      IsTame plain (loaded_program rewriting.old) (is_among rewriting.live.leaders) n (opening rewriting.old input)

  -- The original runs on the plain machine, the new executable on that with the modules, and the input is of bytes.
  -- (There are such machines, and all of them make one run: laws of ci_machine.)
  pub record AreMachines (plain extended : Meaning) (input : List ℕ) : Type 0 where
    pub is_plain : IsPlain plain
    pub is_extended : IsExtended rewriting.modules extended
    pub bytes : AreBytes input

  -- Runs: for every input and every number of steps, where the original run is tame for 256 steps more.
  abbrev pub RunAlike : Type 0
  RunAlike =
      (plain extended : Meaning) (input : List ℕ) (n : ℕ) → AreMachines plain extended input
      → IsTameFor plain input (n + 256) → AreAlikeAt text n (old_run plain input) (new_run extended input)

  -- Both runs stand at this listed leader, and agree on the registers that are live there and on memory outside the
  -- text, heap end, input left and output.
  pub record AreAtFront (old new : Reached State) : Type 0 where
    pub new_on : new.end ≡ None
    pub pc : old.state.pc ≡ new.state.pc
    pub outside : AgreeOutside text old.state.core new.state.core
    pub live : AgreeOn (finite.contains (at_leader rewriting.live old.state.pc)) old.state.core new.state.core

  -- Fronts: under the same premise, where the original stands at a listed leader after n steps, the new run stands
  -- there too.
  abbrev pub MeetAtLeaders : Type 0
  MeetAtLeaders =
      (plain extended : Meaning) (input : List ℕ) (n : ℕ) → AreMachines plain extended input
      → IsTameFor plain input (n + 256) → (old_run plain input n).end ≡ None
      → is_among rewriting.live.leaders (old_run plain input n).state.pc ≡ true
      → AreAtFront (old_run plain input n) (new_run extended input n)

  -- Accounts: where the original run is tame and ends otherwise than by a refused access, it costs more than the new
  -- one by the gain of each cut, as often as its block was entered in this run.
  abbrev pub CostLess : Latencies → List Saving → Type 0
  CostLess latencies savings =
      (plain extended : Meaning) (input : List ℕ) (n : ℕ) (end : End) → AreMachines plain extended input
      → IsTameFor plain input n → (old_run plain input n).end ≡ Some end → is_access_fault end ≡ false
      → pos (cost plain (loaded_program rewriting.old) latencies n (opening rewriting.old input))
      ≡ pos (cost extended (loaded_program rewriting.new) (latencies_with latencies rewriting.modules) n
      (opening rewriting.new input))
      +ℤ saved savings (entries plain (loaded_program rewriting.old) n (opening rewriting.old input))
