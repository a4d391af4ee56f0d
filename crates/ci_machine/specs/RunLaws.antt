-- What holds of all runs: where they end, what is counted over them, and what steps through a list of instructions do.
use Rattle.std.specs.Prelude.{◌≡◌, ℕ, ◌+◌, ◌≤◌, Bool, true, List, length, Option, Some, None, ◌↔◌}
use Rattle.std.specs.List.{sum_by}
use Rattle.ci_isa.specs.declared.instruction.Insn.{Insn}
use Rattle.ci_isa.specs.Effects.{ends_block}
use Rattle.ci_machine.specs.declared.ends.End.{End}
use Rattle.ci_machine.specs.Outcomes.{at_start}
use Rattle.ci_machine.specs.Agreement.{act_all, AreActions, AllLeaveText}
use Rattle.ci_machine.specs.Programs.{Program, State, in_text}
use Rattle.ci_machine.specs.Steps.{Meaning, fetched, step, control}
use Rattle.ci_machine.specs.Runs.{Latencies, latency, after, cost, steps_made}
use Rattle.ci_machine.specs.RunEvents.{entries, IsTame, MetEnd}
use Rattle.ci_machine.specs.Touches.{LeavesTextFor}
use Rattle.ci_machine.specs.Blocks.{StandAt, HaveSameText, IsRunOf, GoesThrough}

-- ---- m steps and n more

-- as many steps more from where the first ones came
abbrev pub RunsJoin : Type 0
RunsJoin =
    (meaning : Meaning) (program : Program) (m n : ℕ) (state : State)
    → (after meaning program m state).end ≡ None
    → after meaning program (m + n) state ≡ after meaning program n (after meaning program m state).state

-- a run that is over stays as it is
abbrev pub EndsStay : Type 0
EndsStay =
    (meaning : Meaning) (program : Program) (m n : ℕ) (state : State)
    → ¬ ((after meaning program m state).end ≡ None)
    → after meaning program (m + n) state ≡ after meaning program m state

-- A run that met an end met it at one step.
abbrev pub RunsEndAt : Type 0
RunsEndAt =
    (meaning : Meaning) (program : Program) (state : State) (n : ℕ) (e : End)
    → (after meaning program n state).end ≡ Some e → MetEnd meaning program state n e

-- A run that met none had met none before.
abbrev pub NoEndBefore : Type 0
NoEndBefore =
    (meaning : Meaning) (program : Program) (state : State) (d n : ℕ) → d ≤ n
    → (after meaning program n state).end ≡ None → (after meaning program d state).end ≡ None

-- ---- what is counted

module _ (meaning : Meaning) (program : Program) (m n : ℕ) (state : State) where
  -- what is counted over m steps and n more is counted over the first and over those behind them
  pub record AreJoined (later : State) : Type 0 where
    pub costs :
        (latencies : Latencies)
        → cost meaning program latencies (m + n) state
        ≡ cost meaning program latencies m state + cost meaning program latencies n later
    pub entered :
        (address : ℕ)
        → entries meaning program (m + n) state address
        ≡ entries meaning program m state address + entries meaning program n later address
    pub made :
        steps_made meaning program (m + n) state
        ≡ steps_made meaning program m state + steps_made meaning program n later
    pub leaves_text :
        LeavesTextFor meaning program (m + n) state
        ↔ (LeavesTextFor meaning program m state × LeavesTextFor meaning program n later)
    pub tame :
        (is_listed : ℕ → Bool)
        → IsTame meaning program is_listed (m + n) state
        ↔ (IsTame meaning program is_listed m state × IsTame meaning program is_listed n later)

  -- what is counted over m steps stays
  pub record AreOver : Type 0 where
    pub costs :
        (latencies : Latencies) → cost meaning program latencies (m + n) state ≡ cost meaning program latencies m state
    pub entered :
        (address : ℕ) → entries meaning program (m + n) state address ≡ entries meaning program m state address
    pub made : steps_made meaning program (m + n) state ≡ steps_made meaning program m state
    pub leaves_text : LeavesTextFor meaning program m state → LeavesTextFor meaning program (m + n) state
    pub tame :
        (is_listed : ℕ → Bool)
        → IsTame meaning program is_listed m state → IsTame meaning program is_listed (m + n) state

-- Counts are joined where the first steps met no end,
abbrev pub CountsJoin : Type 0
CountsJoin =
    (meaning : Meaning) (program : Program) (m n : ℕ) (state : State) → (after meaning program m state).end ≡ None
    → AreJoined meaning program m n state (after meaning program m state).state

-- and stay where they met one.
abbrev pub CountsStay : Type 0
CountsStay =
    (meaning : Meaning) (program : Program) (m n : ℕ) (state : State)
    → ¬ ((after meaning program m state).end ≡ None) → AreOver meaning program m n state

-- ---- steps through a list

-- Steps through actions that stand in the text do what the list does, as long as it leaves the text alone. The memory
-- in which the actions stand may be that of another moment, with the same text.
abbrev pub BlockSteps : Type 0
BlockSteps =
    (meaning : Meaning) (program : Program) (memory : ℕ → Option ℕ) (insns : List Insn) (state : State)
    → StandAt meaning program memory state.pc insns → HaveSameText program memory state.core.memory
    → AreActions insns → AllLeaveText meaning.units (in_text program) insns (at_start state.core)
    → IsRunOf insns state.pc
    (after meaning program (length insns) state)
    (act_all meaning.units insns (at_start state.core))

-- As many steps leave the text alone just where the list does.
abbrev pub BlockLeaves : Type 0
BlockLeaves =
    (meaning : Meaning) (program : Program) (memory : ℕ → Option ℕ) (insns : List Insn) (state : State)
    → StandAt meaning program memory state.pc insns → HaveSameText program memory state.core.memory → AreActions insns
    → LeavesTextFor meaning program (length insns) state
    ↔ AllLeaveText meaning.units (in_text program) insns (at_start state.core)

-- Going through a list costs what its instructions do.
abbrev pub BlockCosts : Type 0
BlockCosts =
    (meaning : Meaning) (program : Program) (memory : ℕ → Option ℕ) (insns : List Insn) (state : State)
    → GoesThrough meaning program memory insns state → (latencies : Latencies)
    → cost meaning program latencies (length insns) state ≡ sum_by (latency latencies) insns

-- The step of an instruction that ends a block is its control.
abbrev pub ControlSteps : Type 0
ControlSteps =
    (meaning : Meaning) (program : Program) (state : State) (insn : Insn)
    → fetched meaning program state ≡ Some insn → ends_block insn ≡ true
    → step meaning program state ≡ control program insn state.pc state.core
