-- Runs of steps, and what is counted over them.
use Rattle.std.specs.Prelude.{ℕ, zero, suc, Bool, is_none, if◌then◌else◌, Some, None}
use Rattle.ci_word.specs.declared.arithmetic.Class.{Class}
use Rattle.ci_word.specs.Numbers.{count_below, sum_below}
use Rattle.ci_isa.specs.declared.instruction.Insn.{Insn}
use Rattle.ci_isa.specs.declared.instruction.Insn.TheVariants.{AluImm, Unit, Cread, Cput, Illegal}
use Rattle.ci_isa.specs.Effects.{class_of, is_no_op}
use Rattle.ci_machine.specs.Outcomes.{Reached, continued, at_start}
use Rattle.ci_machine.specs.Programs.{Program, State}
use Rattle.ci_machine.specs.Steps.{Meaning, fetched, step}

-- how long each instruction takes: by its class, the no-op 00000013, `cread` and `cput`, and the unit of each number
pub record Latencies : Type 0 where
  pub of_class : Class → ℕ
  pub pad : ℕ
  pub read : ℕ
  pub of_unit : ℕ → ℕ

abbrev pub latency : Latencies → Insn → ℕ
latency latencies (AluImm op rd rs1 imm) =
    if is_no_op op rd rs1 imm then latencies.pad else latencies.of_class (class_of (AluImm op rd rs1 imm))
latency latencies (Unit number rd rs1 rs2 rs3) = latencies.of_unit number
latency latencies (Cread rd index) = latencies.read
latency latencies (Cput rs1 rs2) = latencies.read
latency latencies (Illegal word) = 0
latency latencies insn = latencies.of_class (class_of insn)

module _ (meaning : Meaning) (program : Program) where
  -- what n steps reach from a state, none being made after an end
  abbrev pub after : ℕ → State → Reached State
  after zero state = at_start state
  after (suc n) state = continued (step meaning program) (after n state)

  -- ---- over the steps of a run: step i begins at the state that i steps reach, and is made where these met no end

  abbrev pub before_step : State → ℕ → State
  before_step state i = (after i state).state

  abbrev pub is_made : State → ℕ → Bool
  is_made state i = is_none (after i state).end

  -- how many of n steps are made
  abbrev pub steps_made : ℕ → State → ℕ
  steps_made n state = count_below n (is_made state)

  -- what the step from a state costs: nothing where no instruction is fetched
  abbrev pub step_cost : Latencies → State → ℕ
  step_cost latencies state = elim (fetched meaning program state) [ None ↦ 0 | Some insn ↦ latency latencies insn ]

  abbrev pub cost : Latencies → ℕ → State → ℕ
  cost latencies n state = sum_below n (is_made state) (λ i. step_cost latencies (before_step state i))
