-- Blocks that compute alike, step by step. For every reader.
use Rattle.std.specs.Prelude.{◌≡◌, ℕ, suc, ◌<◌, ◌≤◌, ◌==◌, ◌||◌, Bool, true, false, List, length, IsTrue, None, ⊤}
use Rattle.std.specs.FinSet as finite
use Rattle.std.specs.Ordering.{nat_cmp}
use Rattle.ci_isa.specs.declared.instruction.Insn.{Insn}
use Rattle.ci_isa.specs.Effects.{ends_block, reads_register}
use Rattle.ci_isa.specs.Sequences.{nth_insn, latest_writer}
use Rattle.ci_cut.specs.declared.graph.Source.{Source}
use Rattle.ci_cut.specs.declared.graph.Source.TheVariants.{Entry, Made}
use Rattle.ci_dfg.specs.BlockGraph.{source_of}
use Rattle.ci_machine.specs.Agreement.{AgreeOn, AgreeOutside}
use Rattle.ci_machine.specs.Blocks.{StandAt}
use Rattle.ci_machine.specs.Cores.{Core, register}
use Rattle.ci_machine.specs.Outcomes.{Reached}
use Rattle.ci_machine.specs.Programs.{Program, State, in_text}
use Rattle.ci_machine.specs.Runs.{after}
use Rattle.ci_machine.specs.Steps.{Meaning}
use Rattle.ci_machine.specs.Texts.{HasText}
use Rattle.ci_machine.specs.Touches.{LeavesTextFor}
use Rattle.ci_rename.specs.OtherRegisters.{ComputeAlike}
use Rattle.ci_rename.specs.Steps.{IsPlainInsn}

-- all instructions are of the plain table
abbrev pub ArePlain : List Insn → Type 0
ArePlain insns = (k : ℕ) → k < length insns → IsPlainInsn (nth_insn insns k)

-- The set has each register that the block reads before it writes it, and each that is live behind it and that it
-- doesn't write.
pub record HasEntries (set : ℕ → Bool) (insns : List Insn) (live_out : finite.FinSet nat_cmp) : Type 0 where
  pub read :
      (k r : ℕ) → k < length insns → reads_register (nth_insn insns k) r ≡ true → latest_writer insns r k ≡ None
      → set r ≡ true
  pub live : (r : ℕ) → IsTrue (finite.contains live_out r) → latest_writer insns r (length insns) ≡ None → set r ≡ true

-- Of the entry the registers of the set are known, and x0.
abbrev pub IsKnown : (ℕ → Bool) → Source → Type 0
IsKnown set (Entry r) = ((r == 0) || set r) ≡ true
IsKnown set (Made j) = ⊤

-- Before instruction k of both, what comes from one source that is known has one value.
abbrev pub AgreeOnKnown : (ℕ → Bool) → List Insn → List Insn → ℕ → Core → Core → Type 0
AgreeOnKnown set old new k left right =
    (q p : ℕ) → source_of new k p ≡ source_of old k q → IsKnown set (source_of old k q)
    → register left q ≡ register right p

-- Two runs have come to instruction k of the one block and of the other, at one pc, or both to one end. Memory outside
-- the text is the same, and so are heap end, input left and output.
pub record AreInStep (text set : ℕ → Bool) (old new : List Insn) (k : ℕ) (left right : Reached State) : Type 0 where
  pub end : left.end ≡ right.end
  pub outside : AgreeOutside text left.state.core right.state.core
  pub pc : left.end ≡ None → left.state.pc ≡ right.state.pc
  pub known : left.end ≡ None → AgreeOnKnown set old new k left.state.core right.state.core

module _ (meaning : Meaning) (program : Program) (set : ℕ → Bool) (old new : List Insn)
    (live_out : finite.FinSet nat_cmp) where
  -- Two states at one address, where the blocks stand that compute alike, agree on what the first one needs.
  pub record BeginAlike (left right : State) : Type 0 where
    pub computes : ComputeAlike live_out old new
    pub plain : ArePlain old
    pub acts : (k : ℕ) → suc k < length old → ends_block (nth_insn old k) ≡ false
    pub entries : HasEntries set old live_out
    pub pc : left.pc ≡ right.pc
    pub outside : AgreeOutside (in_text program) left.core right.core
    pub agree : AgreeOn set left.core right.core
    pub left_text : HasText program left.core
    pub right_text : HasText program right.core
    pub left_stands : StandAt meaning program left.core.memory left.pc old
    pub right_stands : StandAt meaning program right.core.memory right.pc new

  -- Behind the blocks the runs have come to one end, or to one pc and agree on what is live there.
  pub record PassInStep (left right : State) : Type 0 where
    pub in_step :
        (k : ℕ) → k ≤ length old → LeavesTextFor meaning program k left
        → AreInStep (in_text program) set old new k (after meaning program k left) (after meaning program k right)
    pub leaves :
        (k : ℕ) → k ≤ length old → LeavesTextFor meaning program k left → LeavesTextFor meaning program k right
    pub behind :
        LeavesTextFor meaning program (length old) left → (after meaning program (length old) left).end ≡ None
        → AgreeOn (finite.contains live_out) (after meaning program (length old) left).state.core
        (after meaning program (length old) right).state.core

-- Blocks that compute alike are passed in step.
abbrev pub BlocksPassInStep : Type 0
BlocksPassInStep =
    (meaning : Meaning) (program : Program) (set : ℕ → Bool) (old new : List Insn) (live_out : finite.FinSet nat_cmp)
    (left right : State) → BeginAlike meaning program set old new live_out left right
    → PassInStep meaning program set old new live_out left right
