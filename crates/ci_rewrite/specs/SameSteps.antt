-- A folded block that stands in the text makes the steps of the block, for everybody.
use Rattle.std.specs.Prelude.{◌≡◌, ℕ, ◌<◌, Bool, true, List, All, length, take, Some, None}
use Rattle.std.specs.FinSet as finite
use Rattle.std.specs.Ordering.{nat_cmp}
use Rattle.ci_isa.specs.declared.instruction.Insn.{Insn}
use Rattle.ci_isa.specs.Sequences.{nth_insn}
use Rattle.ci_lat.specs.Latencies.{Latencies}
use Rattle.ci_verilog.specs.Modules.{Module, IsModule}
use Rattle.ci_machine.specs.declared.ends.End.{End}
use Rattle.ci_machine.specs.Agreement.{AgreeOutside, AgreeOn}
use Rattle.ci_machine.specs.Programs.{Program, State, in_text}
use Rattle.ci_machine.specs.Steps.{Meaning, fetched}
use Rattle.ci_machine.specs.Outcomes.{is_access_fault}
use Rattle.ci_machine.specs.Runs.{after}
use Rattle.ci_machine.specs.Touches.{LeavesTextFor}
use Rattle.ci_machine.specs.Blocks.{StandAt, IsMapped, behind, AreRelatedAt}
use Rattle.ci_machine.specs.Words.{HoldsWords}
use Rattle.ci_cut.specs.declared.graph.Limits.{Limits}
use Rattle.ci_cut.specs.Gain.{Fits}
use Rattle.ci_dfg.specs.BlockGraph.{graph_of}
use Rattle.ci_unit.specs.Units.{Unit, unit_of}
use Rattle.ci_rewrite.specs.Blocks.{IsBlock, AreNamed, Covers, live_behind}
use Rattle.ci_rewrite.specs.FoldedBlock.{IsFolded}
use Rattle.ci_rewrite.specs.SameEffect.{Serve, KeepsShape, KeepsBlock}
use Rattle.ci_rewrite.specs.BareWords.{OfBareWords}
use Rattle.ci_rewrite.specs.ComputedUnits.{ComputeUnit}
use Rattle.ci_rewrite.specs.UnitModules.{HaveModules, IgnoreOperands, HasUnits}

-- ---- where two runs begin, and how far they come

-- The block stands in text at the pc of the left state, and the folded block at that of the right one, which is the
-- same. The states agree on a set of registers, on memory outside the text, heap end, input left and output. (Registers
-- hold words; memory, input and output bytes.)
pub record StandAlike
    (meaning : Meaning) (program : Program) (set : ℕ → Bool) (insns folded : List Insn) (left right : State)
    : Type 0 where
  pub pc : left.pc ≡ right.pc
  pub block : StandAt meaning program left.core.memory left.pc insns
  pub folded_block : StandAt meaning program right.core.memory right.pc folded
  pub words : HoldsWords left.core
  pub folded_words : HoldsWords right.core
  pub outside : AgreeOutside (in_text program) left.core right.core
  pub registers : AgreeOn set left.core right.core

-- Of two runs the first n steps end by one refused access, or neither run ends in them, and both stand at one pc. They
-- are related, and the second leaves the text alone.
pub record PassAlike
    (meaning : Meaning) (program : Program) (set : ℕ → Bool) (pc n : ℕ) (left right : State)
    : Type 0 where
  pub leaves_text : LeavesTextFor meaning program n right
  pub related : AreRelatedAt (in_text program) set (after meaning program n left) (after meaning program n right)
  pub refused : (end : End) → (after meaning program n left).end ≡ Some end → is_access_fault end ≡ true
  pub there : (after meaning program n left).end ≡ None → (after meaning program n left).state.pc ≡ pc

-- Two runs come to the same end in n steps, or both to none, and then both stand at one pc. They are related, and the
-- second leaves the text alone.
pub record EndAlike (meaning : Meaning) (program : Program) (set : ℕ → Bool) (n : ℕ) (left right : State)
    : Type 0 where
  pub leaves_text : LeavesTextFor meaning program n right
  pub related : AreRelatedAt (in_text program) set (after meaning program n left) (after meaning program n right)

-- ---- a folded block

-- The folded block does what the block does, where these registers are live behind it and the unit stands at this
-- number.
pub record KeepsRuns
    (insns : List Insn) (n : ℕ) (live_out : finite.FinSet nat_cmp) (number : ℕ) (unit : Unit) (folded : List Insn)
    : Type 0 where
  -- Each set of registers that covers the block covers the folded block.
  pub covers : (set : ℕ → Bool) → Covers set insns live_out → Covers set folded live_out
  -- Modules for the unit words of the block, and one of the number, are modules for those of the folded block.
  pub have_modules :
      (modules : List Module) → HaveModules modules insns → number < length modules → HaveModules modules folded
  -- Where for each bare unit word of the block the value of its module doesn't depend on d and e, and the module of the
  -- number has the unit's value, so it is for each bare unit word of the folded block. The modules are such as keep
  -- what the type of modules keeps.
  pub stay_bare :
      (modules : List Module) → All IsModule modules → OfBareWords (IgnoreOperands modules) insns
      → ComputeUnit modules number unit
      → OfBareWords (IgnoreOperands modules) folded
  -- From states that agree on such a set, where the run of the block leaves the text alone, both pass alike, up to
  -- their last instruction, if that ends them, or to their length. They agree there on what that instruction reads, and
  -- on what is live behind the block and not written by it.
  pub passes :
      (modules : List Module) (meaning : Meaning) → HasUnits modules meaning insns number unit
      → (program : Program) (set : ℕ → Bool) (left right : State) → Covers set insns live_out
      → StandAlike meaning program set insns folded left right → LeavesTextFor meaning program n left
      → PassAlike meaning program (live_behind insns n live_out) (behind (take n insns) left.pc) n left right
  -- So they do with the instruction that ends them, where all of the text is mapped: they agree behind it on what is
  -- live there.
  pub ends :
      (modules : List Module) (meaning : Meaning) → HasUnits modules meaning insns number unit
      → (program : Program) (set : ℕ → Bool) (left right : State) → Covers set insns live_out
      → StandAlike meaning program set insns folded left right
      → IsMapped (in_text program) left.core.memory → IsMapped (in_text program) right.core.memory
      → LeavesTextFor meaning program (length insns) left
      → EndAlike meaning program (finite.contains live_out) (length insns) left right

-- So it is for the folded block of a cut that fits.
abbrev pub FoldedHasSameEffect : Type 0
FoldedHasSameEffect =
    (insns : List Insn) (n : ℕ) (live_out : finite.FinSet nat_cmp) (table : Latencies) (limits : Limits)
    (cut : ℕ → Bool) (number : ℕ) (folded : List Insn)
    → IsBlock insns n → AreNamed live_out
    → Fits (graph_of insns live_out table) limits cut → number < 32
    → IsFolded insns (graph_of insns live_out table) cut number folded
    → KeepsRuns insns n live_out number (unit_of insns (graph_of insns live_out table) cut) folded

-- ---- a block that was folded several times

-- Where a list keeps a block, by one fold or by several, both pass alike.
abbrev pub FoldingKeepsSteps : Type 0
FoldingKeepsSteps =
    (meaning : Meaning) (program : Program) (set : ℕ → Bool) (insns folded : List Insn) (n : ℕ)
    (live_out : finite.FinSet nat_cmp) (left right : State)
    → IsBlock insns n → AreNamed live_out → Serve meaning.units insns
    → KeepsBlock (in_text program) meaning.units insns n live_out folded → Covers set insns live_out
    → StandAlike meaning program set insns folded left right → LeavesTextFor meaning program n left
    → PassAlike meaning program (live_behind insns n live_out) (behind (take n insns) left.pc) n left right

-- Where both pass alike, they come alike through the instruction that ends them.
abbrev pub PassedBlocksEndAlike : Type 0
PassedBlocksEndAlike =
    (meaning : Meaning) (program : Program) (insns folded : List Insn) (n : ℕ) (live_out : finite.FinSet nat_cmp)
    (pc : ℕ) (left right : State)
    → IsBlock insns n → KeepsShape insns n folded
    → StandAt meaning program left.core.memory left.pc insns
    → StandAt meaning program right.core.memory right.pc folded
    → IsMapped (in_text program) left.core.memory → IsMapped (in_text program) right.core.memory
    → PassAlike meaning program (live_behind insns n live_out) pc n left right
    → LeavesTextFor meaning program (length insns) left
    → EndAlike meaning program (finite.contains live_out) (length insns) left right

-- Where no action of a block ends its run, and the run leaves the text alone, the last instruction is fetched then, if
-- it ends the block. (So both a block and the folded block fetch the same.)
abbrev pub LastIsFetched : Type 0
LastIsFetched =
    (meaning : Meaning) (program : Program) (insns : List Insn) (n : ℕ) (state : State)
    → IsBlock insns n → n < length insns
    → StandAt meaning program state.core.memory state.pc insns → LeavesTextFor meaning program n state
    → (after meaning program n state).end ≡ None
    → fetched meaning program (after meaning program n state).state ≡ Some (nth_insn insns n)
