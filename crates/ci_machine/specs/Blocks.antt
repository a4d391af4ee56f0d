-- Lists of instructions that stand in the text, the steps of a run through them, and states that agree.
use Rattle.std.specs.Prelude.{◌≡◌, ℕ, Bool, true, is_some, List, [], ◌∷◌, Option, Some, None, ⊤}
use Rattle.std.specs.List.{list_all}
use Rattle.ci_isa.specs.declared.instruction.Insn.{Insn}
use Rattle.ci_machine.specs.Cores.{Core}
use Rattle.ci_machine.specs.Accesses.{addresses}
use Rattle.ci_machine.specs.Outcomes.{Reached, at_start}
use Rattle.ci_machine.specs.Programs.{Program, State, in_text, heap_start, loaded_size}
use Rattle.ci_machine.specs.Agreement.{act_all, AreRelated, AreActions, AllLeaveText}
use Rattle.ci_machine.specs.Steps.{Meaning, insn_in, following}

-- The instructions stand one behind the other from an address on, each in four bytes of text.
abbrev pub StandAt : Meaning → Program → (ℕ → Option ℕ) → ℕ → List Insn → Type 0
StandAt meaning program memory address [] = ⊤
StandAt meaning program memory address (insn ∷ insns) =
    (insn_in meaning program memory address ≡ Some insn) × (list_all (in_text program) (addresses 4 address) ≡ true)
    × StandAt meaning program memory (following address) insns

-- the address behind instructions that stand from an address on
abbrev pub behind : List Insn → ℕ → ℕ
behind [] address = address
behind (insn ∷ insns) address = behind insns (following address)

-- the bytes of the text are equal
abbrev pub HaveSameText : Program → (ℕ → Option ℕ) → (ℕ → Option ℕ) → Type 0
HaveSameText program left right = (address : ℕ) → in_text program address ≡ true → left address ≡ right address

-- a run of steps did what a list of instructions does: the core and the end, and the pc where there is none
pub record IsRunOf (insns : List Insn) (address : ℕ) (steps : Reached State) (actions : Reached Core) : Type 0 where
  pub core : steps.state.core ≡ actions.state
  pub end : steps.end ≡ actions.end
  pub pc : actions.end ≡ None → steps.state.pc ≡ behind insns address

-- A run goes through a list of actions: they stand at its pc, as in this memory with the same text, and it comes to no
-- end in them and leaves the text alone.
pub record GoesThrough
    (meaning : Meaning) (program : Program) (memory : ℕ → Option ℕ) (insns : List Insn) (state : State)
    : Type 0 where
  pub stand : StandAt meaning program memory state.pc insns
  pub same : HaveSameText program memory state.core.memory
  pub acts : AreActions insns
  pub clear : AllLeaveText meaning.units (in_text program) insns (at_start state.core)
  pub on : (act_all meaning.units insns (at_start state.core)).end ≡ None

-- ---- states that agree

-- what no action changes: heap end, input left and output
pub record HaveSameStreams (left right : Core) : Type 0 where
  pub heap_end : left.heap_end ≡ right.heap_end
  pub input : left.input ≡ right.input
  pub output : left.output ≡ right.output

-- what is compared of a run of steps, but for the pc
abbrev pub cores : Reached State → Reached Core
cores run = record { state = run.state.core; end = run.end }

-- the cores are related, and so is the pc where the runs go on
pub record AreRelatedAt (text set : ℕ → Bool) (left right : Reached State) : Type 0 where
  pub pc : left.end ≡ None → left.state.pc ≡ right.state.pc
  pub related : AreRelated text set (cores left) (cores right)

-- the heaps begin at one address and may grow as far
pub record HaveSameLayout (left right : Program) : Type 0 where
  pub start : heap_start left ≡ heap_start right
  pub size : loaded_size left.segments ≡ loaded_size right.segments

-- all bytes of the text are mapped
abbrev pub IsMapped : (ℕ → Bool) → (ℕ → Option ℕ) → Type 0
IsMapped text memory = (address : ℕ) → text address ≡ true → is_some (memory address) ≡ true
