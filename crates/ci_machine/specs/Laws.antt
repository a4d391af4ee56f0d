-- What holds of all instructions and lists of instructions.
use Rattle.std.specs.Prelude.{◌≡◌, ℕ, ◌<◌, Bool, true, false, ◌||◌, ◌⊎◌, ◌↔◌, List}
use Rattle.std.specs.FinSet as set
use Rattle.ci_isa.specs.declared.instruction.Insn.{Insn}
use Rattle.ci_isa.specs.Effects.{ends_block, is_unit, is_cread, is_cput}
use Rattle.ci_isa.specs.RegisterSets.{registers_read, registers_written}
use Rattle.ci_isa.specs.Sequences.{ReadFirst, Write}
use Rattle.ci_machine.specs.Cores.{Core}
use Rattle.std.specs.List.{list_any}
use Rattle.ci_machine.specs.Outcomes.{reached, Reached}
use Rattle.ci_machine.specs.Actions.{Units}
use Rattle.ci_machine.specs.Agreement.{TakeHidden, acted}
use Rattle.ci_machine.specs.Agreement.{reads, writes, act_all, AgreeOutside, AgreeOn, AreRelated, LeavesText}
use Rattle.ci_machine.specs.Agreement.{AreActions, AllLeaveText, needed}
use Rattle.ci_machine.specs.Programs.{Program, at_pc}
use Rattle.ci_machine.specs.Steps.{control}
use Rattle.ci_machine.specs.Touches.{moved}
use Rattle.ci_machine.specs.Blocks.{AreRelatedAt, HaveSameLayout, HaveSameStreams, IsMapped}

-- ---- instructions

-- Cores that agree on what an instruction reads, and on memory outside the text, agree after it on what it writes too.
abbrev pub Frame : Type 0
Frame =
    (text set : ℕ → Bool) (units : Units) (left right : Core) → AgreeOutside text left right → AgreeOn set left right
    → (insn : Insn) → ends_block insn ≡ false → ((r : ℕ) → reads units insn r ≡ true → set r ≡ true)
    → LeavesText text insn left
    → AreRelated text (λ r. set r || writes insn r) (acted units insn left) (acted units insn right)

-- The same for an instruction that ends a block, in two programs of one layout. Nor does it touch the text from the
-- second core.
abbrev pub ControlFrame : Type 0
ControlFrame =
    (text set : ℕ → Bool) (units : Units) (old new : Program) → HaveSameLayout old new
    → (left right : Core) → IsMapped text left.memory → IsMapped text right.memory
    → AgreeOutside text left right → AgreeOn set left right
    → (insn : Insn) (pc : ℕ) → ends_block insn ≡ true → ((r : ℕ) → reads units insn r ≡ true → set r ≡ true)
    → list_any text (moved insn left) ≡ false
    → AreRelatedAt text (λ r. set r || writes insn r)
    (reached (at_pc pc left) (control old insn pc left))
    (reached (at_pc pc right) (control new insn pc right))
    × (list_any text (moved insn right) ≡ false)

-- ---- lists of instructions

-- Cores that agree on the registers that a list needs for a set agree on that set behind it.
abbrev pub ListFrame : Type 0
ListFrame =
    (text set : ℕ → Bool) (units : Units) (insns : List Insn) (left right : Reached Core)
    → AreActions insns → AreRelated text (needed units insns set) left right → AllLeaveText units text insns left
    → AreRelated text set (act_all units insns left) (act_all units insns right)

-- And they touch the same text by it.
abbrev pub ListLeaves : Type 0
ListLeaves =
    (text set : ℕ → Bool) (units : Units) (insns : List Insn) (left right : Reached Core)
    → AreActions insns → AreRelated text (needed units insns set) left right → AllLeaveText units text insns left
    → AllLeaveText units text insns right

-- No action moves the heap's end, reads from the input or puts any output.
abbrev pub ListsKeepStreams : Type 0
ListsKeepStreams =
    (units : Units) (insns : List Insn) (run : Reached Core) → HaveSameStreams run.state (act_all units insns run).state

-- ---- registers

-- the registers that are read and written, but for the hidden ones, are the sets of the instruction
abbrev pub RegistersRead : Type 0
RegistersRead =
    (units : Units) → TakeHidden units
    → (insn : Insn) (r : ℕ) → r < 32 → reads units insn r ≡ set.contains (registers_read insn) r

abbrev pub RegistersWritten : Type 0
RegistersWritten = (insn : Insn) (r : ℕ) → r < 32 → writes insn r ≡ set.contains (registers_written insn) r

-- a list needs a register for a set exactly where it reads it before it writes it, or where the set has it and the list
-- doesn't write it
abbrev pub NeedsReadFirst : Units → List Insn → (ℕ → Bool) → ℕ → Type 0
NeedsReadFirst units insns set r =
    needed units insns set r ≡ true ↔ (ReadFirst insns r ⊎ ((set r ≡ true) × ¬ Write insns r))

-- So it is for all but the hidden registers,
abbrev pub NeededIsReadFirst : Type 0
NeededIsReadFirst =
    (units : Units) → TakeHidden units
    → (insns : List Insn) (set : ℕ → Bool) (r : ℕ) → r < 32 → NeedsReadFirst units insns set r

-- and for these too where no instruction is a unit word, a `cread` or a `cput`, whatever registers units take.
abbrev pub NeededIsReadFirstByPlain : Type 0
NeededIsReadFirstByPlain =
    (units : Units) (insns : List Insn) → list_any is_unit insns ≡ false → list_any is_cread insns ≡ false
    → list_any is_cput insns ≡ false
    → (set : ℕ → Bool) (r : ℕ) → NeedsReadFirst units insns set r
