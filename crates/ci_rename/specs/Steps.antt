-- Instructions that do alike on the same values, whatever registers hold them. For every reader.
use Rattle.std.specs.Prelude.{◌≡◌, ℕ, false, true, Bool, map, Some, None}
use Rattle.ci_isa.specs.declared.instruction.Insn.{Insn}
use Rattle.ci_isa.specs.Effects.{is_cput, is_cread, is_unit, operands, writes_register}
use Rattle.ci_machine.specs.Agreement.{AgreeOutside}
use Rattle.ci_machine.specs.Blocks.{IsMapped}
use Rattle.ci_machine.specs.Cores.{Core, register}
use Rattle.ci_machine.specs.Outcomes.{Reached, reached}
use Rattle.ci_machine.specs.Programs.{Program, State, in_text}
use Rattle.ci_machine.specs.Steps.{Meaning, fetched, step}
use Rattle.ci_machine.specs.Touches.{touched}
use Rattle.ci_rename.specs.OtherRegisters.{HasOtherRegisters}

-- an instruction of the plain table
abbrev pub IsPlainInsn : Insn → Type 0
IsPlainInsn insn = (is_unit insn ≡ false) × (is_cread insn ≡ false) × (is_cput insn ≡ false)

-- the operands of both have the same values
abbrev pub HaveSameOperands : Insn → Insn → Core → Core → Type 0
HaveSameOperands old new left right = map (register left) (operands old) ≡ map (register right) (operands new)

-- Both steps come to the same end, or on to one pc. Memory outside the text is the same, and so are heap end, input
-- left and output. Where they go on, the results are the same.
pub record StepAlike (text : ℕ → Bool) (old new : Insn) (left right : Reached State) : Type 0 where
  pub end : left.end ≡ right.end
  pub pc : left.end ≡ None → left.state.pc ≡ right.state.pc
  pub outside : AgreeOutside text left.state.core right.state.core
  pub written :
      left.end ≡ None → (q p : ℕ) → writes_register old q ≡ true → writes_register new p ≡ true
      → register left.state.core q ≡ register right.state.core p

module _ (meaning : Meaning) (program : Program) where
  -- Two states at one pc, of which each fetches its own one of two instructions that differ in registers alone, and
  -- that give both the same operands. Memory outside the text is the same, and the first leaves the text alone.
  pub record MeetAtInsn (old new : Insn) (left right : State) : Type 0 where
    pub other : HasOtherRegisters old new
    pub plain : IsPlainInsn old
    pub pc : left.pc ≡ right.pc
    pub left_fetches : fetched meaning program left ≡ Some old
    pub right_fetches : fetched meaning program right ≡ Some new
    pub operands : HaveSameOperands old new left.core right.core
    pub outside : AgreeOutside (in_text program) left.core right.core
    pub left_mapped : IsMapped (in_text program) left.core.memory
    pub right_mapped : IsMapped (in_text program) right.core.memory
    pub clear : touched meaning program left ≡ None

  -- They step alike, the second leaves the text alone, too, and each keeps the registers that it doesn't write.
  pub record GoOnAlike (old new : Insn) (left right : State) : Type 0 where
    pub alike :
        StepAlike (in_text program) old new (reached left (step meaning program left))
        (reached right (step meaning program right))
    pub clear : touched meaning program right ≡ None
    pub left_keeps :
        (q : ℕ) → writes_register old q ≡ false
        → register (reached left (step meaning program left)).state.core q ≡ register left.core q
    pub right_keeps :
        (p : ℕ) → writes_register new p ≡ false
        → register (reached right (step meaning program right)).state.core p ≡ register right.core p

-- Instructions that differ in registers alone go on alike from the same operands.
abbrev pub InstructionsGoOnAlike : Type 0
InstructionsGoOnAlike =
    (meaning : Meaning) (program : Program) (old new : Insn) (left right : State)
    → MeetAtInsn meaning program old new left right → GoOnAlike meaning program old new left right
