-- A step: an instruction is fetched, and acts or directs the run (RISC-V Unprivileged ISA 20191213, sections 1.5, 2.2,
-- 2.4.2, 2.5, 2.7 and 2.8).
use Rattle.std.specs.Prelude.{ℕ, ◌+◌, ◌-◌, ◌%◌, ◌^◌, Bool, ◌==◌, ◌&&◌, not, nat_lt, int_lt, if◌then◌else◌, Option}
use Rattle.std.specs.Prelude.{Some, None}
use Rattle.std.specs.Option.{option_map}
use Rattle.ci_word.specs.declared.arithmetic.Op.TheVariants.{Add}
use Rattle.ci_word.specs.Arithmetic.{operation, signed, word_of}
use Rattle.ci_isa.specs.declared.instruction.Cond.{Cond}
use Rattle.ci_isa.specs.declared.instruction.Cond.TheVariants.{Eq, Ne, Lt, Ge, Ltu, Geu}
use Rattle.ci_isa.specs.declared.instruction.Insn.{Insn}
use Rattle.ci_isa.specs.declared.instruction.Insn.TheVariants.{Auipc, Jal, Jalr, Branch, Fence, Ecall, Ebreak, Illegal}
use Rattle.ci_isa.specs.Table.{IsInsnAt}
use Rattle.ci_isa.specs.Effects.{ends_block}
use Rattle.ci_machine.specs.declared.ends.End.TheVariants as ends
use Rattle.ci_machine.specs.Cores.{Core, register, with_register}
use Rattle.ci_machine.specs.Accesses.{addresses, number_of_bytes, bytes_at}
use Rattle.ci_machine.specs.Outcomes.{Outcome, Next, Ended}
use Rattle.ci_machine.specs.Actions.{Units, act, address_from}
use Rattle.ci_machine.specs.Programs.{Program, State, at_pc, in_text}
use Rattle.ci_machine.specs.Calls.{call}

-- What a machine knows beside its program: what each word stands for, and what units give.
pub record Meaning : Type 0 where
  pub insn : ℕ → Insn
  pub units : Units

-- Each word stands for the instruction that it reads as in the plain table, or for none. So no word stands for a unit.
abbrev pub IsPlain : Meaning → Type 0
IsPlain meaning = (word : ℕ) → IsInsnAt word (meaning.insn word)

-- ---- fetch

-- the word in memory, the lowest byte first
abbrev pub word_at : (ℕ → Option ℕ) → ℕ → Option ℕ
word_at memory address = option_map number_of_bytes (bytes_at memory (addresses 4 address))

-- the instruction at an address, where that is a multiple of four in the text, whose bytes are always mapped
abbrev pub insn_in : Meaning → Program → (ℕ → Option ℕ) → ℕ → Option Insn
insn_in meaning program memory address =
    if (address % 4 == 0) && in_text program address then option_map meaning.insn (word_at memory address) else None

abbrev pub fetched : Meaning → Program → State → Option Insn
fetched meaning program state = insn_in meaning program state.core.memory state.pc

-- ---- control

abbrev pub following : ℕ → ℕ
following pc = (pc + 4) % 2 ^ 32

-- on at the next instruction
abbrev pub onward : ℕ → Core → Outcome State
onward pc core = Next (at_pc (following pc) core)

-- on at a target, which must be a multiple of four
abbrev pub directed : ℕ → Core → Outcome State
directed target core = if target % 4 == 0 then Next (at_pc target core) else Ended (ends.Misaligned target)

abbrev pub is_taken : Cond → ℕ → ℕ → Bool
is_taken Eq a b = a == b
is_taken Ne a b = not (a == b)
is_taken Lt a b = int_lt (signed a) (signed b)
is_taken Ge a b = not (int_lt (signed a) (signed b))
is_taken Ltu a b = nat_lt a b
is_taken Geu a b = not (nat_lt a b)

-- JALR clears the lowest bit of its target
abbrev pub even : ℕ → ℕ
even target = target - target % 2

-- the outcome of an action at this pc
abbrev pub then_onward : ℕ → Outcome Core → Outcome State
then_onward pc (Next core) = onward pc core
then_onward pc (Ended end) = Ended end

-- The row of each instruction that ends a block, at a pc. The others have none here: what they do is act.
abbrev pub control : Program → Insn → ℕ → Core → Outcome State
control program (Auipc rd upper) pc core = onward pc (with_register core rd (operation Add pc upper))
control program (Jal rd offset) pc core =
    directed (operation Add pc (word_of offset)) (with_register core rd (following pc))
control program (Jalr rd rs1 offset) pc core =
    directed (even (address_from core rs1 offset)) (with_register core rd (following pc))
control program (Branch cond rs1 rs2 offset) pc core =
    if is_taken cond (register core rs1) (register core rs2)
    then directed (operation Add pc (word_of offset)) core
    else onward pc core
control program (Fence bits rs1 rd) pc core = onward pc core
control program Ecall pc core = then_onward pc (call program core)
control program Ebreak pc core = Ended ends.Break
control program (Illegal word) pc core = Ended (ends.Illegal word)
control program insn pc core = onward pc core

-- ---- the step

abbrev pub execute : Units → Program → Insn → State → Outcome State
execute units program insn state =
    if ends_block insn then control program insn state.pc state.core
    else then_onward state.pc (act units insn state.core)

-- the outcome where this instruction is fetched, or none
abbrev pub stepped : Units → Program → State → Option Insn → Outcome State
stepped units program state None = Ended (ends.Fetch state.pc)
stepped units program state (Some insn) = execute units program insn state

abbrev pub step : Meaning → Program → State → Outcome State
step meaning program state = stepped meaning.units program state (fetched meaning program state)
