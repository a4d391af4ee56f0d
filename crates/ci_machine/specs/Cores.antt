-- What instructions act on: registers, memory, the heap's end, input and output
-- (RISC-V Unprivileged ISA 20191213, sections 1.4 and 2.1).
use Rattle.std.specs.Prelude.{ℕ, ◌+◌, ◌==◌, ◌&&◌, not, if◌then◌else◌, List, [], ◌∷◌, map, drop, slice_index_or, Option}

-- Everything of a state but the pc. Memory gives the byte at each mapped address, and nothing elsewhere.
pub record Core : Type 0 where
  pub registers : ℕ → ℕ
  pub memory : ℕ → Option ℕ
  pub heap_end : ℕ
  pub input : List ℕ
  pub output : List ℕ

-- ---- registers

-- x0 to x31 go by their numbers. Behind them stand the hidden registers: the results that `cread` reads, by their
-- indices, and behind these the operands that `cput` writes.
abbrev pub first_hidden : ℕ
first_hidden = 32

-- the results that a unit word writes beside its rd, in their order
abbrev pub hidden : List ℕ
hidden = 32 ∷ 33 ∷ []

-- the operands that a unit takes behind the sources of its word, in their order
abbrev pub hidden_operands : List ℕ
hidden_operands = 34 ∷ 35 ∷ []

-- the operand of this index
abbrev pub hidden_operand : ℕ → ℕ
hidden_operand index = 34 + index

-- the result of this index
abbrev pub hidden_result : ℕ → ℕ
hidden_result index = first_hidden + index

-- x0 is always 0
abbrev pub register : Core → ℕ → ℕ
register core r = if r == 0 then 0 else core.registers r

-- a write to x0 is dropped
abbrev pub with_register : Core → ℕ → ℕ → Core
with_register core r value =
    record core { registers = λ n. if (n == r) && not (r == 0) then value else core.registers n }

-- the values in registers
abbrev pub values_in : Core → List ℕ → List ℕ
values_in core registers = map (register core) registers

-- the core after the registers took these values in order, those without one 0
abbrev pub with_registers : Core → List ℕ → List ℕ → Core
with_registers core [] values = core
with_registers core (r ∷ registers) values =
    with_register (with_registers core registers (drop 1 values)) r (slice_index_or values 0 0)
