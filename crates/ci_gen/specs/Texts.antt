-- The instructions of the program of a seed.
use Rattle.std.specs.Prelude.{ℕ, ◌+◌, ◌-◌, ◌*◌, ◌%◌, List, [], ◌∷◌, ◌++◌, map, pos, if◌then◌else◌, nat_lt}
use Rattle.std.specs.Prelude.{slice_index_or}
use Rattle.std.specs.List.{flat_map, range_with_len}
use Rattle.ci_word.specs.declared.arithmetic.Op.{Op}
use Rattle.ci_word.specs.declared.arithmetic.Op.TheVariants.{Add, Sub, Sll, Xor, Srl, Or, And}
use Rattle.ci_isa.specs.declared.instruction.Insn.{Insn}
use Rattle.ci_isa.specs.declared.instruction.Insn.TheVariants.{Alu, AluImm, Lui, Jal, Store, Ecall}
use Rattle.ci_isa.specs.declared.instruction.Width.TheVariants.{Word}
use Rattle.ci_gen.specs.Draws.{draw}

-- ---- one operation

-- of the kinds 0 to 4, on two registers
abbrev pub register_operations : List Op
register_operations = Add ∷ Sub ∷ Xor ∷ Or ∷ And ∷ []

-- of the kinds 5 to 7, on a register and a constant
abbrev pub constant_operations : List Op
constant_operations = Sll ∷ Srl ∷ Add ∷ []

-- The operation of a kind from 0 to 7. Its last operand is a register's number or a constant.
unfoldable pub operation_of : (kind rd rs1 last : ℕ) → Insn
operation_of kind rd rs1 last =
    if nat_lt kind 5 then Alu (slice_index_or register_operations kind Add) rd rs1 last
    else AluImm (slice_index_or constant_operations (kind - 5) Add) rd rs1 (pos last)

-- a number from 5 to 12
abbrev pub operand : (seed n : ℕ) → ℕ
operand seed n = 5 + draw seed n % 8

-- Operation n of a seed, from 0 on: four draws say its kind, its destination and its two operands.
abbrev pub operation : (seed n : ℕ) → Insn
operation seed n =
    operation_of (draw seed (4 * n) % 8) (operand seed (4 * n + 1)) (operand seed (4 * n + 2))
    (operand seed (4 * n + 3))

-- ---- all of them

-- `jal x0, 4`, which leads to the next word
abbrev pub next_word : Insn
next_word = Jal 0 (pos 4)

-- group n of a seed: eight operations, and a jump that ends their block
unfoldable pub group : (seed n : ℕ) → List Insn
group seed n = map (operation seed) (range_with_len (8 * n) 8) ++ next_word ∷ []

-- the first groups of a seed
unfoldable pub groups : (seed count : ℕ) → List Insn
groups seed count = flat_map (group seed) (range_with_len 0 count)

-- `addi rd, rs1, n`
abbrev pub add_constant : (rd rs1 n : ℕ) → Insn
add_constant rd rs1 n = AluImm Add rd rs1 (pos n)

-- The value at 0x20000 becomes x5, and is written to the output (environment call 64). The program ends with exit code
-- 0 (environment call 93).
unfoldable pub ending : List Insn
ending =
    Lui 28 0x20000
    ∷ Store Word 28 5 (pos 0)
    ∷ add_constant 11 28 0
    ∷ add_constant 10 0 1
    ∷ add_constant 12 0 4
    ∷ add_constant 17 0 64
    ∷ Ecall
    ∷ add_constant 10 0 0
    ∷ add_constant 17 0 93
    ∷ Ecall
    ∷ []

abbrev pub text_of : (seed : ℕ) → List Insn
text_of seed = groups seed 1800 ++ ending
