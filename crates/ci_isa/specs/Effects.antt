-- What an instruction reads and writes, and what kind it is (RISC-V Unprivileged ISA 20191213, chapters 2 and 7).
use Rattle.std.specs.Prelude.{ℕ, ◌-◌, Bool, true, false, not, ◌&&◌, ◌==◌, if◌then◌else◌, List, [], ◌∷◌, ◌++◌, length}
use Rattle.std.specs.Prelude.{replicate, filter, ℤ, pos, negsuc}
use Rattle.std.specs.List.{list_any}
use Rattle.ci_word.specs.declared.arithmetic.Op.{Op}
use Rattle.ci_word.specs.declared.arithmetic.Op.TheVariants as ops
use Rattle.ci_word.specs.declared.arithmetic.Class.{Class}
use Rattle.ci_word.specs.declared.arithmetic.Class.TheVariants as class
use Rattle.ci_isa.specs.declared.instruction.Width.{Width}
use Rattle.ci_isa.specs.declared.instruction.Width.TheVariants.{Byte, Half, Word}
use Rattle.ci_isa.specs.declared.instruction.Insn.{Insn}
use Rattle.ci_isa.specs.declared.instruction.Insn.TheVariants.{Alu, AluImm, Lui, Auipc, Jal, Jalr, Branch, Load, Store}
use Rattle.ci_isa.specs.declared.instruction.Insn.TheVariants.{Fence, Ecall, Ebreak, Unit, Cread, Cput, Illegal}

-- ---- what an instruction reads and writes

-- The registers that the instruction takes its operands from. An environment call takes its arguments in x10 to x12,
-- and its number in x17. LUI, AUIPC, JAL, FENCE, EBREAK, `cread` and illegal words have none.
abbrev pub operands : Insn → List ℕ
operands (Alu op rd rs1 rs2) = rs1 ∷ rs2 ∷ []
operands (AluImm op rd rs1 imm) = rs1 ∷ []
operands (Jalr rd rs1 offset) = rs1 ∷ []
operands (Branch cond rs1 rs2 offset) = rs1 ∷ rs2 ∷ []
operands (Load kind rd rs1 offset) = rs1 ∷ []
operands (Store width rs1 rs2 offset) = rs1 ∷ rs2 ∷ []
operands Ecall = 10 ∷ 11 ∷ 12 ∷ 17 ∷ []
operands (Unit number rd rs1 rs2 rs3) = rs1 ∷ rs2 ∷ rs3 ∷ []
operands (Cput rs1 rs2) = rs1 ∷ rs2 ∷ []
operands insn = []

-- The register that takes the instruction's result. An environment call answers in x10. Branches, stores, FENCE, EBREAK,
-- `cput` and illegal words have none.
abbrev pub results : Insn → List ℕ
results (Alu op rd rs1 rs2) = rd ∷ []
results (AluImm op rd rs1 imm) = rd ∷ []
results (Lui rd upper) = rd ∷ []
results (Auipc rd upper) = rd ∷ []
results (Jal rd offset) = rd ∷ []
results (Jalr rd rs1 offset) = rd ∷ []
results (Load kind rd rs1 offset) = rd ∷ []
results Ecall = 10 ∷ []
results (Unit number rd rs1 rs2 rs3) = rd ∷ []
results (Cread rd index) = rd ∷ []
results insn = []

-- the registers of a list, and then 0 for none, as many in all as said
abbrev pub padded : ℕ → List ℕ → List ℕ
padded count registers = registers ++ replicate (count - length registers) 0

-- a register other than x0, which is never read or written
abbrev pub is_kept : ℕ → Bool
is_kept r = not (r == 0)

-- the registers of a list without x0
abbrev pub without_x0 : List ℕ → List ℕ
without_x0 registers = filter is_kept registers

-- the same as a test of one register
abbrev pub is_among : List ℕ → ℕ → Bool
is_among registers r = is_kept r && list_any (λ n. n == r) registers

abbrev pub reads_register : Insn → ℕ → Bool
reads_register insn = is_among (operands insn)

abbrev pub writes_register : Insn → ℕ → Bool
writes_register insn = is_among (results insn)

-- a load or a store
abbrev pub is_access : Insn → Bool
is_access (Load kind rd rs1 offset) = true
is_access (Store width rs1 rs2 offset) = true
is_access insn = false

-- how many bytes a load or a store of this width moves
abbrev pub width_bytes : Width → ℕ
width_bytes Byte = 1
width_bytes Half = 2
width_bytes Word = 4

-- ---- kinds

-- The instruction ends a block. Operations, LUI, loads, stores, unit words, `cread` and `cput` don't.
abbrev pub ends_block : Insn → Bool
ends_block (Auipc rd upper) = true
ends_block (Jal rd offset) = true
ends_block (Jalr rd rs1 offset) = true
ends_block (Branch cond rs1 rs2 offset) = true
ends_block (Fence bits rs1 rd) = true
ends_block Ecall = true
ends_block Ebreak = true
ends_block (Illegal word) = true
ends_block insn = false

-- a unit word, which writes the hidden results too
abbrev pub is_unit : Insn → Bool
is_unit (Unit number rd rs1 rs2 rs3) = true
is_unit insn = false

-- a `cread`, which reads a hidden result
abbrev pub is_cread : Insn → Bool
is_cread (Cread rd index) = true
is_cread insn = false

-- a `cput`, which writes the hidden operands
abbrev pub is_cput : Insn → Bool
is_cput (Cput rs1 rs2) = true
is_cput insn = false

-- of an operation on two registers
abbrev pub register_class : Op → Class
register_class ops.Add = class.Add
register_class ops.Sub = class.Add
register_class ops.Sll = class.Shift
register_class ops.Slt = class.Compare
register_class ops.Sltu = class.Compare
register_class ops.Xor = class.Logic
register_class ops.Srl = class.Shift
register_class ops.Sra = class.Shift
register_class ops.Or = class.Logic
register_class ops.And = class.Logic
register_class ops.Mul = class.Mul
register_class ops.Mulh = class.Mulh
register_class ops.Mulhsu = class.Mulh
register_class ops.Mulhu = class.Mulh
register_class ops.Div = class.Div
register_class ops.Divu = class.Div
register_class ops.Rem = class.Div
register_class ops.Remu = class.Div

-- of an operation on a register and a constant, which differs for the shifts alone
abbrev pub constant_class : Op → Class
constant_class ops.Sll = class.ShiftConst
constant_class ops.Srl = class.ShiftConst
constant_class ops.Sra = class.ShiftConst
constant_class op = register_class op

-- `addi x0, x0, 0`, the canonical no-op
abbrev pub is_zero : ℤ → Bool
is_zero (pos n) = n == 0
is_zero (negsuc n) = false

abbrev pub is_no_op : Op → ℕ → ℕ → ℤ → Bool
is_no_op ops.Add rd rs1 imm = rd == 0 && rs1 == 0 && is_zero imm
is_no_op op rd rs1 imm = false

-- unit words, `cread`, `cput` and illegal words are free
abbrev pub class_of : Insn → Class
class_of (Alu op rd rs1 rs2) = register_class op
class_of (AluImm op rd rs1 imm) = if is_no_op op rd rs1 imm then class.Free else constant_class op
class_of (Lui rd upper) = class.Lui
class_of (Auipc rd upper) = class.Auipc
class_of (Jal rd offset) = class.Jump
class_of (Jalr rd rs1 offset) = class.Jump
class_of (Branch cond rs1 rs2 offset) = class.Branch
class_of (Load kind rd rs1 offset) = class.Load
class_of (Store width rs1 rs2 offset) = class.Store
class_of (Fence bits rs1 rd) = class.Fence
class_of Ecall = class.System
class_of Ebreak = class.System
class_of insn = class.Free

abbrev pub is_division : Op → Bool
is_division ops.Div = true
is_division ops.Divu = true
is_division ops.Rem = true
is_division ops.Remu = true
is_division op = false

-- the instruction may be part of a unit: an operation other than a division, or LUI, with a result that is kept
abbrev pub may_join : Insn → Bool
may_join (Alu op rd rs1 rs2) = not (is_division op) && not (rd == 0)
may_join (AluImm op rd rs1 imm) = not (is_division op) && not (rd == 0)
may_join (Lui rd upper) = not (rd == 0)
may_join insn = false
