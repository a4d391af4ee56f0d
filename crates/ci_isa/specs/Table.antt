-- Which instruction a word is: a row for each (RISC-V Unprivileged ISA 20191213, chapter 24, tables of RV32I and
-- RV32M). The plain table has RV32I without Zifencei and Zicsr, and the extension M. The extended table adds unit
-- words in the opcode custom-0, and `cread` and `cput` in the opcode custom-1, which are the project's own.
use Rattle.std.specs.Prelude.{◌≡◌, ℕ, ◌/◌, ◌%◌, ◌^◌, ◌<◌, ℤ, pos}
use Rattle.ci_word.specs.declared.arithmetic.Op.{Op}
use Rattle.ci_word.specs.declared.arithmetic.Op.TheVariants.{Add, Sub, Sll, Slt, Sltu, Xor, Srl, Sra, Or, And, Mul}
use Rattle.ci_word.specs.declared.arithmetic.Op.TheVariants.{Mulh, Mulhsu, Mulhu, Div, Divu, Rem, Remu}
use Rattle.ci_isa.specs.declared.instruction.Cond.{Cond}
use Rattle.ci_isa.specs.declared.instruction.Cond.TheVariants.{Eq, Ne, Lt, Ge, Ltu, Geu}
use Rattle.ci_isa.specs.declared.instruction.LoadKind.{LoadKind}
use Rattle.ci_isa.specs.declared.instruction.LoadKind.TheVariants.{B, H, W, Bu, Hu}
use Rattle.ci_isa.specs.declared.instruction.Width.{Width}
use Rattle.ci_isa.specs.declared.instruction.Width.TheVariants.{Byte, Half, Word}
use Rattle.ci_isa.specs.declared.instruction.Insn.{Insn}
use Rattle.ci_isa.specs.declared.instruction.Insn.TheVariants.{Alu, AluImm, Lui, Auipc, Jal, Jalr, Branch, Load, Store}
use Rattle.ci_isa.specs.declared.instruction.Insn.TheVariants.{Fence, Ecall, Ebreak, Unit, Cread, Cput, Illegal}
use Rattle.ci_isa.specs.Fields.{field, opcode, rd_field, funct3, rs1_field, rs2_field, funct7, immediate_format}
use Rattle.ci_isa.specs.Fields.{store_format, branch_format, upper_format, jump_format, immediate, signed_immediate}

-- ---- the codes of the operations, in funct3 and funct7

-- of an operation on two registers. The form with an immediate, where there is one, has the same codes
abbrev pub operation_codes : Op → ℕ × ℕ
operation_codes Add = (0, 0x00)
operation_codes Sub = (0, 0x20)
operation_codes Sll = (1, 0x00)
operation_codes Slt = (2, 0x00)
operation_codes Sltu = (3, 0x00)
operation_codes Xor = (4, 0x00)
operation_codes Srl = (5, 0x00)
operation_codes Sra = (5, 0x20)
operation_codes Or = (6, 0x00)
operation_codes And = (7, 0x00)
operation_codes Mul = (0, 0x01)
operation_codes Mulh = (1, 0x01)
operation_codes Mulhsu = (2, 0x01)
operation_codes Mulhu = (3, 0x01)
operation_codes Div = (4, 0x01)
operation_codes Divu = (5, 0x01)
operation_codes Rem = (6, 0x01)
operation_codes Remu = (7, 0x01)

-- of a branch, a load and a store, in funct3
abbrev pub condition_code : Cond → ℕ
condition_code Eq = 0
condition_code Ne = 1
condition_code Lt = 4
condition_code Ge = 5
condition_code Ltu = 6
condition_code Geu = 7

abbrev pub load_code : LoadKind → ℕ
load_code B = 0
load_code H = 1
load_code W = 2
load_code Bu = 4
load_code Hu = 5

abbrev pub store_code : Width → ℕ
store_code Byte = 0
store_code Half = 1
store_code Word = 2

-- ---- the register-immediate forms

-- How the register-immediate form of an operation holds its constant: as a signed immediate of twelve bits, or as a
-- shift amount in the place of rs2, with a funct7; or the operation has no such form.
pub data ConstantForm : Type 0 where
  SignedImmediate : ConstantForm
  ShiftAmount : ConstantForm
  NoForm : ConstantForm

abbrev pub constant_form : Op → ConstantForm
constant_form Add = SignedImmediate
constant_form Slt = SignedImmediate
constant_form Sltu = SignedImmediate
constant_form Xor = SignedImmediate
constant_form Or = SignedImmediate
constant_form And = SignedImmediate
constant_form Sll = ShiftAmount
constant_form Srl = ShiftAmount
constant_form Sra = ShiftAmount
constant_form op = NoForm

-- how a word holds the constant n, in a form with this funct7
abbrev pub HoldsConstant : ℕ → ConstantForm → ℕ → ℤ → Type 0
HoldsConstant w SignedImmediate code n = signed_immediate immediate_format w ≡ n
HoldsConstant w ShiftAmount code n = (funct7 w ≡ code) × (pos (rs2_field w) ≡ n)
HoldsConstant w NoForm code n = ⊥

-- ---- the rows

-- the fields of word w are those of the instruction, in the plain table
abbrev pub HasFieldsOf : ℕ → Insn → Type 0
HasFieldsOf w (Alu op rd rs1 rs2) =
    (opcode w ≡ 0x33) × (funct3 w ≡ (operation_codes op).0) × (funct7 w ≡ (operation_codes op).1)
    × (rd_field w ≡ rd) × (rs1_field w ≡ rs1) × (rs2_field w ≡ rs2)
HasFieldsOf w (AluImm op rd rs1 imm) =
    (opcode w ≡ 0x13) × (funct3 w ≡ (operation_codes op).0) × (rd_field w ≡ rd) × (rs1_field w ≡ rs1)
    × HoldsConstant w (constant_form op) (operation_codes op).1 imm
HasFieldsOf w (Lui rd upper) = (opcode w ≡ 0x37) × (rd_field w ≡ rd) × (immediate upper_format w ≡ upper)
HasFieldsOf w (Auipc rd upper) = (opcode w ≡ 0x17) × (rd_field w ≡ rd) × (immediate upper_format w ≡ upper)
HasFieldsOf w (Jal rd offset) = (opcode w ≡ 0x6f) × (rd_field w ≡ rd) × (signed_immediate jump_format w ≡ offset)
HasFieldsOf w (Jalr rd rs1 offset) =
    (opcode w ≡ 0x67) × (funct3 w ≡ 0) × (rd_field w ≡ rd) × (rs1_field w ≡ rs1)
    × (signed_immediate immediate_format w ≡ offset)
HasFieldsOf w (Branch cond rs1 rs2 offset) =
    (opcode w ≡ 0x63) × (funct3 w ≡ condition_code cond) × (rs1_field w ≡ rs1) × (rs2_field w ≡ rs2)
    × (signed_immediate branch_format w ≡ offset)
HasFieldsOf w (Load kind rd rs1 offset) =
    (opcode w ≡ 0x03) × (funct3 w ≡ load_code kind) × (rd_field w ≡ rd) × (rs1_field w ≡ rs1)
    × (signed_immediate immediate_format w ≡ offset)
HasFieldsOf w (Store width rs1 rs2 offset) =
    (opcode w ≡ 0x23) × (funct3 w ≡ store_code width) × (rs1_field w ≡ rs1) × (rs2_field w ≡ rs2)
    × (signed_immediate store_format w ≡ offset)
HasFieldsOf w (Fence bits rs1 rd) =
    (opcode w ≡ 0x0f) × (funct3 w ≡ 0) × (field w 31 20 ≡ bits) × (rs1_field w ≡ rs1) × (rd_field w ≡ rd)
HasFieldsOf w Ecall = w ≡ 0x0000_0073
HasFieldsOf w Ebreak = w ≡ 0x0010_0073
HasFieldsOf w insn = ⊥

-- the same in the extended table
abbrev pub HasFieldsOfX : ℕ → Insn → Type 0
HasFieldsOfX w (Unit number rd rs1 rs2 rs3) =
    (opcode w ≡ 0x0b) × (field w 26 25 ≡ number / 8) × (funct3 w ≡ number % 8)
    × (rd_field w ≡ rd) × (rs1_field w ≡ rs1) × (rs2_field w ≡ rs2) × (field w 31 27 ≡ rs3)
HasFieldsOfX w (Cread rd index) =
    (opcode w ≡ 0x2b) × (funct3 w ≡ 0) × (funct7 w ≡ 0) × (rd_field w ≡ rd) × (rs1_field w ≡ 0) × (rs2_field w ≡ index)
    × (index < 2)
HasFieldsOfX w (Cput rs1 rs2) =
    (opcode w ≡ 0x2b) × (funct3 w ≡ 1) × (funct7 w ≡ 0) × (rd_field w ≡ 0) × (rs1_field w ≡ rs1) × (rs2_field w ≡ rs2)
HasFieldsOfX w insn = HasFieldsOf w insn

-- ---- what the calls promise

-- w is a word, and reads as the instruction in the plain table
abbrev pub Reads : ℕ → Insn → Type 0
Reads w insn = (w < 2 ^ 32) × HasFieldsOf w insn

-- the same in the extended table
abbrev pub ReadsX : ℕ → Insn → Type 0
ReadsX w insn = (w < 2 ^ 32) × HasFieldsOfX w insn

-- word w stands for the instruction: it reads as it in the extended table, or the instruction is Illegal with this word
abbrev pub IsWordOf : ℕ → Insn → Type 0
IsWordOf w (Illegal word) = (w < 2 ^ 32) × (w ≡ word)
IsWordOf w insn = ReadsX w insn

-- some word stands for the instruction
abbrev pub IsWellFormed : Insn → Type 0
IsWellFormed insn = (w : ℕ) × IsWordOf w insn

-- what stands at a word: the instruction that it reads as in the plain table, or the bare word where it reads as none
abbrev pub IsInsnAt : ℕ → Insn → Type 0
IsInsnAt w (Illegal word) = (word ≡ w) × ((insn : Insn) → ¬ Reads w insn)
IsInsnAt w insn = Reads w insn
