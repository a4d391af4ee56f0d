-- The bounds of an instruction's fields: those of its places in a word (RISC-V Unprivileged ISA 20191213, sections
-- 2.2 and 2.3).
use Rattle.std.specs.Prelude.{◌≡◌, ℕ, ◌-◌, ◌%◌, ◌^◌, ◌<◌, ⊤, ℤ, pos, neg_ℤ, ◌≤ℤ◌, ◌<ℤ◌, unsigned_abs}
use Rattle.ci_isa.specs.declared.instruction.Insn.{Insn}
use Rattle.ci_isa.specs.declared.instruction.Insn.TheVariants.{Alu, AluImm, Lui, Auipc, Jal, Jalr, Branch, Load, Store}
use Rattle.ci_isa.specs.declared.instruction.Insn.TheVariants.{Fence, Ecall, Ebreak, Unit, Cread, Cput, Illegal}
use Rattle.ci_isa.specs.Table.{ConstantForm, SignedImmediate, ShiftAmount, NoForm, constant_form}

-- a number of so many bits in two's complement
abbrev pub IsOfWidth : ℕ → ℤ → Type 0
IsOfWidth width z = (neg_ℤ (pos (2 ^ (width - 1))) ≤ℤ z) × (z <ℤ pos (2 ^ (width - 1)))

abbrev pub IsEven : ℤ → Type 0
IsEven z = unsigned_abs z % 2 ≡ 0

-- a constant that the form can hold
abbrev pub ConstantFits : ConstantForm → ℤ → Type 0
ConstantFits SignedImmediate n = IsOfWidth 12 n
ConstantFits ShiftAmount n = (pos 0 ≤ℤ n) × (n <ℤ pos 32)
ConstantFits NoForm n = ⊥

-- registers, immediates and offsets are within their places; offsets of branches and jumps are even
abbrev pub FieldsFit : Insn → Type 0
FieldsFit (Alu op rd rs1 rs2) = (rd < 32) × (rs1 < 32) × (rs2 < 32)
FieldsFit (AluImm op rd rs1 imm) = (rd < 32) × (rs1 < 32) × ConstantFits (constant_form op) imm
FieldsFit (Lui rd upper) = (rd < 32) × (upper < 2 ^ 32) × (upper % 2 ^ 12 ≡ 0)
FieldsFit (Auipc rd upper) = (rd < 32) × (upper < 2 ^ 32) × (upper % 2 ^ 12 ≡ 0)
FieldsFit (Jal rd offset) = (rd < 32) × IsOfWidth 21 offset × IsEven offset
FieldsFit (Jalr rd rs1 offset) = (rd < 32) × (rs1 < 32) × IsOfWidth 12 offset
FieldsFit (Branch cond rs1 rs2 offset) = (rs1 < 32) × (rs2 < 32) × IsOfWidth 13 offset × IsEven offset
FieldsFit (Load kind rd rs1 offset) = (rd < 32) × (rs1 < 32) × IsOfWidth 12 offset
FieldsFit (Store width rs1 rs2 offset) = (rs1 < 32) × (rs2 < 32) × IsOfWidth 12 offset
FieldsFit (Fence bits rs1 rd) = (bits < 2 ^ 12) × (rs1 < 32) × (rd < 32)
FieldsFit Ecall = ⊤
FieldsFit Ebreak = ⊤
FieldsFit (Unit number rd rs1 rs2 rs3) = (number < 32) × (rd < 32) × (rs1 < 32) × (rs2 < 32) × (rs3 < 32)
FieldsFit (Cread rd index) = (rd < 32) × (index < 2)
FieldsFit (Cput rs1 rs2) = (rs1 < 32) × (rs2 < 32)
FieldsFit (Illegal word) = word < 2 ^ 32
