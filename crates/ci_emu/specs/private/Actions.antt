-- For private contracts: the instructions that actions stand for.
use Rattle.ci_word.specs.declared.arithmetic.Op.TheVariants as op
use Rattle.ci_isa.specs.declared.instruction.Cond.TheVariants as cond
use Rattle.ci_isa.specs.declared.instruction.LoadKind.TheVariants as kind
use Rattle.ci_isa.specs.declared.instruction.Width.TheVariants as width
use Rattle.ci_isa.specs.declared.instruction.Insn.{Insn}
use Rattle.ci_isa.specs.declared.instruction.Insn.TheVariants as insn
use Rattle.ci_emu.specs.declared.actions.Action.{Action}
use Rattle.ci_emu.specs.declared.actions.Action.TheVariants.{Add, Sub, Sll, Slt, Sltu, Xor, Srl, Sra, Or, And, Mul}
use Rattle.ci_emu.specs.declared.actions.Action.TheVariants.{Addi, Slli, Slti, Sltiu, Xori, Srli, Srai, Ori, Andi}
use Rattle.ci_emu.specs.declared.actions.Action.TheVariants.{Beq, Bne, Blt, Bge, Bltu, Bgeu, Lui, Jal}
use Rattle.ci_emu.specs.declared.actions.Action.TheVariants.{Lb, Lh, Lw, Lbu, Lhu, Sb, Sh, Sw}
use Rattle.ci_emu.specs.declared.actions.Action.TheVariants.{Jalr, Auipc, Registers, Constant, Fence, Ecall, Ebreak}
use Rattle.ci_emu.specs.declared.actions.Action.TheVariants.{Unit, Cread, Cput, Illegal}

-- the instruction that the action stands for
abbrev pub insn_of : Action → Insn
insn_of (Add rd rs1 rs2) = insn.Alu op.Add rd rs1 rs2
insn_of (Sub rd rs1 rs2) = insn.Alu op.Sub rd rs1 rs2
insn_of (Sll rd rs1 rs2) = insn.Alu op.Sll rd rs1 rs2
insn_of (Slt rd rs1 rs2) = insn.Alu op.Slt rd rs1 rs2
insn_of (Sltu rd rs1 rs2) = insn.Alu op.Sltu rd rs1 rs2
insn_of (Xor rd rs1 rs2) = insn.Alu op.Xor rd rs1 rs2
insn_of (Srl rd rs1 rs2) = insn.Alu op.Srl rd rs1 rs2
insn_of (Sra rd rs1 rs2) = insn.Alu op.Sra rd rs1 rs2
insn_of (Or rd rs1 rs2) = insn.Alu op.Or rd rs1 rs2
insn_of (And rd rs1 rs2) = insn.Alu op.And rd rs1 rs2
insn_of (Mul rd rs1 rs2) = insn.Alu op.Mul rd rs1 rs2
insn_of (Addi rd rs1 imm) = insn.AluImm op.Add rd rs1 imm
insn_of (Slli rd rs1 imm) = insn.AluImm op.Sll rd rs1 imm
insn_of (Slti rd rs1 imm) = insn.AluImm op.Slt rd rs1 imm
insn_of (Sltiu rd rs1 imm) = insn.AluImm op.Sltu rd rs1 imm
insn_of (Xori rd rs1 imm) = insn.AluImm op.Xor rd rs1 imm
insn_of (Srli rd rs1 imm) = insn.AluImm op.Srl rd rs1 imm
insn_of (Srai rd rs1 imm) = insn.AluImm op.Sra rd rs1 imm
insn_of (Ori rd rs1 imm) = insn.AluImm op.Or rd rs1 imm
insn_of (Andi rd rs1 imm) = insn.AluImm op.And rd rs1 imm
insn_of (Beq rs1 rs2 offset) = insn.Branch cond.Eq rs1 rs2 offset
insn_of (Bne rs1 rs2 offset) = insn.Branch cond.Ne rs1 rs2 offset
insn_of (Blt rs1 rs2 offset) = insn.Branch cond.Lt rs1 rs2 offset
insn_of (Bge rs1 rs2 offset) = insn.Branch cond.Ge rs1 rs2 offset
insn_of (Bltu rs1 rs2 offset) = insn.Branch cond.Ltu rs1 rs2 offset
insn_of (Bgeu rs1 rs2 offset) = insn.Branch cond.Geu rs1 rs2 offset
insn_of (Lui rd upper) = insn.Lui rd upper
insn_of (Jal rd offset) = insn.Jal rd offset
insn_of (Lb rd rs1 offset) = insn.Load kind.B rd rs1 offset
insn_of (Lh rd rs1 offset) = insn.Load kind.H rd rs1 offset
insn_of (Lw rd rs1 offset) = insn.Load kind.W rd rs1 offset
insn_of (Lbu rd rs1 offset) = insn.Load kind.Bu rd rs1 offset
insn_of (Lhu rd rs1 offset) = insn.Load kind.Hu rd rs1 offset
insn_of (Sb rs1 rs2 offset) = insn.Store width.Byte rs1 rs2 offset
insn_of (Sh rs1 rs2 offset) = insn.Store width.Half rs1 rs2 offset
insn_of (Sw rs1 rs2 offset) = insn.Store width.Word rs1 rs2 offset
insn_of (Jalr rd rs1 offset) = insn.Jalr rd rs1 offset
insn_of (Auipc rd upper) = insn.Auipc rd upper
insn_of (Registers o rd rs1 rs2) = insn.Alu o rd rs1 rs2
insn_of (Constant o rd rs1 imm) = insn.AluImm o rd rs1 imm
insn_of (Fence bits rs1 rd) = insn.Fence bits rs1 rd
insn_of Ecall = insn.Ecall
insn_of Ebreak = insn.Ebreak
insn_of (Unit number rd rs1 rs2 rs3) = insn.Unit number rd rs1 rs2 rs3
insn_of (Cread rd index) = insn.Cread rd index
insn_of (Cput rs1 rs2) = insn.Cput rs1 rs2
insn_of (Illegal word) = insn.Illegal word
