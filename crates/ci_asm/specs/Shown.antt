-- The one line that an instruction is shown by.
use Rattle.std.specs.Prelude.{ℕ, ◌/◌, ◌==◌, if◌then◌else◌, false, List, [], ◌∷◌, ◌++◌, codes, Option, Some, None, ℤ}
use Rattle.std.specs.Fmt.{decimal, signed_decimal, digits}
use Rattle.ci_reading.specs.Hex.{eight_hex_digits}
use Rattle.ci_isa.specs.declared.instruction.Insn.{Insn}
use Rattle.ci_isa.specs.declared.instruction.Insn.TheVariants.{Alu, AluImm, Lui, Auipc, Jal, Jalr, Branch, Load, Store}
use Rattle.ci_isa.specs.declared.instruction.Insn.TheVariants.{Fence, Ecall, Ebreak, Unit, Cread, Cput, Illegal}
use Rattle.ci_asm.specs.declared.slots.Field.{Field}
use Rattle.ci_asm.specs.Forms.{operation_name, register_immediate, branch_name, load_name, store_name}

abbrev pub register_name : ℕ → List ℕ
register_name r = codes "x" ++ decimal r

-- an offset from a register
abbrev pub address : ℤ → ℕ → List ℕ
address offset r = signed_decimal offset ++ (codes "(" ++ (register_name r ++ codes ")"))

-- the upper twenty bits of a word, in hexadecimal without leading zeros
abbrev pub upper_text : ℕ → List ℕ
upper_text upper = codes "0x" ++ digits 16 false (upper / 4096)

-- `, ` stands between operands
abbrev pub listed : List (List ℕ) → List ℕ
listed [] = []
listed (operand ∷ []) = operand
listed (operand ∷ other ∷ operands) = operand ++ (codes ", " ++ listed (other ∷ operands))

-- a space stands behind the mnemonic
abbrev pub statement_line : List ℕ → List (List ℕ) → List ℕ
statement_line mnemonic operands = mnemonic ++ (codes " " ++ listed operands)

-- an operation without a register-immediate form has no line
abbrev pub immediate_line : Option (List ℕ × Field) → List (List ℕ) → List ℕ
immediate_line (Some (mnemonic, field)) operands = statement_line mnemonic operands
immediate_line None operands = []

-- the index of a hidden result. The index 0 isn't written
abbrev pub index_operand : ℕ → List (List ℕ)
index_operand index = if index == 0 then [] else decimal index ∷ []

abbrev pub shown : Insn → List ℕ
shown (Alu op rd rs1 rs2) =
    statement_line (operation_name op) (register_name rd ∷ register_name rs1 ∷ register_name rs2 ∷ [])
shown (AluImm op rd rs1 imm) =
    immediate_line (register_immediate op) (register_name rd ∷ register_name rs1 ∷ signed_decimal imm ∷ [])
shown (Lui rd upper) = statement_line (codes "lui") (register_name rd ∷ upper_text upper ∷ [])
shown (Auipc rd upper) = statement_line (codes "auipc") (register_name rd ∷ upper_text upper ∷ [])
shown (Jal rd offset) = statement_line (codes "jal") (register_name rd ∷ signed_decimal offset ∷ [])
shown (Jalr rd rs1 offset) = statement_line (codes "jalr") (register_name rd ∷ address offset rs1 ∷ [])
shown (Branch cond rs1 rs2 offset) =
    statement_line (branch_name cond) (register_name rs1 ∷ register_name rs2 ∷ signed_decimal offset ∷ [])
shown (Load kind rd rs1 offset) = statement_line (load_name kind) (register_name rd ∷ address offset rs1 ∷ [])
shown (Store width rs1 rs2 offset) = statement_line (store_name width) (register_name rs2 ∷ address offset rs1 ∷ [])
shown (Fence bits rs1 rd) = statement_line (codes "fence") (decimal bits ∷ register_name rs1 ∷ register_name rd ∷ [])
shown Ecall = codes "ecall"
shown Ebreak = codes "ebreak"
shown (Unit number rd rs1 rs2 rs3) =
    statement_line (codes "ci")
    (decimal number ∷ register_name rd ∷ register_name rs1 ∷ register_name rs2 ∷ register_name rs3 ∷ [])
shown (Cread rd index) = statement_line (codes "cread") (register_name rd ∷ index_operand index)
shown (Cput rs1 rs2) = statement_line (codes "cput") (register_name rs1 ∷ register_name rs2 ∷ [])
shown (Illegal word) = statement_line (codes ".word") ((codes "0x" ++ eight_hex_digits word) ∷ [])
