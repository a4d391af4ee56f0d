-- The statements: the forms that their tokens have, and what each says.
use Rattle.std.specs.Prelude.{◌≡◌, ℕ, ◌*◌, ◌<◌, ◌≤◌, if◌then◌else◌, Bool, true, false, List, [], ◌∷◌, ◌++◌, length}
use Rattle.std.specs.Prelude.{codes, Option, Some, None, ℤ, pos, neg_ℤ, ◌≤ℤ◌}
use Rattle.std.specs.Fmt.{decimal}
use Rattle.std.specs.Str.Parse.{digits_value}
use Rattle.ci_word.specs.declared.arithmetic.Op.{Op}
use Rattle.ci_word.specs.declared.arithmetic.Op.TheVariants.{Add, Sub, Sll, Slt, Sltu, Xor, Srl, Sra, Or, And, Mul}
use Rattle.ci_word.specs.declared.arithmetic.Op.TheVariants.{Mulh, Mulhsu, Mulhu, Div, Divu, Rem, Remu}
use Rattle.ci_isa.specs.declared.instruction.Cond.{Cond}
use Rattle.ci_isa.specs.declared.instruction.Cond.TheVariants.{Eq, Ne, Lt, Ge, Ltu, Geu}
use Rattle.ci_isa.specs.declared.instruction.LoadKind.{LoadKind}
use Rattle.ci_isa.specs.declared.instruction.LoadKind.TheVariants.{B, H, W, Bu, Hu}
use Rattle.ci_isa.specs.declared.instruction.Width.{Width}
use Rattle.ci_isa.specs.declared.instruction.Width.TheVariants.{Byte, Half, Word}
use Rattle.ci_isa.specs.declared.instruction.Insn.{Insn}
use Rattle.ci_isa.specs.declared.instruction.Insn.TheVariants as insn
use Rattle.ci_isa.specs.FieldBounds.{IsEven}
use Rattle.ci_asm.specs.declared.slots.Field.{Field}
use Rattle.ci_asm.specs.declared.slots.Field.TheVariants.{Immediate, ShiftAmount, UpperBits, BranchOffset, JumpOffset, FenceBits}
use Rattle.ci_asm.specs.declared.slots.Field.TheVariants.{UnitNumber, WholeWord}
use Rattle.ci_asm.specs.Lexicon.{Token, name, decimal_number, hex_number, word, comma, open_bracket, close_bracket}

-- ---- fields of words that hold numbers, of which `Field` of src/slots.rt has the names

-- how far below 0 and how far above it the numbers of a field go
abbrev pub most_below : Field → ℕ
most_below Immediate = 2048
most_below BranchOffset = 4096
most_below JumpOffset = 1048576
most_below ShiftAmount = 0
most_below UpperBits = 0
most_below FenceBits = 0
most_below UnitNumber = 0
most_below WholeWord = 0

abbrev pub most_above : Field → ℕ
most_above Immediate = 2047
most_above ShiftAmount = 31
most_above UpperBits = 0xfffff
most_above BranchOffset = 4094
most_above JumpOffset = 1048574
most_above FenceBits = 4095
most_above UnitNumber = 31
most_above WholeWord = 0xffff_ffff

-- an offset: it is even, and a label may stand for it
abbrev pub is_offset : Field → Bool
is_offset BranchOffset = true
is_offset JumpOffset = true
is_offset Immediate = false
is_offset ShiftAmount = false
is_offset UpperBits = false
is_offset FenceBits = false
is_offset UnitNumber = false
is_offset WholeWord = false

-- the numbers that fit a field
abbrev pub IsIn : Field → ℤ → Type 0
IsIn field n =
    (neg_ℤ (pos (most_below field)) ≤ℤ n) × (n ≤ℤ pos (most_above field)) × (is_offset field ≡ true → IsEven n)

-- ---- mnemonics

abbrev pub operation_name : Op → List ℕ
operation_name Add = codes "add"
operation_name Sub = codes "sub"
operation_name Sll = codes "sll"
operation_name Slt = codes "slt"
operation_name Sltu = codes "sltu"
operation_name Xor = codes "xor"
operation_name Srl = codes "srl"
operation_name Sra = codes "sra"
operation_name Or = codes "or"
operation_name And = codes "and"
operation_name Mul = codes "mul"
operation_name Mulh = codes "mulh"
operation_name Mulhsu = codes "mulhsu"
operation_name Mulhu = codes "mulhu"
operation_name Div = codes "div"
operation_name Divu = codes "divu"
operation_name Rem = codes "rem"
operation_name Remu = codes "remu"

-- the register-immediate form of an operation, if it has one: its name, and the field of its immediate
abbrev pub register_immediate : Op → Option (List ℕ × Field)
register_immediate Add = Some (codes "addi", Immediate)
register_immediate Slt = Some (codes "slti", Immediate)
register_immediate Sltu = Some (codes "sltiu", Immediate)
register_immediate Xor = Some (codes "xori", Immediate)
register_immediate Or = Some (codes "ori", Immediate)
register_immediate And = Some (codes "andi", Immediate)
register_immediate Sll = Some (codes "slli", ShiftAmount)
register_immediate Srl = Some (codes "srli", ShiftAmount)
register_immediate Sra = Some (codes "srai", ShiftAmount)
register_immediate op = None

abbrev pub branch_name : Cond → List ℕ
branch_name Eq = codes "beq"
branch_name Ne = codes "bne"
branch_name Lt = codes "blt"
branch_name Ge = codes "bge"
branch_name Ltu = codes "bltu"
branch_name Geu = codes "bgeu"

abbrev pub load_name : LoadKind → List ℕ
load_name B = codes "lb"
load_name H = codes "lh"
load_name W = codes "lw"
load_name Bu = codes "lbu"
load_name Hu = codes "lhu"

abbrev pub store_name : Width → List ℕ
store_name Byte = codes "sb"
store_name Half = codes "sh"
store_name Word = codes "sw"

-- ---- operands

-- the token names register r: `x` and the number without leading zeros
abbrev pub IsRegister : Token → ℕ → Type 0
IsRegister t r = (t ≡ name (codes "x" ++ decimal r)) × (r < 32)

-- the token is a number
abbrev pub IsNumber : Token → Type 0
IsNumber (decimal_number negative digits) = Unit {0}
IsNumber (hex_number digits) = Unit {0}
IsNumber t = ⊥

-- the token writes the number n, with at most ten digits
abbrev pub Writes : Token → ℤ → Type 0
Writes (decimal_number negative digits) n =
    (length digits ≤ 10)
    × (n ≡ (if negative then neg_ℤ (pos (digits_value 10 digits)) else pos (digits_value 10 digits)))
Writes (hex_number digits) n = (length digits ≤ 10) × (n ≡ pos (digits_value 16 digits))
Writes t n = ⊥

-- the token writes the number n, which fits the field
abbrev pub HasNumber : Field → Token → ℤ → Type 0
HasNumber field t n = Writes t n × IsIn field n

-- ---- statements

-- what a statement says: an instruction, or a branch or a jump to a label, which is an instruction once the program
-- gives the offset
pub data Statement : Type 0 where
  plain : Insn → Statement
  to_label : Field → (ℤ → Insn) → List ℕ → Statement

-- the tokens are a statement that says this
pub data IsStatement : List Token → Statement → Type 0 where
  on_registers : {op : Op} {x y z : Token} {d a b : ℕ} → IsRegister x d → IsRegister y a → IsRegister z b
      → IsStatement (name (operation_name op) ∷ x ∷ comma ∷ y ∷ comma ∷ z ∷ []) (plain (insn.Alu op d a b))
  on_immediate : {op : Op} {x y z : Token} {d a : ℕ} {n : ℤ} {mnemonic : List ℕ} {field : Field}
      → register_immediate op ≡ Some (mnemonic, field) → IsRegister x d → IsRegister y a → HasNumber field z n
      → IsStatement (name mnemonic ∷ x ∷ comma ∷ y ∷ comma ∷ z ∷ []) (plain (insn.AluImm op d a n))
  lui : {x y : Token} {d n : ℕ} → IsRegister x d → HasNumber UpperBits y (pos n)
      → IsStatement (name (codes "lui") ∷ x ∷ comma ∷ y ∷ []) (plain (insn.Lui d (4096 * n)))
  auipc : {x y : Token} {d n : ℕ} → IsRegister x d → HasNumber UpperBits y (pos n)
      → IsStatement (name (codes "auipc") ∷ x ∷ comma ∷ y ∷ []) (plain (insn.Auipc d (4096 * n)))
  jump : {x y : Token} {d : ℕ} {n : ℤ} → IsRegister x d → HasNumber JumpOffset y n
      → IsStatement (name (codes "jal") ∷ x ∷ comma ∷ y ∷ []) (plain (insn.Jal d n))
  jump_label : {x : Token} {d : ℕ} {label : List ℕ} → IsRegister x d
      → IsStatement (name (codes "jal") ∷ x ∷ comma ∷ name label ∷ []) (to_label JumpOffset (insn.Jal d) label)
  jump_register : {x y z : Token} {d a : ℕ} {n : ℤ} → IsRegister x d → HasNumber Immediate y n → IsRegister z a
      → IsStatement (name (codes "jalr") ∷ x ∷ comma ∷ y ∷ open_bracket ∷ z ∷ close_bracket ∷ [])
      (plain (insn.Jalr d a n))
  branch : {cond : Cond} {x y z : Token} {a b : ℕ} {n : ℤ}
      → IsRegister x a → IsRegister y b → HasNumber BranchOffset z n
      → IsStatement (name (branch_name cond) ∷ x ∷ comma ∷ y ∷ comma ∷ z ∷ []) (plain (insn.Branch cond a b n))
  branch_label : {cond : Cond} {x y : Token} {a b : ℕ} {label : List ℕ} → IsRegister x a → IsRegister y b
      → IsStatement (name (branch_name cond) ∷ x ∷ comma ∷ y ∷ comma ∷ name label ∷ [])
      (to_label BranchOffset (insn.Branch cond a b) label)
  load : {kind : LoadKind} {x y z : Token} {d a : ℕ} {n : ℤ} → IsRegister x d → HasNumber Immediate y n → IsRegister z a
      → IsStatement (name (load_name kind) ∷ x ∷ comma ∷ y ∷ open_bracket ∷ z ∷ close_bracket ∷ [])
      (plain (insn.Load kind d a n))
  store : {width : Width} {x y z : Token} {a b : ℕ} {n : ℤ} → IsRegister x b → HasNumber Immediate y n → IsRegister z a
      → IsStatement (name (store_name width) ∷ x ∷ comma ∷ y ∷ open_bracket ∷ z ∷ close_bracket ∷ [])
      (plain (insn.Store width a b n))
  fence : {x y z : Token} {n a d : ℕ} → HasNumber FenceBits x (pos n) → IsRegister y a → IsRegister z d
      → IsStatement (name (codes "fence") ∷ x ∷ comma ∷ y ∷ comma ∷ z ∷ []) (plain (insn.Fence n a d))
  ecall : IsStatement (name (codes "ecall") ∷ []) (plain insn.Ecall)
  ebreak : IsStatement (name (codes "ebreak") ∷ []) (plain insn.Ebreak)
  custom : {v w x y z : Token} {n d a b c : ℕ}
      → HasNumber UnitNumber v (pos n) → IsRegister w d → IsRegister x a → IsRegister y b → IsRegister z c
      → IsStatement (name (codes "ci") ∷ v ∷ comma ∷ w ∷ comma ∷ x ∷ comma ∷ y ∷ comma ∷ z ∷ [])
      (plain (insn.Unit n d a b c))
  cput : {x y : Token} {a b : ℕ} → IsRegister x a → IsRegister y b
      → IsStatement (name (codes "cput") ∷ x ∷ comma ∷ y ∷ []) (plain (insn.Cput a b))
  cread : {x : Token} {d : ℕ} → IsRegister x d → IsStatement (name (codes "cread") ∷ x ∷ []) (plain (insn.Cread d 0))
  cread_second : {x y : Token} {d : ℕ} → IsRegister x d → Writes y (pos 1)
      → IsStatement (name (codes "cread") ∷ x ∷ comma ∷ y ∷ []) (plain (insn.Cread d 1))
  data_word : {x : Token} {n : ℕ}
      → HasNumber WholeWord x (pos n) → IsStatement (word ∷ x ∷ []) (plain (insn.Illegal n))

-- the token begins a statement
abbrev pub IsMnemonic : Token → Type 0
IsMnemonic t = (others : List Token) × (statement : Statement) × IsStatement (t ∷ others) statement
