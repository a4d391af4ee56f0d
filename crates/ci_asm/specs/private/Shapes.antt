-- For private contracts: what the table of statements computes. The public definitions of statements are in Forms. The
-- table of statements: the mnemonics, their names, and the shape of each statement, slot by slot.
use Rattle.std.specs.Prelude.{ℕ, ◌%◌, ◌==◌, Bool, true, ◌&&◌, if◌then◌else◌, List, [], ◌∷◌, codes, Option, Some}
use Rattle.std.specs.Prelude.{◌++◌, map, None, is_some, nat_le, not, find}
use Rattle.std.specs.Str.{bytes_eq}
use Rattle.ci_word.specs.declared.arithmetic.Op.{Op}
use Rattle.ci_word.specs.declared.arithmetic.Op.TheVariants.{Add, Sub, Sll, Slt, Sltu, Xor, Srl, Sra, Or, And, Mul}
use Rattle.ci_word.specs.declared.arithmetic.Op.TheVariants.{Mulh, Mulhsu, Mulhu, Div, Divu, Rem, Remu}
use Rattle.ci_isa.specs.declared.instruction.Cond.TheVariants.{Eq, Ne, Lt, Ge, Ltu, Geu}
use Rattle.ci_isa.specs.declared.instruction.LoadKind.TheVariants.{B, H, W, Bu, Hu}
use Rattle.ci_isa.specs.declared.instruction.Width.TheVariants.{Byte, Half, Word}
use Rattle.ci_asm.specs.Forms.{most_below, most_above, is_offset, operation_name, register_immediate, branch_name, load_name}
use Rattle.ci_asm.specs.Forms.{store_name}
use Rattle.ci_asm.specs.declared.numbers.Number.{Number}
use Rattle.ci_asm.specs.declared.mnemonics.Mnemonic.{Mnemonic}
use Rattle.ci_asm.specs.declared.mnemonics.Mnemonic.TheVariants.{RegisterRegister, RegisterImmediate, Lui, Auipc, Jal}
use Rattle.ci_asm.specs.declared.mnemonics.Mnemonic.TheVariants.{Jalr, Branch, Load, Store, Fence, Ecall, Ebreak}
use Rattle.ci_asm.specs.declared.mnemonics.Mnemonic.TheVariants.{Custom, Cput, Cread, Data}
use Rattle.ci_asm.specs.declared.slots.Field.{Field}
use Rattle.ci_asm.specs.declared.slots.Field.TheVariants.{Immediate, ShiftAmount, UpperBits, BranchOffset, JumpOffset, FenceBits}
use Rattle.ci_asm.specs.declared.slots.Field.TheVariants.{UnitNumber, WholeWord}
use Rattle.ci_asm.specs.declared.slots.Slot.{Slot}
use Rattle.ci_asm.specs.declared.slots.RegisterPlace.TheVariants.{Rd, Rs1, Rs2, Rs3}
use Rattle.ci_asm.specs.declared.slots.Slot.TheVariants.{Register, Value, Comma, Open, Close, Further, Second}

-- ---- the mnemonics

-- the name and the field of a register-immediate form, if there is one
abbrev pub form_name : Option (List ℕ × Field) → List ℕ
form_name (Some (name, field)) = name
form_name None = []

abbrev pub form_field : Option (List ℕ × Field) → Field
form_field (Some (name, field)) = field
form_field None = Immediate

abbrev pub immediate_name : Op → List ℕ
immediate_name op = form_name (register_immediate op)

abbrev pub name_of : Mnemonic → List ℕ
name_of (RegisterRegister op) = operation_name op
name_of (RegisterImmediate op) = immediate_name op
name_of Lui = codes "lui"
name_of Auipc = codes "auipc"
name_of Jal = codes "jal"
name_of Jalr = codes "jalr"
name_of (Branch cond) = branch_name cond
name_of (Load kind) = load_name kind
name_of (Store width) = store_name width
name_of Fence = codes "fence"
name_of Ecall = codes "ecall"
name_of Ebreak = codes "ebreak"
name_of Custom = codes "ci"
name_of Cput = codes "cput"
name_of Cread = codes "cread"
name_of Data = codes ".word"

-- all mnemonics
abbrev pub mnemonics : List Mnemonic
mnemonics =
    map RegisterRegister
    (Add ∷ Sub ∷ Sll ∷ Slt ∷ Sltu ∷ Xor ∷ Srl ∷ Sra ∷ Or ∷ And ∷ Mul ∷ Mulh ∷ Mulhsu ∷ Mulhu ∷ Div ∷ Divu ∷ Rem ∷ Remu
    ∷ [])
    ++ map RegisterImmediate (Add ∷ Slt ∷ Sltu ∷ Xor ∷ Or ∷ And ∷ Sll ∷ Srl ∷ Sra ∷ [])
    ++ (Lui ∷ Auipc ∷ Jal ∷ Jalr ∷ [])
    ++ map Branch (Eq ∷ Ne ∷ Lt ∷ Ge ∷ Ltu ∷ Geu ∷ []) ++ map Load (B ∷ H ∷ W ∷ Bu ∷ Hu ∷ [])
    ++ map Store (Byte ∷ Half ∷ Word ∷ []) ++ (Fence ∷ Ecall ∷ Ebreak ∷ Custom ∷ Cput ∷ Cread ∷ Data ∷ [])

abbrev pub is_named : List ℕ → Mnemonic → Bool
is_named text m = bytes_eq text (name_of m)

-- the mnemonic with this name
unfoldable pub mnemonic_of : List ℕ → Option Mnemonic
mnemonic_of text = find (is_named text) mnemonics

-- ---- the fields that hold a number

-- some statement has this mnemonic
abbrev pub is_statement : Mnemonic → Bool
is_statement (RegisterImmediate op) = is_some (register_immediate op)
is_statement m = true

-- the number lies in the field
abbrev pub fits : Field → Number → Bool
fits field n =
    nat_le n.magnitude (if n.negative then most_below field else most_above field) &&
    (if is_offset field then n.magnitude % 2 == 0 else true)

-- the number 1
abbrev pub is_one : Number → Bool
is_one n = not n.negative && n.magnitude == 1

-- ---- the shapes

abbrev pub immediate_field : Op → Field
immediate_field op = form_field (register_immediate op)

-- what stands behind the mnemonic
abbrev pub slots_of : Mnemonic → List Slot
slots_of (RegisterRegister op) = Register Rd ∷ Comma ∷ Register Rs1 ∷ Comma ∷ Register Rs2 ∷ []
slots_of (RegisterImmediate op) = Register Rd ∷ Comma ∷ Register Rs1 ∷ Comma ∷ Value (immediate_field op) ∷ []
slots_of Lui = Register Rd ∷ Comma ∷ Value UpperBits ∷ []
slots_of Auipc = Register Rd ∷ Comma ∷ Value UpperBits ∷ []
slots_of Jal = Register Rd ∷ Comma ∷ Value JumpOffset ∷ []
slots_of Jalr = Register Rd ∷ Comma ∷ Value Immediate ∷ Open ∷ Register Rs1 ∷ Close ∷ []
slots_of (Branch cond) = Register Rs1 ∷ Comma ∷ Register Rs2 ∷ Comma ∷ Value BranchOffset ∷ []
slots_of (Load kind) = Register Rd ∷ Comma ∷ Value Immediate ∷ Open ∷ Register Rs1 ∷ Close ∷ []
slots_of (Store width) = Register Rs2 ∷ Comma ∷ Value Immediate ∷ Open ∷ Register Rs1 ∷ Close ∷ []
slots_of Fence = Value FenceBits ∷ Comma ∷ Register Rs1 ∷ Comma ∷ Register Rd ∷ []
slots_of Ecall = []
slots_of Ebreak = []
slots_of Custom =
    Value UnitNumber ∷ Comma ∷ Register Rd ∷ Comma ∷ Register Rs1 ∷ Comma ∷ Register Rs2 ∷ Comma ∷ Register Rs3 ∷ []
slots_of Cput = Register Rs1 ∷ Comma ∷ Register Rs2 ∷ []
slots_of Cread = Register Rd ∷ Further ∷ Second ∷ []
slots_of Data = Value WholeWord ∷ []

-- the field of the number among the slots. Where there is none, as for `cread`, one that holds 0 and 1
abbrev pub field_in : List Slot → Field
field_in [] = ShiftAmount
field_in (Value field ∷ slots) = field
field_in (slot ∷ slots) = field_in slots

-- the field that holds the statement's number
abbrev pub field_of : Mnemonic → Field
field_of m = field_in (slots_of m)
