-- For private contracts: the instruction that a word reads as, found by its opcode and then by its other codes. What a
-- word means is said by the table, and the public calls promise that.
use Rattle.std.specs.Prelude.{ℕ, ◌+◌, ◌*◌, Bool, ◌==◌, ◌&&◌, ◌||◌, filter, if◌then◌else◌, List, [], ◌∷◌, Option, Some}
use Rattle.std.specs.Prelude.{None, option_map, find, pos, nat_lt}
use Rattle.ci_word.specs.declared.arithmetic.Op.{Op}
use Rattle.ci_word.specs.declared.arithmetic.Op.TheVariants.{Add, Sub, Sll, Slt, Sltu, Xor, Srl, Sra, Or, And, Mul}
use Rattle.ci_word.specs.declared.arithmetic.Op.TheVariants.{Mulh, Mulhsu, Mulhu, Div, Divu, Rem, Remu}
use Rattle.ci_isa.specs.declared.instruction.Cond.{Cond}
use Rattle.ci_isa.specs.declared.instruction.Cond.TheVariants.{Eq, Ne, Lt, Ge, Ltu, Geu}
use Rattle.ci_isa.specs.declared.instruction.LoadKind.{LoadKind}
use Rattle.ci_isa.specs.declared.instruction.LoadKind.TheVariants.{B, H, W, Bu, Hu}
use Rattle.ci_isa.specs.declared.instruction.Width.{Width}
use Rattle.ci_isa.specs.declared.instruction.Width.TheVariants.{Byte, Half, Word}
use Rattle.ci_isa.specs.declared.instruction.Insn.{Insn}
use Rattle.ci_isa.specs.declared.instruction.Insn.TheVariants.{Alu, AluImm, Lui, Auipc, Jal, Jalr, Branch, Load, Store}
use Rattle.ci_isa.specs.declared.instruction.Insn.TheVariants.{Fence, Ecall, Ebreak, Unit, Cread, Cput}
use Rattle.ci_isa.specs.Fields.{field, opcode, rd_field, funct3, rs1_field, rs2_field, funct7, immediate_format}
use Rattle.ci_isa.specs.Fields.{store_format, branch_format, upper_format, jump_format, immediate, signed_immediate}
use Rattle.ci_isa.specs.Table.{operation_codes, ConstantForm, SignedImmediate, ShiftAmount, NoForm, constant_form}
use Rattle.ci_isa.specs.Table.{condition_code, load_code, store_code}

-- ---- what has a code

abbrev pub condition_at : ℕ → Option Cond
condition_at code = find (λ c. condition_code c == code) (Eq ∷ Ne ∷ Lt ∷ Ge ∷ Ltu ∷ Geu ∷ [])

abbrev pub load_at : ℕ → Option LoadKind
load_at code = find (λ k. load_code k == code) (B ∷ H ∷ W ∷ Bu ∷ Hu ∷ [])

abbrev pub width_at : ℕ → Option Width
width_at code = find (λ w. store_code w == code) (Byte ∷ Half ∷ Word ∷ [])

abbrev pub all_operations : List Op
all_operations =
    Add ∷ Sub ∷ Sll ∷ Slt ∷ Sltu ∷ Xor ∷ Srl ∷ Sra ∷ Or ∷ And
    ∷ Mul ∷ Mulh ∷ Mulhsu ∷ Mulhu ∷ Div ∷ Divu ∷ Rem ∷ Remu ∷ []

-- the first of these operations with this funct3
abbrev pub operation_among : List Op → ℕ → Option Op
operation_among operations code = find (λ op. (operation_codes op).0 == code) operations

abbrev pub has_funct7 : ℕ → Op → Bool
has_funct7 code op = (operation_codes op).1 == code

abbrev pub form_number : ConstantForm → ℕ
form_number SignedImmediate = 0
form_number ShiftAmount = 1
form_number NoForm = 2

abbrev pub has_form : ConstantForm → Op → Bool
has_form form op = form_number (constant_form op) == form_number form

-- the operations with one funct7, and those with an immediate
abbrev pub base_at : ℕ → Option Op
base_at code = operation_among (filter (has_funct7 0x00) all_operations) code

abbrev pub other_at : ℕ → Option Op
other_at code = operation_among (filter (has_funct7 0x20) all_operations) code

abbrev pub product_at : ℕ → Option Op
product_at code = operation_among (filter (has_funct7 0x01) all_operations) code

abbrev pub immediate_at : ℕ → Option Op
immediate_at code = operation_among (filter (has_form SignedImmediate) all_operations) code

-- by funct3 and funct7
abbrev pub operation_at : ℕ → ℕ → Option Op
operation_at code3 code7 =
    if code7 == 0x00 then base_at code3 else
    (if code7 == 0x20 then other_at code3 else
    (if code7 == 0x01 then product_at code3 else None))

-- the shifts with this funct7
abbrev pub shifts_with : ℕ → List Op
shifts_with code = filter (λ op. has_form ShiftAmount op && has_funct7 code op) all_operations

abbrev pub shift_at : ℕ → ℕ → Option Op
shift_at code3 code7 =
    if code7 == 0x00 then operation_among (shifts_with 0x00) code3 else
    (if code7 == 0x20 then operation_among (shifts_with 0x20) code3 else None)

-- ---- the rows of an opcode

unfoldable pub jump_row : ℕ → Option Insn
jump_row w =
    if funct3 w == 0 then Some (Jalr (rd_field w) (rs1_field w) (signed_immediate immediate_format w)) else None

unfoldable pub branch_row : ℕ → Option Insn
branch_row w =
    option_map (λ cond. Branch cond (rs1_field w) (rs2_field w) (signed_immediate branch_format w))
    (condition_at (funct3 w))

unfoldable pub load_row : ℕ → Option Insn
load_row w =
    option_map (λ kind. Load kind (rd_field w) (rs1_field w) (signed_immediate immediate_format w))
    (load_at (funct3 w))

unfoldable pub store_row : ℕ → Option Insn
store_row w =
    option_map (λ width. Store width (rs1_field w) (rs2_field w) (signed_immediate store_format w))
    (width_at (funct3 w))

unfoldable pub immediate_row : ℕ → Option Insn
immediate_row w =
    option_map (λ op. AluImm op (rd_field w) (rs1_field w) (signed_immediate immediate_format w))
    (immediate_at (funct3 w))

unfoldable pub shift_row : ℕ → Option Insn
shift_row w =
    option_map (λ op. AluImm op (rd_field w) (rs1_field w) (pos (rs2_field w)))
    (shift_at (funct3 w) (funct7 w))

unfoldable pub constant_row : ℕ → Option Insn
constant_row w = if funct3 w == 1 || funct3 w == 5 then shift_row w else immediate_row w

unfoldable pub operation_row : ℕ → Option Insn
operation_row w =
    option_map (λ op. Alu op (rd_field w) (rs1_field w) (rs2_field w))
    (operation_at (funct3 w) (funct7 w))

unfoldable pub fence_row : ℕ → Option Insn
fence_row w = if funct3 w == 0 then Some (Fence (field w 31 20) (rs1_field w) (rd_field w)) else None

unfoldable pub environment_row : ℕ → Option Insn
environment_row w = if w == 0x0000_0073 then Some Ecall else (if w == 0x0010_0073 then Some Ebreak else None)

unfoldable pub unit_row : ℕ → Option Insn
unit_row w = Some (Unit (field w 26 25 * 8 + funct3 w) (rd_field w) (rs1_field w) (rs2_field w) (field w 31 27))

unfoldable pub cread_row : ℕ → Option Insn
cread_row w =
    if rs1_field w == 0 then (if nat_lt (rs2_field w) 2 then Some (Cread (rd_field w) (rs2_field w)) else None) else None

unfoldable pub cput_row : ℕ → Option Insn
cput_row w = if rd_field w == 0 then Some (Cput (rs1_field w) (rs2_field w)) else None

unfoldable pub hidden_row : ℕ → Option Insn
hidden_row w =
    if funct7 w == 0 then (if funct3 w == 0 then cread_row w else (if funct3 w == 1 then cput_row w else None)) else None

-- ---- the tables

unfoldable pub plain_row : ℕ → Option Insn
plain_row w =
    if opcode w == 0x37 then Some (Lui (rd_field w) (immediate upper_format w)) else
    (if opcode w == 0x17 then Some (Auipc (rd_field w) (immediate upper_format w)) else
    (if opcode w == 0x6f then Some (Jal (rd_field w) (signed_immediate jump_format w)) else
    (if opcode w == 0x67 then jump_row w else
    (if opcode w == 0x63 then branch_row w else
    (if opcode w == 0x03 then load_row w else
    (if opcode w == 0x23 then store_row w else
    (if opcode w == 0x13 then constant_row w else
    (if opcode w == 0x33 then operation_row w else
    (if opcode w == 0x0f then fence_row w else environment_row w)))))))))

unfoldable pub extended_row : ℕ → Option Insn
extended_row w =
    if opcode w == 0x0b then unit_row w else
    (if opcode w == 0x2b then hidden_row w else plain_row w)
