-- What a word reads as is what its row answers, and nothing else.
use Rattle.std.proofs.Common.{◌≡◌, ℕ, ◌+◌, ◌*◌, ◌/◌, ◌%◌, ◌^◌, ◌<◌, Option, Some, None, ℤ, pos, refl, sym, ap, ◌∙◌, arith}
use Rattle.std.specs.Prelude.{IfSome, IfNone, option_map, unwrap_or, nat_lt, if◌then◌else◌}
use Rattle.std.proofs.lemmas.Bool.{lt-ltb}
use Rattle.ci_word.specs.declared.arithmetic.Op.{Op}
use Rattle.ci_word.specs.declared.arithmetic.Op.TheVariants.{Add, Sub, Sll, Slt, Sltu, Xor, Srl, Sra, Or, And, Mul, Mulh, Mulhsu, Mulhu, Div, Divu, Rem, Remu}
use Rattle.ci_isa.specs.declared.instruction.Cond.{Cond}
use Rattle.ci_isa.specs.declared.instruction.Cond.TheVariants.{Eq, Ne, Lt, Ge, Ltu, Geu}
use Rattle.ci_isa.specs.declared.instruction.LoadKind.{LoadKind}
use Rattle.ci_isa.specs.declared.instruction.LoadKind.TheVariants.{B, H, W, Bu, Hu}
use Rattle.ci_isa.specs.declared.instruction.Width.{Width}
use Rattle.ci_isa.specs.declared.instruction.Width.TheVariants.{Byte, Half, Word}
use Rattle.ci_isa.specs.declared.instruction.Insn.{Insn}
use Rattle.ci_isa.specs.declared.instruction.Insn.TheVariants.{Alu, AluImm, Lui, Auipc, Jal, Jalr, Branch, Load, Store}
use Rattle.ci_isa.specs.declared.instruction.Insn.TheVariants.{Fence, Ecall, Ebreak, Unit, Cread, Cput, Illegal}
use Rattle.ci_isa.specs.Fields.{field, rd_field, funct3, rs1_field, rs2_field, funct7, immediate_format, store_format, branch_format, signed_immediate}
use Rattle.ci_isa.specs.Table.{operation_codes, condition_code, load_code, store_code, constant_form, HoldsConstant}
use Rattle.ci_isa.specs.Table.{HasFieldsOf, HasFieldsOfX, Reads, ReadsX, IsWordOf, IsWellFormed, IsInsnAt}
use Rattle.ci_isa.specs.private.Decoding.{condition_at, load_at, width_at, immediate_at, operation_at, shift_at, jump_row}
use Rattle.ci_isa.specs.private.Decoding.{branch_row, load_row, store_row, immediate_row, shift_row, constant_row}
use Rattle.ci_isa.specs.private.Decoding.{operation_row, fence_row, environment_row, unit_row, cread_row, cput_row, hidden_row, plain_row}
use Rattle.ci_isa.specs.private.Decoding.{extended_row}
use Rattle.ci_isa.proofs.RowSoundness.{in_extended}

-- ---- each code has one meaning

condition_known : (cond : Cond) → condition_at (condition_code cond) ≡ Some cond
condition_known Eq = refl
condition_known Ne = refl
condition_known Lt = refl
condition_known Ge = refl
condition_known Ltu = refl
condition_known Geu = refl

load_known : (kind : LoadKind) → load_at (load_code kind) ≡ Some kind
load_known B = refl
load_known H = refl
load_known W = refl
load_known Bu = refl
load_known Hu = refl

width_known : (width : Width) → width_at (store_code width) ≡ Some width
width_known Byte = refl
width_known Half = refl
width_known Word = refl

operation_known : (op : Op) → operation_at (operation_codes op).0 (operation_codes op).1 ≡ Some op
operation_known Add = refl
operation_known Sub = refl
operation_known Sll = refl
operation_known Slt = refl
operation_known Sltu = refl
operation_known Xor = refl
operation_known Srl = refl
operation_known Sra = refl
operation_known Or = refl
operation_known And = refl
operation_known Mul = refl
operation_known Mulh = refl
operation_known Mulhsu = refl
operation_known Mulhu = refl
operation_known Div = refl
operation_known Divu = refl
operation_known Rem = refl
operation_known Remu = refl

-- ---- the rows of the plain table

jump_only : (w rd rs1 : ℕ) (offset : ℤ) → funct3 w ≡ 0 → rd_field w ≡ rd → rs1_field w ≡ rs1
    → signed_immediate immediate_format w ≡ offset → jump_row w ≡ Some (Jalr rd rs1 offset)
unfolding jump_row
jump_only w rd rs1 offset code d a e = rw code (λ i. Some (Jalr (d i) (a i) (e i)))

branch_only : (w : ℕ) (cond : Cond) (rs1 rs2 : ℕ) (offset : ℤ) → funct3 w ≡ condition_code cond → rs1_field w ≡ rs1
    → rs2_field w ≡ rs2 → signed_immediate branch_format w ≡ offset
    → branch_row w ≡ Some (Branch cond rs1 rs2 offset)
unfolding branch_row
branch_only w cond rs1 rs2 offset code a b e =
    ap (option_map (λ cond. Branch cond (rs1_field w) (rs2_field w) (signed_immediate branch_format w))) (ap condition_at code ∙ condition_known cond)
    ∙ (λ i. Some (Branch cond (a i) (b i) (e i)))

load_only : (w : ℕ) (kind : LoadKind) (rd rs1 : ℕ) (offset : ℤ) → funct3 w ≡ load_code kind → rd_field w ≡ rd
    → rs1_field w ≡ rs1 → signed_immediate immediate_format w ≡ offset → load_row w ≡ Some (Load kind rd rs1 offset)
unfolding load_row
load_only w kind rd rs1 offset code d a e =
    ap (option_map (λ kind. Load kind (rd_field w) (rs1_field w) (signed_immediate immediate_format w))) (ap load_at code ∙ load_known kind)
    ∙ (λ i. Some (Load kind (d i) (a i) (e i)))

store_only : (w : ℕ) (width : Width) (rs1 rs2 : ℕ) (offset : ℤ) → funct3 w ≡ store_code width → rs1_field w ≡ rs1
    → rs2_field w ≡ rs2 → signed_immediate store_format w ≡ offset → store_row w ≡ Some (Store width rs1 rs2 offset)
unfolding store_row
store_only w width rs1 rs2 offset code a b e =
    ap (option_map (λ width. Store width (rs1_field w) (rs2_field w) (signed_immediate store_format w))) (ap width_at code ∙ width_known width)
    ∙ (λ i. Some (Store width (a i) (b i) (e i)))

operation_only : (w : ℕ) (op : Op) (rd rs1 rs2 : ℕ) → funct3 w ≡ (operation_codes op).0
    → funct7 w ≡ (operation_codes op).1 → rd_field w ≡ rd → rs1_field w ≡ rs1 → rs2_field w ≡ rs2
    → operation_row w ≡ Some (Alu op rd rs1 rs2)
unfolding operation_row
operation_only w op rd rs1 rs2 code3 code7 d a b =
    ap (option_map (λ op. Alu op (rd_field w) (rs1_field w) (rs2_field w))) ((λ i. operation_at (code3 i) (code7 i)) ∙ operation_known op)
    ∙ (λ i. Some (Alu op (d i) (a i) (b i)))

immediate_only : (w : ℕ) (op : Op) (rd rs1 : ℕ) (imm : ℤ) → immediate_at (operation_codes op).0 ≡ Some op
    → funct3 w ≡ (operation_codes op).0 → rd_field w ≡ rd → rs1_field w ≡ rs1
    → signed_immediate immediate_format w ≡ imm → immediate_row w ≡ Some (AluImm op rd rs1 imm)
unfolding immediate_row
immediate_only w op rd rs1 imm known code d a e =
    ap (option_map (λ op. AluImm op (rd_field w) (rs1_field w) (signed_immediate immediate_format w))) (ap immediate_at code ∙ known)
    ∙ (λ i. Some (AluImm op (d i) (a i) (e i)))

shift_only : (w : ℕ) (op : Op) (rd rs1 : ℕ) (imm : ℤ)
    → shift_at (operation_codes op).0 (operation_codes op).1 ≡ Some op → funct3 w ≡ (operation_codes op).0
    → rd_field w ≡ rd → rs1_field w ≡ rs1 → (funct7 w ≡ (operation_codes op).1) × (pos (rs2_field w) ≡ imm)
    → shift_row w ≡ Some (AluImm op rd rs1 imm)
unfolding shift_row
shift_only w op rd rs1 imm known code d a held =
    ap (option_map (λ op. AluImm op (rd_field w) (rs1_field w) (pos (rs2_field w)))) ((λ i. shift_at (code i) (held.0 i)) ∙ known)
    ∙ (λ i. Some (AluImm op (d i) (a i) (held.1 i)))

constant_only : (w : ℕ) (op : Op) (rd rs1 : ℕ) (imm : ℤ) → funct3 w ≡ (operation_codes op).0 → rd_field w ≡ rd
    → rs1_field w ≡ rs1 → HoldsConstant w (constant_form op) (operation_codes op).1 imm
    → constant_row w ≡ Some (AluImm op rd rs1 imm)
unfolding constant_row
constant_only w Add rd rs1 imm code d a held = rw code (immediate_only w Add rd rs1 imm refl code d a held)
constant_only w Sub rd rs1 imm code d a held = absurd held
constant_only w Sll rd rs1 imm code d a held = rw code (shift_only w Sll rd rs1 imm refl code d a held)
constant_only w Slt rd rs1 imm code d a held = rw code (immediate_only w Slt rd rs1 imm refl code d a held)
constant_only w Sltu rd rs1 imm code d a held = rw code (immediate_only w Sltu rd rs1 imm refl code d a held)
constant_only w Xor rd rs1 imm code d a held = rw code (immediate_only w Xor rd rs1 imm refl code d a held)
constant_only w Srl rd rs1 imm code d a held = rw code (shift_only w Srl rd rs1 imm refl code d a held)
constant_only w Sra rd rs1 imm code d a held = rw code (shift_only w Sra rd rs1 imm refl code d a held)
constant_only w Or rd rs1 imm code d a held = rw code (immediate_only w Or rd rs1 imm refl code d a held)
constant_only w And rd rs1 imm code d a held = rw code (immediate_only w And rd rs1 imm refl code d a held)
constant_only w Mul rd rs1 imm code d a held = absurd held
constant_only w Mulh rd rs1 imm code d a held = absurd held
constant_only w Mulhsu rd rs1 imm code d a held = absurd held
constant_only w Mulhu rd rs1 imm code d a held = absurd held
constant_only w Div rd rs1 imm code d a held = absurd held
constant_only w Divu rd rs1 imm code d a held = absurd held
constant_only w Rem rd rs1 imm code d a held = absurd held
constant_only w Remu rd rs1 imm code d a held = absurd held

fence_only : (w bits rs1 rd : ℕ) → funct3 w ≡ 0 → field w 31 20 ≡ bits → rs1_field w ≡ rs1 → rd_field w ≡ rd → fence_row w ≡ Some (Fence bits rs1 rd)
unfolding fence_row
fence_only w bits rs1 rd code b a d = rw code (λ i. Some (Fence (b i) (a i) (d i)))

plain_only : (w : ℕ) (insn : Insn) → HasFieldsOf w insn → plain_row w ≡ Some insn
unfolding plain_row environment_row
plain_only w (Alu op rd rs1 rs2) r = rw r.0 (operation_only w op rd rs1 rs2 r.1 r.2 r.3 r.4 r.5)
plain_only w (AluImm op rd rs1 imm) r = rw r.0 (constant_only w op rd rs1 imm r.1 r.2 r.3 r.4)
plain_only w (Lui rd upper) r = rw r.0 (λ i. Some (Lui (r.1 i) (r.2 i)))
plain_only w (Auipc rd upper) r = rw r.0 (λ i. Some (Auipc (r.1 i) (r.2 i)))
plain_only w (Jal rd offset) r = rw r.0 (λ i. Some (Jal (r.1 i) (r.2 i)))
plain_only w (Jalr rd rs1 offset) r = rw r.0 (jump_only w rd rs1 offset r.1 r.2 r.3 r.4)
plain_only w (Branch cond rs1 rs2 offset) r = rw r.0 (branch_only w cond rs1 rs2 offset r.1 r.2 r.3 r.4)
plain_only w (Load kind rd rs1 offset) r = rw r.0 (load_only w kind rd rs1 offset r.1 r.2 r.3 r.4)
plain_only w (Store width rs1 rs2 offset) r = rw r.0 (store_only w width rs1 rs2 offset r.1 r.2 r.3 r.4)
plain_only w (Fence bits rs1 rd) r = rw r.0 (fence_only w bits rs1 rd r.1 r.2 r.3 r.4)
plain_only w Ecall r = ap plain_row r
plain_only w Ebreak r = ap plain_row r
plain_only w (Unit number rd rs1 rs2 rs3) r = absurd r
plain_only w (Cread rd index) r = absurd r
plain_only w (Cput rs1 rs2) r = absurd r
plain_only w (Illegal word) r = absurd r

-- ---- the extended table

unit_only : (w number rd rs1 rs2 rs3 : ℕ) → field w 26 25 ≡ number / 8 → funct3 w ≡ number % 8 → rd_field w ≡ rd
    → rs1_field w ≡ rs1 → rs2_field w ≡ rs2 → field w 31 27 ≡ rs3 → unit_row w ≡ Some (Unit number rd rs1 rs2 rs3)
unfolding unit_row
unit_only w number rd rs1 rs2 rs3 high low d a b c =
    let whole : field w 26 25 * 8 + funct3 w ≡ number = omega arith in
    λ i. Some (Unit (whole i) (d i) (a i) (b i) (c i))

cread_only : (w rd index : ℕ) → funct3 w ≡ 0 → funct7 w ≡ 0 → rd_field w ≡ rd → rs1_field w ≡ 0 → rs2_field w ≡ index → index < 2
    → hidden_row w ≡ Some (Cread rd index)
unfolding hidden_row cread_row
cread_only w rd index low high d zero b below =
    rw high (rw low (rw zero (ap (λ t. if t then Some (Cread (rd_field w) (rs2_field w)) else None) (ap (λ n. nat_lt n 2) b ∙ lt-ltb index 2 below)
    ∙ (λ i. Some (Cread (d i) (b i))))))

cput_only : (w rs1 rs2 : ℕ) → funct3 w ≡ 1 → funct7 w ≡ 0 → rd_field w ≡ 0 → rs1_field w ≡ rs1 → rs2_field w ≡ rs2 → hidden_row w ≡ Some (Cput rs1 rs2)
unfolding hidden_row cput_row
cput_only w rs1 rs2 low high zero a b = rw high (rw low (rw zero (λ i. Some (Cput (a i) (b i)))))

extended_only : (w : ℕ) (insn : Insn) → HasFieldsOfX w insn → extended_row w ≡ Some insn
unfolding extended_row
extended_only w (Alu op rd rs1 rs2) r = rw r.0 (plain_only w (Alu op rd rs1 rs2) r)
extended_only w (AluImm op rd rs1 imm) r = rw r.0 (plain_only w (AluImm op rd rs1 imm) r)
extended_only w (Lui rd upper) r = rw r.0 (plain_only w (Lui rd upper) r)
extended_only w (Auipc rd upper) r = rw r.0 (plain_only w (Auipc rd upper) r)
extended_only w (Jal rd offset) r = rw r.0 (plain_only w (Jal rd offset) r)
extended_only w (Jalr rd rs1 offset) r = rw r.0 (plain_only w (Jalr rd rs1 offset) r)
extended_only w (Branch cond rs1 rs2 offset) r = rw r.0 (plain_only w (Branch cond rs1 rs2 offset) r)
extended_only w (Load kind rd rs1 offset) r = rw r.0 (plain_only w (Load kind rd rs1 offset) r)
extended_only w (Store width rs1 rs2 offset) r = rw r.0 (plain_only w (Store width rs1 rs2 offset) r)
extended_only w (Fence bits rs1 rd) r = rw r.0 (plain_only w (Fence bits rs1 rd) r)
extended_only w Ecall r = ap extended_row r ∙ plain_only 0x0000_0073 Ecall refl
extended_only w Ebreak r = ap extended_row r ∙ plain_only 0x0010_0073 Ebreak refl
extended_only w (Unit number rd rs1 rs2 rs3) r = rw r.0 (unit_only w number rd rs1 rs2 rs3 r.1 r.2 r.3 r.4 r.5 r.6)
extended_only w (Cread rd index) r = rw r.0 (cread_only w rd index r.1 r.2 r.3 r.4 r.5 r.6)
extended_only w (Cput rs1 rs2) r = rw r.0 (cput_only w rs1 rs2 r.1 r.2 r.3 r.4 r.5)
extended_only w (Illegal word) r = absurd r

-- ---- what follows for the calls

-- where nothing else is read, nothing at all is
pub none_read : (answer : Option Insn) (R : Insn → Type 0) → ((insn : Insn) → R insn → answer ≡ Some insn) → IfNone answer ((insn : Insn) → ¬ (R insn))
none_read None R only = λ insn reads. let e = only insn reads in cc
none_read (Some found) R only = tt

pub only_plain : (w : ℕ) (insn : Insn) → Reads w insn → plain_row w ≡ Some insn
only_plain w insn reads = plain_only w insn reads.1

pub only_extended : (w : ℕ) (insn : Insn) → ReadsX w insn → extended_row w ≡ Some insn
only_extended w insn reads = extended_only w insn reads.1

-- one instruction stands at a word
pub one_insn : (word : ℕ) (left right : Insn) → IsInsnAt word left → IsInsnAt word right → left ≡ right
one_insn word (Illegal a) (Illegal b) one other = λ i. Illegal ((one.0 ∙ sym other.0) i)
one_insn word (Illegal a) right one other = absurd (one.1 right other)
one_insn word left (Illegal b) one other = absurd (other.1 left one)
one_insn word left right one other = let a = only_plain word left one in let b = only_plain word right other in cc

-- what a word reads as is well formed
pub read_well_formed : (w : ℕ) (insn : Insn) → ReadsX w insn → IsWellFormed insn
read_well_formed w insn reads = (w, stands_for insn reads)
  where
    stands_for : (insn : Insn) → ReadsX w insn → IsWordOf w insn
    stands_for (Alu op rd rs1 rs2) reads = reads
    stands_for (AluImm op rd rs1 imm) reads = reads
    stands_for (Lui rd upper) reads = reads
    stands_for (Auipc rd upper) reads = reads
    stands_for (Jal rd offset) reads = reads
    stands_for (Jalr rd rs1 offset) reads = reads
    stands_for (Branch cond rs1 rs2 offset) reads = reads
    stands_for (Load kind rd rs1 offset) reads = reads
    stands_for (Store width rs1 rs2 offset) reads = reads
    stands_for (Fence bits rs1 rd) reads = reads
    stands_for Ecall reads = reads
    stands_for Ebreak reads = reads
    stands_for (Unit number rd rs1 rs2 rs3) reads = reads
    stands_for (Cread rd index) reads = reads
    stands_for (Cput rs1 rs2) reads = reads
    stands_for (Illegal word) reads = absurd reads.1

pub plain_well_formed : (w : ℕ) (insn : Insn) → Reads w insn → IsWellFormed insn
plain_well_formed w insn reads = read_well_formed w insn (reads.0, in_extended w insn reads.1)

-- the bare word in place of no instruction is well formed
pub word_well_formed : (answer : Option Insn) (word : ℕ) → word < 2 ^ 32 → IfSome answer IsWellFormed → IsWellFormed (unwrap_or answer (Illegal word))
word_well_formed None word below given = (word, (below, refl))
word_well_formed (Some insn) word below given = given
