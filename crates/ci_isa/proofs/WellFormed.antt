-- Some word stands for an instruction exactly where its fields are within their bounds.
use Rattle.std.proofs.Common.{◌≡◌, ℕ, suc, ◌+◌, ◌-◌, ◌*◌, ◌/◌, ◌%◌, ◌^◌, ◌<◌, ◌≤◌, ℤ, pos, negsuc, ◌-ℤ◌, ◌≤ℤ◌, ◌<ℤ◌, refl, sym, ap, subst, ◌∙◌, arith, lit<}
use Rattle.std.specs.Prelude.{nat_lt}
use Rattle.std.proofs.lemmas.Bool.{lt-ltb, le-ltb, ltb-true, ltb-false, cond_both}
use Rattle.std.proofs.lemmas.Int.{ints}
use Rattle.std.proofs.lemmas.Nat.{pow-add}
use Rattle.ci_word.specs.Arithmetic.{signed_of_width}
use Rattle.ci_word.specs.declared.arithmetic.Op.{Op}
use Rattle.ci_word.specs.declared.arithmetic.Op.TheVariants.{Add, Sub, Sll, Slt, Sltu, Xor, Srl, Sra, Or, And, Mul, Mulh, Mulhsu, Mulhu, Div, Divu, Rem, Remu}
use Rattle.ci_isa.specs.declared.instruction.Cond.{Cond}
use Rattle.ci_isa.specs.declared.instruction.Cond.TheVariants.{Eq, Ne, Lt, Ge, Ltu, Geu}
use Rattle.ci_isa.specs.declared.instruction.LoadKind.{LoadKind}
use Rattle.ci_isa.specs.declared.instruction.LoadKind.TheVariants.{B, H, W, Bu, Hu}
use Rattle.ci_isa.specs.declared.instruction.Width.{Width}
use Rattle.ci_isa.specs.declared.instruction.Width.TheVariants.{Byte, Half, Word}
use Rattle.ci_isa.specs.declared.instruction.Insn.{Insn}
use Rattle.ci_isa.specs.declared.instruction.Insn.TheVariants.{Alu, AluImm, Lui, Auipc, Jal, Jalr, Branch, Load, Store}
use Rattle.ci_isa.specs.declared.instruction.Insn.TheVariants.{Fence, Ecall, Ebreak, Unit, Cread, Cput, Illegal}
use Rattle.ci_isa.specs.Fields.{field, opcode, rd_field, funct3, rs1_field, rs2_field, funct7, immediate_format}
use Rattle.ci_isa.specs.Fields.{store_format, branch_format, upper_format, jump_format, immediate, signed_immediate}
use Rattle.ci_isa.specs.Table.{operation_codes, condition_code, load_code, store_code, ConstantForm, SignedImmediate}
use Rattle.ci_isa.specs.Table.{ShiftAmount, NoForm, constant_form, HoldsConstant, IsWellFormed}
use Rattle.ci_isa.specs.FieldBounds.{IsOfWidth, IsEven, ConstantFits, FieldsFit}

-- ---- numbers in two's complement

-- the bits of a signed number
record HasBits (width : ℕ) (z : ℤ) (n : ℕ) : Type 0 where
  below : n < 2 ^ width
  meaning : signed_of_width width n ≡ z
  even : IsEven z → n % 2 ≡ 0

double : (width : ℕ) → 0 < width → 2 ^ width ≡ 2 * 2 ^ (width - 1)
double width above =
    let split : width ≡ 1 + (width - 1) = omega arith in
    subst (λ (w : ℕ). 2 ^ w ≡ 2 * 2 ^ (width - 1)) (sym split) (pow-add 2 1 (width - 1))

bits_of : (width : ℕ) → 0 < width → (z : ℤ) → IsOfWidth width z → (n : ℕ) × HasBits width z n
bits_of width above (pos n) fits =
    let whole = double width above in
    let small : n < 2 ^ (width - 1) = omega (arith, ints, fits.1) in
    (n, record { below = omega arith; meaning = rw (lt-ltb n (2 ^ (width - 1)) small) refl; even = λ e. e })
bits_of width above (negsuc n) fits =
    let whole = double width above in
    let small : n < 2 ^ (width - 1) = omega (arith, ints, fits.0) in
    let large : 2 ^ (width - 1) ≤ 2 ^ width - suc n = omega arith in (
      2 ^ width - suc n,
      record {
        below = omega arith;
        meaning = rw (le-ltb (2 ^ width - suc n) (2 ^ (width - 1)) large) (omega (arith, ints));
        even = λ e. omega arith;
      },
    )

-- and back: what n stands for is of the width, and even where n is
of_width : (width n : ℕ) → 0 < width → n < 2 ^ width → IsOfWidth width (signed_of_width width n)
of_width width n above below =
    let whole = double width above in
    cond_both (nat_lt n (2 ^ (width - 1))) (pos n) (pos n -ℤ pos (2 ^ width)) (IsOfWidth width)
    (λ e. let small = ltb-true n (2 ^ (width - 1)) e in (omega (arith, ints), omega (arith, ints)))
    (λ e. let large = ltb-false n (2 ^ (width - 1)) e in (omega (arith, ints), omega (arith, ints)))

even_of_width : (width n : ℕ) → 0 < width → n < 2 ^ width → n % 2 ≡ 0 → IsEven (signed_of_width width n)
even_of_width width n above below even =
    let whole = double width above in
    cond_both (nat_lt n (2 ^ (width - 1))) (pos n) (pos n -ℤ pos (2 ^ width)) IsEven
    (λ e. even)
    (λ e. even_difference n (2 ^ width) below even (omega arith))
  where
    even_difference : (m k : ℕ) → m < k → m % 2 ≡ 0 → k % 2 ≡ 0 → IsEven (pos m -ℤ pos k)
    even_difference m k less em ek =
        let negative : pos m -ℤ pos k ≡ negsuc (k - suc m) = omega (arith, ints) in
        subst IsEven (sym negative) (omega arith)

-- ---- a word with given fields

record HasFields (w code d c a b f : ℕ) : Type 0 where
  below : w < 2 ^ 32
  at_opcode : opcode w ≡ code
  at_rd : rd_field w ≡ d
  at_funct3 : funct3 w ≡ c
  at_rs1 : rs1_field w ≡ a
  at_rs2 : rs2_field w ≡ b
  at_funct7 : funct7 w ≡ f

with_fields : (code d c a b f : ℕ) → code < 2 ^ 7 → d < 32 → c < 2 ^ 3 → a < 32 → b < 32 → f < 2 ^ 7 → (w : ℕ) × HasFields w code d c a b f
with_fields code d c a b f h_code h_d h_c h_a h_b h_f = (
  f * 2 ^ 25 + b * 2 ^ 20 + a * 2 ^ 15 + c * 2 ^ 12 + d * 2 ^ 7 + code,
  record {
    below = omega arith;
    at_opcode = omega arith;
    at_rd = omega arith;
    at_funct3 = omega arith;
    at_rs1 = omega arith;
    at_rs2 = omega arith;
    at_funct7 = omega arith;
  },
)

record HasUpperFields (w code d u : ℕ) : Type 0 where
  below : w < 2 ^ 32
  at_opcode : opcode w ≡ code
  at_rd : rd_field w ≡ d
  at_upper : field w 31 12 ≡ u

with_upper_fields : (code d u : ℕ) → code < 2 ^ 7 → d < 32 → u < 2 ^ 20 → (w : ℕ) × HasUpperFields w code d u
with_upper_fields code d u h_code h_d h_u =
    (u * 2 ^ 12 + d * 2 ^ 7 + code, record { below = omega arith; at_opcode = omega arith; at_rd = omega arith; at_upper = omega arith })

-- ---- codes

operation_codes_fit : (op : Op) → ((operation_codes op).0 < 2 ^ 3) × ((operation_codes op).1 < 2 ^ 7)
operation_codes_fit Add = (lit< tt, lit< tt)
operation_codes_fit Sub = (lit< tt, lit< tt)
operation_codes_fit Sll = (lit< tt, lit< tt)
operation_codes_fit Slt = (lit< tt, lit< tt)
operation_codes_fit Sltu = (lit< tt, lit< tt)
operation_codes_fit Xor = (lit< tt, lit< tt)
operation_codes_fit Srl = (lit< tt, lit< tt)
operation_codes_fit Sra = (lit< tt, lit< tt)
operation_codes_fit Or = (lit< tt, lit< tt)
operation_codes_fit And = (lit< tt, lit< tt)
operation_codes_fit Mul = (lit< tt, lit< tt)
operation_codes_fit Mulh = (lit< tt, lit< tt)
operation_codes_fit Mulhsu = (lit< tt, lit< tt)
operation_codes_fit Mulhu = (lit< tt, lit< tt)
operation_codes_fit Div = (lit< tt, lit< tt)
operation_codes_fit Divu = (lit< tt, lit< tt)
operation_codes_fit Rem = (lit< tt, lit< tt)
operation_codes_fit Remu = (lit< tt, lit< tt)

condition_code_fits : (cond : Cond) → condition_code cond < 2 ^ 3
condition_code_fits Eq = lit< tt
condition_code_fits Ne = lit< tt
condition_code_fits Lt = lit< tt
condition_code_fits Ge = lit< tt
condition_code_fits Ltu = lit< tt
condition_code_fits Geu = lit< tt

load_code_fits : (kind : LoadKind) → load_code kind < 2 ^ 3
load_code_fits B = lit< tt
load_code_fits H = lit< tt
load_code_fits W = lit< tt
load_code_fits Bu = lit< tt
load_code_fits Hu = lit< tt

store_code_fits : (width : Width) → store_code width < 2 ^ 3
store_code_fits Byte = lit< tt
store_code_fits Half = lit< tt
store_code_fits Word = lit< tt

-- ---- immediates in two fields of a word

-- Two fields below 32 and 2 ^ 7, such that words with them have a fact.
abbrev InFields : (ℕ → ℕ) → (ℕ → Type 0) → Type 0
InFields low P = (b : ℕ) × (f : ℕ) × (b < 32) × (f < 2 ^ 7) × ((w : ℕ) → low w ≡ b → funct7 w ≡ f → P w)

immediate_held : (n : ℤ) → IsOfWidth 12 n → InFields rs2_field (λ w. signed_immediate immediate_format w ≡ n)
immediate_held n fits =
    let bits = bits_of 12 (lit< tt) n fits in
    let m = bits.0 in (
      m % 32,
      m / 32,
      omega (arith, bits.1.below),
      omega (arith, bits.1.below),
      λ w at_b at_f.
          let same : immediate immediate_format w ≡ m = omega (arith, bits.1.below) in
          ap (signed_of_width 12) same ∙ bits.1.meaning,
    )

store_held : (n : ℤ) → IsOfWidth 12 n → InFields rd_field (λ w. signed_immediate store_format w ≡ n)
store_held n fits =
    let bits = bits_of 12 (lit< tt) n fits in
    let m = bits.0 in (
      m % 32,
      m / 32,
      omega (arith, bits.1.below),
      omega (arith, bits.1.below),
      λ w at_b at_f.
          let same : immediate store_format w ≡ m = omega (arith, bits.1.below) in
          ap (signed_of_width 12) same ∙ bits.1.meaning,
    )

branch_held : (n : ℤ) → IsOfWidth 13 n → IsEven n → InFields rd_field (λ w. signed_immediate branch_format w ≡ n)
branch_held n fits even =
    let bits = bits_of 13 (lit< tt) n fits in
    let m = bits.0 in
    let even : m % 2 ≡ 0 = bits.1.even even in (
      m / 2 % 16 * 2 + m / 2048 % 2,
      m / 4096 * 64 + m / 32 % 64,
      omega (arith, bits.1.below),
      omega (arith, bits.1.below),
      λ w at_b at_f.
          let same : immediate branch_format w ≡ m = pieces w m bits.1.below even at_b at_f in
          ap (signed_of_width 13) same ∙ bits.1.meaning,
    )
  where
    pieces : (w m : ℕ) → m < 2 ^ 13 → m % 2 ≡ 0 → rd_field w ≡ m / 2 % 16 * 2 + m / 2048 % 2
        → funct7 w ≡ m / 4096 * 64 + m / 32 % 64 → immediate branch_format w ≡ m
    pieces w m below even at_b at_f =
        let a : field w 31 31 ≡ m / 4096 = omega arith in
        let b : field w 7 7 ≡ m / 2048 % 2 = omega arith in
        let c : field w 30 25 ≡ m / 32 % 64 = omega arith in
        let d : field w 11 8 ≡ m / 2 % 16 = omega arith in
        rw (a, b, c, d) (omega arith)

jump_held : (n : ℤ) → IsOfWidth 21 n → IsEven n → (u : ℕ) × (u < 2 ^ 20) × ((w : ℕ) → field w 31 12 ≡ u → signed_immediate jump_format w ≡ n)
jump_held n fits even =
    let bits = bits_of 21 (lit< tt) n fits in
    let m = bits.0 in
    let even : m % 2 ≡ 0 = bits.1.even even in (
      m / 2 ^ 20 * 2 ^ 19 + m / 2 % 1024 * 2 ^ 9 + m / 2048 % 2 * 2 ^ 8 + m / 4096 % 256,
      omega (arith, bits.1.below),
      λ w at_u.
          let same : immediate jump_format w ≡ m = pieces w m bits.1.below even at_u in
          ap (signed_of_width 21) same ∙ bits.1.meaning,
    )
  where
    pieces : (w m : ℕ) → m < 2 ^ 21 → m % 2 ≡ 0
        → field w 31 12 ≡ m / 2 ^ 20 * 2 ^ 19 + m / 2 % 1024 * 2 ^ 9 + m / 2048 % 2 * 2 ^ 8 + m / 4096 % 256
        → immediate jump_format w ≡ m
    pieces w m below even at_u =
        let a : field w 31 31 ≡ m / 2 ^ 20 = omega arith in
        let b : field w 19 12 ≡ m / 4096 % 256 = omega arith in
        let c : field w 20 20 ≡ m / 2048 % 2 = omega arith in
        let d : field w 30 21 ≡ m / 2 % 1024 = omega arith in
        rw (a, b, c, d) (omega arith)

amount_held : (n : ℤ) (code : ℕ) → code < 2 ^ 7 → (pos 0 ≤ℤ n) × (n <ℤ pos 32) → InFields rs2_field (λ w. (funct7 w ≡ code) × (pos (rs2_field w) ≡ n))
amount_held (pos n) code h_code fits = (n, code, omega (arith, ints, fits.1), h_code, λ w at_b at_f. (at_f, ap pos at_b))
amount_held (negsuc n) code h_code fits = absurd (omega (arith, ints, fits.0))

constant_held : (form : ConstantForm) (code : ℕ) (n : ℤ) → code < 2 ^ 7 → ConstantFits form n → InFields rs2_field (λ w. HoldsConstant w form code n)
constant_held SignedImmediate code n h_code fits = immediate_held n fits
constant_held ShiftAmount code n h_code fits = amount_held n code h_code fits
constant_held NoForm code n h_code fits = absurd fits

-- ---- what fits is well formed

upper_word : (code rd upper : ℕ) → code < 2 ^ 7 → rd < 32 → upper < 2 ^ 32 → upper % 2 ^ 12 ≡ 0
    → (w : ℕ) × ((w < 2 ^ 32) × ((opcode w ≡ code) × (rd_field w ≡ rd) × (immediate upper_format w ≡ upper)))
upper_word code rd upper h_code h_rd h_upper zeros =
    let made = with_upper_fields code rd (upper / 2 ^ 12) h_code h_rd (omega arith) in
    (made.0, (made.1.below, (made.1.at_opcode, made.1.at_rd, omega (arith, made.1.at_upper))))

immediate_word : (code rd c rs1 : ℕ) (n : ℤ) → code < 2 ^ 7 → rd < 32 → c < 2 ^ 3 → rs1 < 32 → IsOfWidth 12 n
    → (w : ℕ) × ((w < 2 ^ 32) × ((opcode w ≡ code) × (funct3 w ≡ c) × (rd_field w ≡ rd) × (rs1_field w ≡ rs1)
    × (signed_immediate immediate_format w ≡ n)))
immediate_word code rd c rs1 n h_code h_rd h_c h_rs1 fits =
    let held = immediate_held n fits in
    let made = with_fields code rd c rs1 held.0 held.1 h_code h_rd h_c h_rs1 held.2 held.3 in
    (made.0, (made.1.below, (made.1.at_opcode, made.1.at_funct3, made.1.at_rd, made.1.at_rs1, held.4 made.0 made.1.at_rs2 made.1.at_funct7)))

pub well_formed : (insn : Insn) → FieldsFit insn → IsWellFormed insn
well_formed (Alu op rd rs1 rs2) fits =
    let codes = operation_codes_fit op in
    let made = with_fields 0x33 rd (operation_codes op).0 rs1 rs2 (operation_codes op).1 (lit< tt) fits.0 codes.0 fits.1 fits.2 codes.1 in
    (made.0, (made.1.below, (made.1.at_opcode, made.1.at_funct3, made.1.at_funct7, made.1.at_rd, made.1.at_rs1, made.1.at_rs2)))
well_formed (AluImm op rd rs1 imm) fits =
    let held = constant_held (constant_form op) (operation_codes op).1 imm (operation_codes_fit op).1 fits.2 in
    let made = with_fields 0x13 rd (operation_codes op).0 rs1 held.0 held.1 (lit< tt) fits.0 (operation_codes_fit op).0 fits.1 held.2 held.3 in
    (made.0, (made.1.below, (made.1.at_opcode, made.1.at_funct3, made.1.at_rd, made.1.at_rs1, held.4 made.0 made.1.at_rs2 made.1.at_funct7)))
well_formed (Lui rd upper) fits = upper_word 0x37 rd upper (lit< tt) fits.0 fits.1 fits.2
well_formed (Auipc rd upper) fits = upper_word 0x17 rd upper (lit< tt) fits.0 fits.1 fits.2
well_formed (Jal rd offset) fits =
    let held = jump_held offset fits.1 fits.2 in
    let made = with_upper_fields 0x6f rd held.0 (lit< tt) fits.0 held.1 in
    (made.0, (made.1.below, (made.1.at_opcode, made.1.at_rd, held.2 made.0 made.1.at_upper)))
well_formed (Jalr rd rs1 offset) fits = immediate_word 0x67 rd 0 rs1 offset (lit< tt) fits.0 (lit< tt) fits.1 fits.2
well_formed (Branch cond rs1 rs2 offset) fits =
    let held = branch_held offset fits.2 fits.3 in
    let made = with_fields 0x63 held.0 (condition_code cond) rs1 rs2 held.1 (lit< tt) held.2 (condition_code_fits cond) fits.0 fits.1 held.3 in
    (made.0, (made.1.below, (made.1.at_opcode, made.1.at_funct3, made.1.at_rs1, made.1.at_rs2, held.4 made.0 made.1.at_rd made.1.at_funct7)))
well_formed (Load kind rd rs1 offset) fits = immediate_word 0x03 rd (load_code kind) rs1 offset (lit< tt) fits.0 (load_code_fits kind) fits.1 fits.2
well_formed (Store width rs1 rs2 offset) fits =
    let held = store_held offset fits.2 in
    let made = with_fields 0x23 held.0 (store_code width) rs1 rs2 held.1 (lit< tt) held.2 (store_code_fits width) fits.0 fits.1 held.3 in
    (made.0, (made.1.below, (made.1.at_opcode, made.1.at_funct3, made.1.at_rs1, made.1.at_rs2, held.4 made.0 made.1.at_rd made.1.at_funct7)))
well_formed (Fence bits rs1 rd) fits =
    let made = with_fields 0x0f rd 0 rs1 (bits % 32) (bits / 32) (lit< tt) fits.2 (lit< tt) fits.1 (omega arith) (omega (arith, fits.0)) in
    (made.0, (made.1.below, (made.1.at_opcode, made.1.at_funct3, omega (arith, made.1.at_rs2, made.1.at_funct7), made.1.at_rs1, made.1.at_rd)))
well_formed Ecall fits = (0x0000_0073, (lit< tt, refl))
well_formed Ebreak fits = (0x0010_0073, (lit< tt, refl))
well_formed (Unit number rd rs1 rs2 rs3) fits =
    let made = with_fields 0x0b rd (number % 8) rs1 rs2 (rs3 * 4 + number / 8) (lit< tt) fits.1 (omega arith) fits.2 fits.3 (omega (arith, fits.0, fits.4)) in
    let high : field made.0 26 25 ≡ number / 8 = omega (arith, fits.0, made.1.at_funct7) in
    let top : field made.0 31 27 ≡ rs3 = omega (arith, fits.0, made.1.at_funct7) in
    (made.0, (made.1.below, (made.1.at_opcode, high, made.1.at_funct3, made.1.at_rd, made.1.at_rs1, made.1.at_rs2, top)))
well_formed (Cread rd index) fits =
    let made = with_fields 0x2b rd 0 0 index 0 (lit< tt) fits.0 (lit< tt) (lit< tt) (omega (arith, fits.1)) (lit< tt) in
    (made.0, (made.1.below, (made.1.at_opcode, made.1.at_funct3, made.1.at_funct7, made.1.at_rd, made.1.at_rs1, made.1.at_rs2, fits.1)))
well_formed (Cput rs1 rs2) fits =
    let made = with_fields 0x2b 0 1 rs1 rs2 0 (lit< tt) (lit< tt) (lit< tt) fits.0 fits.1 (lit< tt) in
    (made.0, (made.1.below, (made.1.at_opcode, made.1.at_funct3, made.1.at_funct7, made.1.at_rd, made.1.at_rs1, made.1.at_rs2)))
well_formed (Illegal word) fits = (word, (fits, refl))

-- ---- what is well formed fits

immediate_fits : (w : ℕ) (n : ℤ) → signed_immediate immediate_format w ≡ n → IsOfWidth 12 n
immediate_fits w n is = subst (IsOfWidth 12) is (of_width 12 (immediate immediate_format w) (lit< tt) (omega arith))

amount_fits : (b : ℕ) (n : ℤ) → b < 32 → pos b ≡ n → (pos 0 ≤ℤ n) × (n <ℤ pos 32)
amount_fits b n below is = subst (λ n. (pos 0 ≤ℤ n) × (n <ℤ pos 32)) is (omega (arith, ints), omega (arith, ints))

constant_fits : (w : ℕ) (form : ConstantForm) (code : ℕ) (n : ℤ) → HoldsConstant w form code n → ConstantFits form n
constant_fits w SignedImmediate code n held = immediate_fits w n held
constant_fits w ShiftAmount code n held = amount_fits (rs2_field w) n (omega arith) held.1
constant_fits w NoForm code n held = absurd held

pub fields_fit : (insn : Insn) → IsWellFormed insn → FieldsFit insn
fields_fit (Alu op rd rs1 rs2) (w, (below, r)) = (omega (arith, r.3), omega (arith, r.4), omega (arith, r.5))
fields_fit (AluImm op rd rs1 imm) (w, (below, r)) = (omega (arith, r.2), omega (arith, r.3), constant_fits w (constant_form op) (operation_codes op).1 imm r.4)
fields_fit (Lui rd upper) (w, (below, r)) = (omega (arith, r.1), omega (arith, r.2), omega (arith, r.2))
fields_fit (Auipc rd upper) (w, (below, r)) = (omega (arith, r.1), omega (arith, r.2), omega (arith, r.2))
fields_fit (Jal rd offset) (w, (below, r)) = (
  omega (arith, r.1),
  subst (IsOfWidth 21) r.2 (of_width 21 (immediate jump_format w) (lit< tt) (omega arith)),
  subst IsEven r.2 (even_of_width 21 (immediate jump_format w) (lit< tt) (omega arith) (omega arith)),
)
fields_fit (Jalr rd rs1 offset) (w, (below, r)) = (omega (arith, r.2), omega (arith, r.3), immediate_fits w offset r.4)
fields_fit (Branch cond rs1 rs2 offset) (w, (below, r)) = (
  omega (arith, r.2),
  omega (arith, r.3),
  subst (IsOfWidth 13) r.4 (of_width 13 (immediate branch_format w) (lit< tt) (omega arith)),
  subst IsEven r.4 (even_of_width 13 (immediate branch_format w) (lit< tt) (omega arith) (omega arith)),
)
fields_fit (Load kind rd rs1 offset) (w, (below, r)) = (omega (arith, r.2), omega (arith, r.3), immediate_fits w offset r.4)
fields_fit (Store width rs1 rs2 offset) (w, (below, r)) =
    (omega (arith, r.2), omega (arith, r.3), subst (IsOfWidth 12) r.4 (of_width 12 (immediate store_format w) (lit< tt) (omega arith)))
fields_fit (Fence bits rs1 rd) (w, (below, r)) = (omega (arith, r.2), omega (arith, r.3), omega (arith, r.4))
fields_fit Ecall (w, (below, r)) = tt
fields_fit Ebreak (w, (below, r)) = tt
fields_fit (Unit number rd rs1 rs2 rs3) (w, (below, r)) = (omega (arith, r.1), omega (arith, r.3), omega (arith, r.4), omega (arith, r.5), omega (arith, r.6))
fields_fit (Cread rd index) (w, (below, r)) = (omega (arith, r.3), r.6)
fields_fit (Cput rs1 rs2) (w, (below, r)) = (omega (arith, r.4), omega (arith, r.5))
fields_fit (Illegal word) (w, (below, r)) = omega (arith, r)
