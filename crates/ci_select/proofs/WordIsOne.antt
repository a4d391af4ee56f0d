-- An instruction has one word.
use Rattle.std.proofs.Common.{◌≡◌, ℕ, ◌+◌, ◌-◌, ◌*◌, ◌^◌, ◌<◌, ℤ, pos, ◌-ℤ◌, refl, sym, ◌∙◌, arith}
use Rattle.std.specs.Prelude.{nat_lt}
use Rattle.std.proofs.lemmas.Bool.{cond_both}
use Rattle.std.proofs.lemmas.Int.{ints}
use Rattle.ci_word.specs.Arithmetic.{signed_of_width}
use Rattle.ci_isa.specs.declared.instruction.Insn.{Insn}
use Rattle.ci_isa.specs.declared.instruction.Insn.TheVariants.{Alu, AluImm, Lui, Auipc, Jal, Jalr, Branch, Load, Store}
use Rattle.ci_isa.specs.declared.instruction.Insn.TheVariants.{Fence, Ecall, Ebreak, Unit, Cread, Cput, Illegal}
use Rattle.ci_isa.specs.Fields.{branch_format, field, funct3, funct7, immediate, immediate_format, jump_format, opcode}
use Rattle.ci_isa.specs.Fields.{rd_field, rs1_field, rs2_field, signed_immediate, store_format}
use Rattle.ci_isa.specs.Table.{ConstantForm, HoldsConstant, IsWordOf, NoForm, ShiftAmount, SignedImmediate}
use Rattle.ci_isa.specs.Table.{constant_form, operation_codes}
use Rattle.ci_isa.proofs.FieldLaws.{from_fields, from_upper_fields}

-- numbers of a width that are not negative in two's complement are none of those that are
mixed : (a b c : ℕ) → b < c → pos a ≡ pos b -ℤ pos c → ⊥
mixed a b c less same = omega (arith, ints)

-- what two numbers of a width stand for in two's complement tells them apart
signed_is_one :
    (width m n : ℕ) → 2 ^ width ≡ 2 * 2 ^ (width - 1) → m < 2 ^ width → n < 2 ^ width
    → signed_of_width width m ≡ signed_of_width width n → m ≡ n
signed_is_one width m n double below under =
    let small = nat_lt n (2 ^ (width - 1)) in
    let shifted = pos n -ℤ pos (2 ^ width) in
    cond_both (nat_lt m (2 ^ (width - 1))) (pos m) (pos m -ℤ pos (2 ^ width)) (λ z. z ≡ signed_of_width width n → m ≡ n)
    (λ e. cond_both small (pos n) shifted (λ z. pos m ≡ z → m ≡ n)
    (λ f same. omega (arith, ints)) (λ f same. absurd (mixed m n (2 ^ width) under same)))
    (λ e. cond_both small (pos n) shifted (λ z. pos m -ℤ pos (2 ^ width) ≡ z → m ≡ n)
    (λ f same. absurd (mixed n m (2 ^ width) below (sym same))) (λ f same. omega (arith, ints)))

-- ---- words by their fields

module _ (v w : ℕ) (below : v < 2 ^ 32) (under : w < 2 ^ 32) (code : opcode v ≡ opcode w) where
  same_fields :
      rd_field v ≡ rd_field w → funct3 v ≡ funct3 w → rs1_field v ≡ rs1_field w → rs2_field v ≡ rs2_field w
      → funct7 v ≡ funct7 w → v ≡ w
  same_fields rd low rs1 rs2 high =
      sym (from_fields v below) ∙ rw (code, rd, low, rs1, rs2, high) (from_fields w under)

  same_upper_fields : rd_field v ≡ rd_field w → field v 31 12 ≡ field w 31 12 → v ≡ w
  same_upper_fields rd upper = sym (from_upper_fields v below) ∙ rw (code, rd, upper) (from_upper_fields w under)

  -- the top twelve bits are rs2 and funct7
  same_top_fields :
      rd_field v ≡ rd_field w → funct3 v ≡ funct3 w → rs1_field v ≡ rs1_field w → field v 31 20 ≡ field w 31 20
      → v ≡ w
  same_top_fields rd low rs1 top = same_fields rd low rs1 (omega arith) (omega arith)

  same_immediates :
      rd_field v ≡ rd_field w → funct3 v ≡ funct3 w → rs1_field v ≡ rs1_field w
      → signed_immediate immediate_format v ≡ signed_immediate immediate_format w → v ≡ w
  same_immediates rd low rs1 same =
      let whole : immediate immediate_format v ≡ immediate immediate_format w =
      signed_is_one 12 (immediate immediate_format v) (immediate immediate_format w) refl (omega arith) (omega arith) same in
      same_top_fields rd low rs1 (omega (arith, whole))

  same_stores :
      funct3 v ≡ funct3 w → rs1_field v ≡ rs1_field w → rs2_field v ≡ rs2_field w
      → signed_immediate store_format v ≡ signed_immediate store_format w → v ≡ w
  same_stores low rs1 rs2 same =
      let whole : immediate store_format v ≡ immediate store_format w =
      signed_is_one 12 (immediate store_format v) (immediate store_format w) refl (omega arith) (omega arith) same in
      same_fields (omega (arith, whole)) low rs1 rs2 (omega (arith, whole))

  same_branches :
      funct3 v ≡ funct3 w → rs1_field v ≡ rs1_field w → rs2_field v ≡ rs2_field w
      → signed_immediate branch_format v ≡ signed_immediate branch_format w → v ≡ w
  same_branches low rs1 rs2 same =
      let whole : immediate branch_format v ≡ immediate branch_format w =
      signed_is_one 13 (immediate branch_format v) (immediate branch_format w) refl (omega arith) (omega arith) same in
      let parts = branch_parts (field v 31 31) (field v 7 7) (field v 30 25) (field v 11 8)
      (field w 31 31) (field w 7 7) (field w 30 25) (field w 11 8) (omega arith) (omega arith) (omega arith) (omega arith)
      (omega arith) (omega arith) (omega arith) (omega arith) whole in
      same_fields (omega (arith, parts.1, parts.3)) low rs1 rs2 (omega (arith, parts.0, parts.2))
    where
      branch_parts :
          (a b c d e f g h : ℕ) → a < 2 → b < 2 → c < 64 → d < 16 → e < 2 → f < 2 → g < 64 → h < 16
          → (a * 2 ^ 11 + (b * 2 ^ 10 + (c * 2 ^ 4 + (d * 2 ^ 0 + 0)))) * 2 ^ 1
          ≡ (e * 2 ^ 11 + (f * 2 ^ 10 + (g * 2 ^ 4 + (h * 2 ^ 0 + 0)))) * 2 ^ 1
          → (a ≡ e) × (b ≡ f) × (c ≡ g) × (d ≡ h)
      branch_parts a b c d e f g h ha hb hc hd he hf hg hh same = (omega arith, omega arith, omega arith, omega arith)

  same_jumps :
      rd_field v ≡ rd_field w → signed_immediate jump_format v ≡ signed_immediate jump_format w → v ≡ w
  same_jumps rd same =
      let whole : immediate jump_format v ≡ immediate jump_format w =
      signed_is_one 21 (immediate jump_format v) (immediate jump_format w) refl (omega arith) (omega arith) same in
      let parts = jump_parts (field v 31 31) (field v 19 12) (field v 20 20) (field v 30 21)
      (field w 31 31) (field w 19 12) (field w 20 20) (field w 30 21) (omega arith) (omega arith) (omega arith) (omega arith)
      (omega arith) (omega arith) (omega arith) (omega arith) whole in
      let of_parts : (u : ℕ) → field u 31 12 ≡ field u 31 31 * 2 ^ 19 + field u 30 21 * 2 ^ 9 + field u 20 20 * 2 ^ 8 + field u 19 12 =
      λ u. omega arith in
      same_upper_fields rd (of_parts v ∙ rw (parts.0, parts.1, parts.2, parts.3) (sym (of_parts w)))
    where
      jump_parts :
          (a b c d e f g h : ℕ) → a < 2 → b < 256 → c < 2 → d < 1024 → e < 2 → f < 256 → g < 2 → h < 1024
          → (a * 2 ^ 19 + (b * 2 ^ 11 + (c * 2 ^ 10 + (d * 2 ^ 0 + 0)))) * 2 ^ 1
          ≡ (e * 2 ^ 19 + (f * 2 ^ 11 + (g * 2 ^ 10 + (h * 2 ^ 0 + 0)))) * 2 ^ 1
          → (a ≡ e) × (b ≡ f) × (c ≡ g) × (d ≡ h)
      jump_parts a b c d e f g h ha hb hc hd he hf hg hh same = (omega arith, omega arith, omega arith, omega arith)

  same_constants :
      (form : ConstantForm) (high : ℕ) (n : ℤ) → HoldsConstant v form high n → HoldsConstant w form high n
      → rd_field v ≡ rd_field w → funct3 v ≡ funct3 w → rs1_field v ≡ rs1_field w → v ≡ w
  same_constants SignedImmediate high n one other rd low rs1 = same_immediates rd low rs1 (one ∙ sym other)
  same_constants ShiftAmount high n one other rd low rs1 =
      same_fields rd low rs1 (amounts (rs2_field v) (rs2_field w) (one.1 ∙ sym other.1)) (one.0 ∙ sym other.0)
    where
      amounts : (a b : ℕ) → pos a ≡ pos b → a ≡ b
      amounts a b same = cc
  same_constants NoForm high n one other rd low rs1 = absurd one

-- ---- by the rows of the table

pub word_is_one : (insn : Insn) (v w : ℕ) → IsWordOf v insn → IsWordOf w insn → v ≡ w
word_is_one (Alu op rd rs1 rs2) v w (below, a) (under, b) =
    same_fields v w below under (a.0 ∙ sym b.0) (a.3 ∙ sym b.3) (a.1 ∙ sym b.1) (a.4 ∙ sym b.4) (a.5 ∙ sym b.5) (a.2 ∙ sym b.2)
word_is_one (AluImm op rd rs1 imm) v w (below, a) (under, b) =
    same_constants v w below under (a.0 ∙ sym b.0) (constant_form op) (operation_codes op).1 imm a.4 b.4
    (a.2 ∙ sym b.2) (a.1 ∙ sym b.1) (a.3 ∙ sym b.3)
word_is_one (Lui rd upper) v w (below, a) (under, b) =
    let same = a.2 ∙ sym b.2 in same_upper_fields v w below under (a.0 ∙ sym b.0) (a.1 ∙ sym b.1) (omega (arith, same))
word_is_one (Auipc rd upper) v w (below, a) (under, b) =
    let same = a.2 ∙ sym b.2 in same_upper_fields v w below under (a.0 ∙ sym b.0) (a.1 ∙ sym b.1) (omega (arith, same))
word_is_one (Jal rd offset) v w (below, a) (under, b) =
    same_jumps v w below under (a.0 ∙ sym b.0) (a.1 ∙ sym b.1) (a.2 ∙ sym b.2)
word_is_one (Jalr rd rs1 offset) v w (below, a) (under, b) =
    same_immediates v w below under (a.0 ∙ sym b.0) (a.2 ∙ sym b.2) (a.1 ∙ sym b.1) (a.3 ∙ sym b.3) (a.4 ∙ sym b.4)
word_is_one (Branch cond rs1 rs2 offset) v w (below, a) (under, b) =
    same_branches v w below under (a.0 ∙ sym b.0) (a.1 ∙ sym b.1) (a.2 ∙ sym b.2) (a.3 ∙ sym b.3) (a.4 ∙ sym b.4)
word_is_one (Load kind rd rs1 offset) v w (below, a) (under, b) =
    same_immediates v w below under (a.0 ∙ sym b.0) (a.2 ∙ sym b.2) (a.1 ∙ sym b.1) (a.3 ∙ sym b.3) (a.4 ∙ sym b.4)
word_is_one (Store width rs1 rs2 offset) v w (below, a) (under, b) =
    same_stores v w below under (a.0 ∙ sym b.0) (a.1 ∙ sym b.1) (a.2 ∙ sym b.2) (a.3 ∙ sym b.3) (a.4 ∙ sym b.4)
word_is_one (Fence bits rs1 rd) v w (below, a) (under, b) =
    same_top_fields v w below under (a.0 ∙ sym b.0) (a.4 ∙ sym b.4) (a.1 ∙ sym b.1) (a.3 ∙ sym b.3) (a.2 ∙ sym b.2)
word_is_one Ecall v w a b = a.1 ∙ sym b.1
word_is_one Ebreak v w a b = a.1 ∙ sym b.1
word_is_one (Unit number rd rs1 rs2 rs3) v w (below, a) (under, b) =
    let top : field v 26 25 ≡ field w 26 25 = a.1 ∙ sym b.1 in
    let third : field v 31 27 ≡ field w 31 27 = a.6 ∙ sym b.6 in
    same_fields v w below under (a.0 ∙ sym b.0) (a.3 ∙ sym b.3) (a.2 ∙ sym b.2) (a.4 ∙ sym b.4) (a.5 ∙ sym b.5) (omega arith)
word_is_one (Cread rd index) v w (below, a) (under, b) =
    same_fields v w below under (a.0 ∙ sym b.0) (a.3 ∙ sym b.3) (a.1 ∙ sym b.1) (a.4 ∙ sym b.4) (a.5 ∙ sym b.5) (a.2 ∙ sym b.2)
word_is_one (Cput rs1 rs2) v w (below, a) (under, b) =
    same_fields v w below under (a.0 ∙ sym b.0) (a.3 ∙ sym b.3) (a.1 ∙ sym b.1) (a.4 ∙ sym b.4) (a.5 ∙ sym b.5) (a.2 ∙ sym b.2)
word_is_one (Illegal word) v w a b = a.1 ∙ sym b.1
