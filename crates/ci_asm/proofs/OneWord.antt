-- An instruction has one word.
use Rattle.std.proofs.Common.{◌≡◌, ℕ, ◌+◌, ◌*◌, ◌/◌, ◌%◌, ◌^◌, ◌<◌, Bool, true, false, cond, nat_lt, bit_or, ℤ, pos, ◌-ℤ◌, refl, sym, ap, ◌∙◌, arith}
use Rattle.std.proofs.lemmas.Int.{ints}
use Rattle.ci_isa.specs.declared.instruction.Insn.{Insn}
use Rattle.ci_isa.specs.declared.instruction.Insn.TheVariants.{Alu, AluImm, Lui, Auipc, Jal, Jalr, Branch, Load, Store, Fence, Ecall, Ebreak, Unit, Cread}
use Rattle.ci_isa.specs.declared.instruction.Insn.TheVariants.{Cput, Illegal}
use Rattle.ci_isa.specs.Fields.{field, opcode, rd_field, funct3, rs1_field, rs2_field, funct7, immediate_format, store_format, branch_format, upper_format}
use Rattle.ci_isa.specs.Fields.{jump_format, immediate, signed_immediate}
use Rattle.ci_isa.specs.Table.{ConstantForm, SignedImmediate, ShiftAmount, NoForm, constant_form, operation_codes, HoldsConstant, IsWordOf}
use Rattle.ci_isa.proofs.FieldLaws.{from_fields, from_upper_fields}

-- ---- words by their fields

record HasFields (w v : ℕ) : Type 0 where
  seven : funct7 w ≡ funct7 v
  two : rs2_field w ≡ rs2_field v
  one : rs1_field w ≡ rs1_field v
  three : funct3 w ≡ funct3 v
  to : rd_field w ≡ rd_field v
  code : opcode w ≡ opcode v

same_fields : (w v : ℕ) → w < 2 ^ 32 → v < 2 ^ 32 → HasFields w v → w ≡ v
same_fields w v below_w below_v f =
    sym (from_fields w below_w)
    ∙ ((λ i. bit_or (bit_or
    (bit_or (bit_or (bit_or (f.seven i * 2 ^ 25 % 2 ^ 32) (f.two i * 2 ^ 20 % 2 ^ 32)) (f.one i * 2 ^ 15 % 2 ^ 32)) (f.three i * 2 ^ 12 % 2 ^ 32))
    (f.to i * 2 ^ 7 % 2 ^ 32)) (f.code i))
    ∙ from_fields v below_v)

same_upper : (w v : ℕ) → w < 2 ^ 32 → v < 2 ^ 32 → field w 31 12 ≡ field v 31 12 → rd_field w ≡ rd_field v → opcode w ≡ opcode v → w ≡ v
same_upper w v below_w below_v upper to code =
    sym (from_upper_fields w below_w)
    ∙ ((λ i. bit_or (bit_or (upper i * 2 ^ 12 % 2 ^ 32) (to i * 2 ^ 7 % 2 ^ 32)) (code i)) ∙ from_upper_fields v below_v)

-- ---- immediates

-- a signed number has one form in two's complement
same_signed : (half whole a b : ℕ) → whole ≡ 2 * half → a < whole → b < whole
    → cond (nat_lt a half) (pos a) (pos a -ℤ pos whole) ≡ cond (nat_lt b half) (pos b) (pos b -ℤ pos whole) → a ≡ b
same_signed half whole a b twice below_a below_b e = by (nat_lt a half) (nat_lt b half) refl refl e
  where
    by : (x y : Bool) → nat_lt a half ≡ x → nat_lt b half ≡ y → cond x (pos a) (pos a -ℤ pos whole) ≡ cond y (pos b) (pos b -ℤ pos whole) → a ≡ b
    by true true p q e = omega (arith, ints)
    by true false p q e = omega (arith, ints)
    by false true p q e = omega (arith, ints)
    by false false p q e = omega (arith, ints)

same_immediate : (w v : ℕ) → signed_immediate immediate_format w ≡ signed_immediate immediate_format v → field w 31 20 ≡ field v 31 20
same_immediate w v e =
    let same = same_signed (2 ^ 11) (2 ^ 12) (immediate immediate_format w) (immediate immediate_format v) refl (omega arith) (omega arith) e in
    omega arith

-- the fields that hold an immediate of the format I
from_twelve : (w v : ℕ) → field w 31 20 ≡ field v 31 20 → (funct7 w ≡ funct7 v) × (rs2_field w ≡ rs2_field v)
from_twelve w v e =
    let w7 : funct7 w ≡ field w 31 20 / 32 = omega arith in
    let v7 : funct7 v ≡ field v 31 20 / 32 = omega arith in
    let w2 : rs2_field w ≡ field w 31 20 % 32 = omega arith in
    let v2 : rs2_field v ≡ field v 31 20 % 32 = omega arith in
    (w7 ∙ (ap (λ n. n / 32) e ∙ sym v7), w2 ∙ (ap (λ n. n % 32) e ∙ sym v2))

store_parts : (a b c d : ℕ) → b < 32 → d < 32 → (a * 2 ^ 5 + (b * 2 ^ 0 + 0)) * 2 ^ 0 ≡ (c * 2 ^ 5 + (d * 2 ^ 0 + 0)) * 2 ^ 0 → (a ≡ c) × (b ≡ d)
store_parts a b c d hb hd e = (omega arith, omega arith)

same_store : (w v : ℕ) → signed_immediate store_format w ≡ signed_immediate store_format v → (funct7 w ≡ funct7 v) × (rd_field w ≡ rd_field v)
same_store w v e =
    let same = same_signed (2 ^ 11) (2 ^ 12) (immediate store_format w) (immediate store_format v) refl (omega arith) (omega arith) e in
    store_parts (funct7 w) (rd_field w) (funct7 v) (rd_field v) (omega arith) (omega arith) same

branch_parts : (a b c d p q r s : ℕ) → a < 2 → p < 2 → b < 2 → q < 2 → c < 64 → r < 64 → d < 16 → s < 16
    → (a * 2 ^ 11 + (b * 2 ^ 10 + (c * 2 ^ 4 + (d * 2 ^ 0 + 0)))) * 2 ^ 1 ≡ (p * 2 ^ 11 + (q * 2 ^ 10 + (r * 2 ^ 4 + (s * 2 ^ 0 + 0)))) * 2 ^ 1
    → (a * 64 + c ≡ p * 64 + r) × (d * 2 + b ≡ s * 2 + q)
branch_parts a b c d p q r s ha hp hb hq hc hr hd hs e =
    let one : a ≡ p = omega arith in
    let two : b ≡ q = omega arith in
    let three : c ≡ r = omega arith in
    let four : d ≡ s = omega arith in
    (omega arith, omega arith)

same_branch : (w v : ℕ) → signed_immediate branch_format w ≡ signed_immediate branch_format v → (funct7 w ≡ funct7 v) × (rd_field w ≡ rd_field v)
same_branch w v e =
    let same = same_signed (2 ^ 12) (2 ^ 13) (immediate branch_format w) (immediate branch_format v) refl (omega arith) (omega arith) e in
    let parts = branch_parts (field w 31 31) (field w 7 7) (field w 30 25) (field w 11 8) (field v 31 31) (field v 7 7) (field v 30 25) (field v 11 8)
    (omega arith) (omega arith) (omega arith) (omega arith) (omega arith) (omega arith) (omega arith) (omega arith) same in
    let w7 : funct7 w ≡ field w 31 31 * 64 + field w 30 25 = omega arith in
    let v7 : funct7 v ≡ field v 31 31 * 64 + field v 30 25 = omega arith in
    let wd : rd_field w ≡ field w 11 8 * 2 + field w 7 7 = omega arith in
    let vd : rd_field v ≡ field v 11 8 * 2 + field v 7 7 = omega arith in
    (w7 ∙ (parts.0 ∙ sym v7), wd ∙ (parts.1 ∙ sym vd))

jump_parts : (a b c d p q r s : ℕ) → a < 2 → p < 2 → b < 256 → q < 256 → c < 2 → r < 2 → d < 1024 → s < 1024
    → (a * 2 ^ 19 + (b * 2 ^ 11 + (c * 2 ^ 10 + (d * 2 ^ 0 + 0)))) * 2 ^ 1 ≡ (p * 2 ^ 19 + (q * 2 ^ 11 + (r * 2 ^ 10 + (s * 2 ^ 0 + 0)))) * 2 ^ 1
    → a * 2 ^ 19 + d * 2 ^ 9 + c * 2 ^ 8 + b ≡ p * 2 ^ 19 + s * 2 ^ 9 + r * 2 ^ 8 + q
jump_parts a b c d p q r s ha hp hb hq hc hr hd hs e =
    let one : a ≡ p = omega arith in
    let two : b ≡ q = omega arith in
    let three : c ≡ r = omega arith in
    let four : d ≡ s = omega arith in
    omega arith

same_jump : (w v : ℕ) → signed_immediate jump_format w ≡ signed_immediate jump_format v → field w 31 12 ≡ field v 31 12
same_jump w v e =
    let same = same_signed (2 ^ 20) (2 ^ 21) (immediate jump_format w) (immediate jump_format v) refl (omega arith) (omega arith) e in
    let parts = jump_parts (field w 31 31) (field w 19 12) (field w 20 20) (field w 30 21) (field v 31 31) (field v 19 12) (field v 20 20) (field v 30 21)
    (omega arith) (omega arith) (omega arith) (omega arith) (omega arith) (omega arith) (omega arith) (omega arith) same in
    let of_w : field w 31 12 ≡ field w 31 31 * 2 ^ 19 + field w 30 21 * 2 ^ 9 + field w 20 20 * 2 ^ 8 + field w 19 12 = omega arith in
    let of_v : field v 31 12 ≡ field v 31 31 * 2 ^ 19 + field v 30 21 * 2 ^ 9 + field v 20 20 * 2 ^ 8 + field v 19 12 = omega arith in
    of_w ∙ (parts ∙ sym of_v)

same_upper_immediate : (w v : ℕ) → immediate upper_format w ≡ immediate upper_format v → field w 31 12 ≡ field v 31 12
same_upper_immediate w v e = omega arith

-- ---- words of an instruction

both : {A : Type 0} {a b c : A} → a ≡ c → b ≡ c → a ≡ b
both p q = p ∙ sym q

same_constant : (w v : ℕ) (form : ConstantForm) (code : ℕ) (n : ℤ) → HoldsConstant w form code n → HoldsConstant v form code n
    → (funct7 w ≡ funct7 v) × (rs2_field w ≡ rs2_field v)
same_constant w v SignedImmediate code n p q = from_twelve w v (same_immediate w v (both p q))
same_constant w v ShiftAmount code n p q =
    let amounts : pos (rs2_field w) ≡ pos (rs2_field v) = both p.1 q.1 in
    (both p.0 q.0, cc)
same_constant w v NoForm code n p q = absurd p

same_unit : (w v number rs3 : ℕ) → field w 26 25 ≡ number / 8 → field v 26 25 ≡ number / 8 → field w 31 27 ≡ rs3 → field v 31 27 ≡ rs3 → funct7 w ≡ funct7 v
same_unit w v number rs3 pw pv qw qv =
    let of_w : funct7 w ≡ field w 31 27 * 4 + field w 26 25 = omega arith in
    let of_v : funct7 v ≡ field v 31 27 * 4 + field v 26 25 = omega arith in
    of_w ∙ ((λ i. both qw qv i * 4 + both pw pv i) ∙ sym of_v)

pub one_word : (i : Insn) (w v : ℕ) → IsWordOf w i → IsWordOf v i → w ≡ v
one_word (Alu op rd rs1 rs2) w v (p, r) (q, s) =
    same_fields w v p q (record { seven = both r.2 s.2; two = both r.5 s.5; one = both r.4 s.4; three = both r.1 s.1; to = both r.3 s.3; code = both r.0 s.0 })
one_word (AluImm op rd rs1 imm) w v (p, r) (q, s) =
    let held = same_constant w v (constant_form op) (operation_codes op).1 imm r.4 s.4 in
    same_fields w v p q (record { seven = held.0; two = held.1; one = both r.3 s.3; three = both r.1 s.1; to = both r.2 s.2; code = both r.0 s.0 })
one_word (Lui rd upper) w v (p, r) (q, s) = same_upper w v p q (same_upper_immediate w v (both r.2 s.2)) (both r.1 s.1) (both r.0 s.0)
one_word (Auipc rd upper) w v (p, r) (q, s) = same_upper w v p q (same_upper_immediate w v (both r.2 s.2)) (both r.1 s.1) (both r.0 s.0)
one_word (Jal rd offset) w v (p, r) (q, s) = same_upper w v p q (same_jump w v (both r.2 s.2)) (both r.1 s.1) (both r.0 s.0)
one_word (Jalr rd rs1 offset) w v (p, r) (q, s) =
    let held = from_twelve w v (same_immediate w v (both r.4 s.4)) in
    same_fields w v p q (record { seven = held.0; two = held.1; one = both r.3 s.3; three = both r.1 s.1; to = both r.2 s.2; code = both r.0 s.0 })
one_word (Branch cond rs1 rs2 offset) w v (p, r) (q, s) =
    let held = same_branch w v (both r.4 s.4) in
    same_fields w v p q (record { seven = held.0; two = both r.3 s.3; one = both r.2 s.2; three = both r.1 s.1; to = held.1; code = both r.0 s.0 })
one_word (Load kind rd rs1 offset) w v (p, r) (q, s) =
    let held = from_twelve w v (same_immediate w v (both r.4 s.4)) in
    same_fields w v p q (record { seven = held.0; two = held.1; one = both r.3 s.3; three = both r.1 s.1; to = both r.2 s.2; code = both r.0 s.0 })
one_word (Store width rs1 rs2 offset) w v (p, r) (q, s) =
    let held = same_store w v (both r.4 s.4) in
    same_fields w v p q (record { seven = held.0; two = both r.3 s.3; one = both r.2 s.2; three = both r.1 s.1; to = held.1; code = both r.0 s.0 })
one_word (Fence bits rs1 rd) w v (p, r) (q, s) =
    let held = from_twelve w v (both r.2 s.2) in
    same_fields w v p q (record { seven = held.0; two = held.1; one = both r.3 s.3; three = both r.1 s.1; to = both r.4 s.4; code = both r.0 s.0 })
one_word Ecall w v (p, r) (q, s) = both r s
one_word Ebreak w v (p, r) (q, s) = both r s
one_word (Unit number rd rs1 rs2 rs3) w v (p, r) (q, s) =
    same_fields w v p q (record {
      seven = same_unit w v number rs3 r.1 s.1 r.6 s.6;
      two = both r.5 s.5;
      one = both r.4 s.4;
      three = both r.2 s.2;
      to = both r.3 s.3;
      code =
          both r.0 s.0;
    })
one_word (Cread rd index) w v (p, r) (q, s) =
    same_fields w v p q (record { seven = both r.2 s.2; two = both r.5 s.5; one = both r.4 s.4; three = both r.1 s.1; to = both r.3 s.3; code = both r.0 s.0 })
one_word (Cput rs1 rs2) w v (p, r) (q, s) =
    same_fields w v p q (record { seven = both r.2 s.2; two = both r.5 s.5; one = both r.4 s.4; three = both r.1 s.1; to = both r.3 s.3; code = both r.0 s.0 })
one_word (Illegal word) w v (p, r) (q, s) = both r s
