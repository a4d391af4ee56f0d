-- Fields of a word that are cut out and put together again.
use Rattle.std.proofs.Common.{◌≡◌, ℕ, ◌+◌, ◌-◌, ◌*◌, ◌/◌, ◌%◌, ◌^◌, ◌<◌, ◌≤◌, bit_and, bit_or, refl, sym, ◌∙◌, arith}
use Rattle.std.proofs.lemmas.Nat.{pow-add, shr-shr, mod-pow-add, and_mask, or_shifted, shl_below, shl_whole, mod_below, pow_pos}
use Rattle.std.specs.Int.{w32, cast_unsigned, cast_signed}
use Rattle.std.proofs.lemmas.Int.{ints}
use Rattle.std.proofs.lemmas.Nat.Bits.{ones_shr}
use Rattle.ci_word.specs.Arithmetic.{signed_of_width}
use Rattle.ci_isa.specs.Fields.{field, opcode, rd_field, funct3, rs1_field, rs2_field, funct7, branch_format, jump_format, immediate, signed_immediate}

-- `MAX >> (31 - k)` keeps the low k + 1 bits
pub and_ones : (x k : ℕ) → k < 32 → bit_and x ((2 ^ 32 - 1) / 2 ^ (31 - k)) ≡ x % 2 ^ (k + 1)
and_ones x k below =
    let width : 32 - (31 - k) ≡ k + 1 = omega arith in
    rw (ones_shr 32 (31 - k) (omega arith), width) (and_mask x (k + 1))

-- two fields that stand side by side are one field
pub side_by_side : (w l a b : ℕ) → l + b + a ≤ 32
    → bit_or (w / 2 ^ (l + b) % 2 ^ a * 2 ^ (l + b)) (w / 2 ^ l % 2 ^ b * 2 ^ l % 2 ^ 32)
    ≡ w / 2 ^ l % 2 ^ (a + b) * 2 ^ l
side_by_side w l a b fits =
    let low : w / 2 ^ l % 2 ^ b < 2 ^ b = mod_below _ _ (pow_pos b) in
    let place : w / 2 ^ l % 2 ^ b * 2 ^ l < 2 ^ (l + b) = omega (arith, shl_below (w / 2 ^ l % 2 ^ b) b l low, pow-add 2 b l, pow-add 2 l b) in
    let both : w / 2 ^ l % 2 ^ (a + b) ≡ w / 2 ^ (l + b) % 2 ^ a * 2 ^ b + w / 2 ^ l % 2 ^ b = rw (← shr-shr w l b) (mod-pow-add (w / 2 ^ l) a b) in
    rw (
      shl_whole (w / 2 ^ l % 2 ^ b) b l 32 low (omega arith),
      or_shifted (w / 2 ^ (l + b) % 2 ^ a) (l + b) (w / 2 ^ l % 2 ^ b * 2 ^ l) place,
      both,
      pow-add 2 l b,
    ) (omega arith)

-- the lowest field stands beside the one above it
pub beside_lowest : (w a b : ℕ) → bit_or (w / 2 ^ b % 2 ^ a * 2 ^ b) (w % 2 ^ b) ≡ w % 2 ^ (a + b)
beside_lowest w a b = or_shifted (w / 2 ^ b % 2 ^ a) b (w % 2 ^ b) (mod_below _ _ (pow_pos b)) ∙ sym (mod-pow-add w a b)

-- a word is put together from its fields
pub from_fields : (w : ℕ) → w < 2 ^ 32 → bit_or
    (bit_or (bit_or (bit_or (bit_or (funct7 w * 2 ^ 25 % 2 ^ 32) (rs2_field w * 2 ^ 20 % 2 ^ 32))
    (rs1_field w * 2 ^ 15 % 2 ^ 32)) (funct3 w * 2 ^ 12 % 2 ^ 32)) (rd_field w * 2 ^ 7 % 2 ^ 32)) (opcode w) ≡ w
from_fields w below =
    let top : funct7 w * 2 ^ 25 % 2 ^ 32 ≡ funct7 w * 2 ^ 25 = omega arith in
    let lowest : opcode w ≡ w % 2 ^ 7 = omega arith in
    let whole : w % 2 ^ 32 ≡ w = omega arith in
    rw (
      top,
      side_by_side w 20 7 5 (omega arith),
      side_by_side w 15 12 5 (omega arith),
      side_by_side w 12 17 3 (omega arith),
      side_by_side w 7 20 5 (omega arith),
      lowest,
      beside_lowest w 25 7,
      whole,
    ) refl

-- the same, where the bits from 12 up are one field
pub from_upper_fields : (w : ℕ) → w < 2 ^ 32 → bit_or (bit_or (field w 31 12 * 2 ^ 12 % 2 ^ 32) (rd_field w * 2 ^ 7 % 2 ^ 32)) (opcode w) ≡ w
from_upper_fields w below =
    let top : field w 31 12 * 2 ^ 12 % 2 ^ 32 ≡ field w 31 12 * 2 ^ 12 = omega arith in
    let lowest : opcode w ≡ w % 2 ^ 7 = omega arith in
    let whole : w % 2 ^ 32 ≡ w = omega arith in
    rw (top, side_by_side w 7 20 5 (omega arith), lowest, beside_lowest w 25 7, whole) refl

-- ---- immediates

-- pieces that lie one below the other are added
or_below : (x q k b : ℕ) → x ≡ q * 2 ^ k → b < 2 ^ k → bit_or x b ≡ x + b
or_below x q k b place below = rw place (or_shifted q k b below)

or_four : (x y z t p i q j r k : ℕ) → x ≡ p * 2 ^ i → y < 2 ^ i → x + y ≡ q * 2 ^ j → z < 2 ^ j
    → x + y + z ≡ r * 2 ^ k → t < 2 ^ k → bit_or (bit_or (bit_or x y) z) t ≡ x + y + z + t
or_four x y z t p i q j r k at_x below_x at_y below_y at_z below_z =
    rw (or_below x p i y at_x below_x, or_below (x + y) q j z at_y below_y, or_below (x + y + z) r k t at_z below_z) refl

-- the immediate of the format B, put together from its pieces
pub branch_pieces : (w : ℕ)
    → bit_or (bit_or (bit_or (field w 31 31 * 2 ^ 12 % 2 ^ 32) (field w 7 7 * 2 ^ 11 % 2 ^ 32))
    (field w 30 25 * 2 ^ 5 % 2 ^ 32)) (field w 11 8 * 2 % 2 ^ 32) ≡ immediate branch_format w
branch_pieces w = pieces (field w 31 31) (field w 7 7) (field w 30 25) (field w 11 8) (omega arith) (omega arith) (omega arith) (omega arith)
  where
    pieces : (a b c d : ℕ) → a < 2 → b < 2 → c < 64 → d < 16
        → bit_or (bit_or (bit_or (a * 2 ^ 12 % 2 ^ 32) (b * 2 ^ 11 % 2 ^ 32)) (c * 2 ^ 5 % 2 ^ 32)) (d * 2 % 2 ^ 32)
        ≡ (a * 2 ^ 11 + (b * 2 ^ 10 + (c * 2 ^ 4 + (d * 2 ^ 0 + 0)))) * 2 ^ 1
    pieces a b c d ha hb hc hd =
        or_four (a * 2 ^ 12 % 2 ^ 32) (b * 2 ^ 11 % 2 ^ 32) (c * 2 ^ 5 % 2 ^ 32) (d * 2 % 2 ^ 32) a 12
        (a * 2 + b) 11 ((a * 2 + b) * 64 + c) 5 (omega arith) (omega arith) (omega arith) (omega arith)
        (omega arith) (omega arith)
        ∙ omega arith

-- and that of the format J
pub jump_pieces : (w : ℕ)
    → bit_or (bit_or (bit_or (field w 31 31 * 2 ^ 20 % 2 ^ 32) (field w 19 12 * 2 ^ 12 % 2 ^ 32))
    (field w 20 20 * 2 ^ 11 % 2 ^ 32)) (field w 30 21 * 2 % 2 ^ 32) ≡ immediate jump_format w
jump_pieces w = pieces (field w 31 31) (field w 19 12) (field w 20 20) (field w 30 21) (omega arith) (omega arith) (omega arith) (omega arith)
  where
    pieces : (a b c d : ℕ) → a < 2 → b < 256 → c < 2 → d < 1024
        → bit_or (bit_or (bit_or (a * 2 ^ 20 % 2 ^ 32) (b * 2 ^ 12 % 2 ^ 32)) (c * 2 ^ 11 % 2 ^ 32))
        (d * 2 % 2 ^ 32) ≡ (a * 2 ^ 19 + (b * 2 ^ 11 + (c * 2 ^ 10 + (d * 2 ^ 0 + 0)))) * 2 ^ 1
    pieces a b c d ha hb hc hd =
        or_four (a * 2 ^ 20 % 2 ^ 32) (b * 2 ^ 12 % 2 ^ 32) (c * 2 ^ 11 % 2 ^ 32) (d * 2 % 2 ^ 32) a 20
        (a * 256 + b) 12 ((a * 256 + b) * 2 + c) 11 (omega arith) (omega arith) (omega arith) (omega arith)
        (omega arith) (omega arith)
        ∙ omega arith

-- the low bits of a signed number are those of its word
low_bits_of_signed : (n v : ℕ) → n < 2 ^ 21 → v ≡ cast_unsigned w32 (cast_signed w32 (cast_unsigned w32 (signed_of_width 21 n))) → v % 2 ^ 21 ≡ n
low_bits_of_signed n v below e = grind (arith, ints)

-- the bits from 12 up of a word with this immediate of the format J, put together from the immediate's pieces
pub jump_upper : (w v : ℕ) → v ≡ cast_unsigned w32
    (cast_signed w32 (cast_unsigned w32 (signed_immediate jump_format w)))
    → field w 31 12 ≡ bit_or (bit_or (bit_or (field v 20 20 * 2 ^ 19 % 2 ^ 32) (field v 10 1 * 2 ^ 9 % 2 ^ 32))
    (field v 11 11 * 2 ^ 8 % 2 ^ 32)) (field v 19 12)
jump_upper w v e =
    let whole : v % 2 ^ 21 ≡ immediate jump_format w = low_bits_of_signed (immediate jump_format w) v (omega arith) e in
    let parts : field w 31 12 ≡ field w 31 31 * 2 ^ 19 + field w 30 21 * 2 ^ 9 + field w 20 20 * 2 ^ 8 + field w 19 12 = omega arith in
    parts ∙ pieces (field w 31 31) (field w 19 12) (field w 20 20) (field w 30 21) v (omega arith) (omega arith) (omega arith) (omega arith) whole
  where
    pieces : (a b c d v : ℕ) → a < 2 → b < 256 → c < 2 → d < 1024
        → v % 2 ^ 21 ≡ (a * 2 ^ 19 + (b * 2 ^ 11 + (c * 2 ^ 10 + (d * 2 ^ 0 + 0)))) * 2 ^ 1
        → a * 2 ^ 19 + d * 2 ^ 9 + c * 2 ^ 8 + b
        ≡ bit_or (bit_or (bit_or (field v 20 20 * 2 ^ 19 % 2 ^ 32) (field v 10 1 * 2 ^ 9 % 2 ^ 32))
        (field v 11 11 * 2 ^ 8 % 2 ^ 32)) (field v 19 12)
    pieces a b c d v ha hb hc hd whole =
        let at_a : field v 20 20 ≡ a = omega arith in
        let at_d : field v 10 1 ≡ d = omega arith in
        let at_c : field v 11 11 ≡ c = omega arith in
        let at_b : field v 19 12 ≡ b = omega arith in
        rw (at_a, at_b, at_c, at_d)
        (omega (
          arith,
          or_four (a * 2 ^ 19 % 2 ^ 32) (d * 2 ^ 9 % 2 ^ 32) (c * 2 ^ 8 % 2 ^ 32) b a 19
              (a * 1024 + d) 9 ((a * 1024 + d) * 2 + c) 8 (omega arith) (omega arith) (omega arith) (omega arith)
              (omega arith) (omega arith),
        ))

-- a field of twelve bits, in the places of rs2 and funct7
pub twelve_bits : (w n : ℕ) → field w 31 20 ≡ n → (rs2_field w ≡ bit_and n 31) × (funct7 w ≡ n / 2 ^ 5)
twelve_bits w n e = (rw (and_mask n 5) (omega arith), omega arith)
