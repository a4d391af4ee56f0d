-- The digits of a word, one after the other.
use Rattle.std.proofs.Common.{◌≡◌, ℕ, zero, suc, ◌-◌, ◌*◌, ◌/◌, ◌%◌, ◌^◌, ◌<◌, [], ◌∷◌, ◌++◌, take, refl, arith}
use Rattle.ci_reading.specs.Hex.{hex_digit, eight_hex_digits}

-- the digits above place k, and the one at k
pub digits_more : (n k : ℕ) → k < 8 → take (8 - k) (eight_hex_digits n) ≡ take (8 - suc k) (eight_hex_digits n) ++ (hex_digit (n / 2 ^ (4 * k) % 16) ∷ [])
digits_more n zero below = refl
digits_more n (suc zero) below = refl
digits_more n (suc (suc zero)) below = refl
digits_more n (suc (suc (suc zero))) below = refl
digits_more n (suc (suc (suc (suc zero)))) below = refl
digits_more n (suc (suc (suc (suc (suc zero))))) below = refl
digits_more n (suc (suc (suc (suc (suc (suc zero)))))) below = refl
digits_more n (suc (suc (suc (suc (suc (suc (suc zero))))))) below = refl
digits_more n (suc (suc (suc (suc (suc (suc (suc (suc k)))))))) below = absurd (omega arith)

pub glyph_small : (d : ℕ) → d < 16 → hex_digit d < 128
glyph_small d below = grind arith
