-- For every reader: numbers in hexadecimal digits, in lower case.
use Rattle.std.specs.Prelude.{ℕ, ◌/◌, ◌%◌, ◌^◌, false, List, [], ◌∷◌, map}
use Rattle.std.specs.Fmt.{digit_glyph}

-- the digit of a number below 16
abbrev pub hex_digit : ℕ → ℕ
hex_digit d = digit_glyph false d

-- the last eight digits of a number, which are all that a number below 2 ^ 32 has
abbrev pub eight_hex_digits : ℕ → List ℕ
eight_hex_digits n = map (λ place. hex_digit (n / 16 ^ place % 16)) (7 ∷ 6 ∷ 5 ∷ 4 ∷ 3 ∷ 2 ∷ 1 ∷ 0 ∷ [])
