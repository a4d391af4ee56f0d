-- The fields of an instruction word, and its immediates (RISC-V Unprivileged ISA 20191213, sections 2.2 and 2.3).
use Rattle.std.specs.Prelude.{◌≡◌, ◌⊎◌, ℕ, ◌+◌, ◌-◌, ◌*◌, ◌/◌, ◌%◌, ◌^◌, List, [], ◌∷◌, ℤ}
use Rattle.ci_word.specs.Arithmetic.{signed_of_width}

-- the bits of a word from high down to low, as a number
abbrev pub field : ℕ → ℕ → ℕ → ℕ
field word high low = word / 2 ^ low % 2 ^ (high - low + 1)

-- ---- the fields that have a name

abbrev pub opcode : ℕ → ℕ
opcode word = field word 6 0

abbrev pub rd_field : ℕ → ℕ
rd_field word = field word 11 7

abbrev pub funct3 : ℕ → ℕ
funct3 word = field word 14 12

abbrev pub rs1_field : ℕ → ℕ
rs1_field word = field word 19 15

abbrev pub rs2_field : ℕ → ℕ
rs2_field word = field word 24 20

abbrev pub funct7 : ℕ → ℕ
funct7 word = field word 31 25

-- the opcode is custom-0 or custom-1 (table 24.1), which the standard leaves to custom instructions
abbrev pub HasCustomOpcode : ℕ → Type 0
HasCustomOpcode word = (opcode word ≡ 0x0b) ⊎ (opcode word ≡ 0x2b)

-- ---- immediates

-- An immediate stands in some ranges of bits of the word, each given by its highest and its lowest bit. The first
-- range has the immediate's top bits, the second those below, and so on. Below the last range the immediate has some
-- zero bits.
pub record Format : Type 0 where
  pub ranges : List (ℕ × ℕ)
  pub zeros : ℕ

-- the formats I, S, B, U and J
abbrev pub immediate_format : Format
immediate_format = record { ranges = (31, 20) ∷ []; zeros = 0 }

abbrev pub store_format : Format
store_format = record { ranges = (31, 25) ∷ (11, 7) ∷ []; zeros = 0 }

abbrev pub branch_format : Format
branch_format = record { ranges = (31, 31) ∷ (7, 7) ∷ (30, 25) ∷ (11, 8) ∷ []; zeros = 1 }

abbrev pub upper_format : Format
upper_format = record { ranges = (31, 12) ∷ []; zeros = 12 }

abbrev pub jump_format : Format
jump_format = record { ranges = (31, 31) ∷ (19, 12) ∷ (20, 20) ∷ (30, 21) ∷ []; zeros = 1 }

-- how many bits the ranges have together
abbrev pub total_width : List (ℕ × ℕ) → ℕ
total_width [] = 0
total_width ((high, low) ∷ ranges) = high - low + 1 + total_width ranges

-- the bits of the ranges, those of the first range on top
abbrev pub joined : ℕ → List (ℕ × ℕ) → ℕ
joined word [] = 0
joined word ((high, low) ∷ ranges) = field word high low * 2 ^ total_width ranges + joined word ranges

-- the immediate, as it stands in the word
abbrev pub immediate : Format → ℕ → ℕ
immediate format word = joined word format.ranges * 2 ^ format.zeros

-- the immediate, its top bit as the sign
abbrev pub signed_immediate : Format → ℕ → ℤ
signed_immediate format word = signed_of_width (total_width format.ranges + format.zeros) (immediate format word)
