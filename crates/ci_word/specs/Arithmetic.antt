-- What the operations of RV32I and of the M extension compute (RISC-V Unprivileged ISA 20191213, sections 2.4, 7.1
-- and 7.2). A word is a whole number below 2 ^ 32. Where a word stands for a signed number, it does so in two's
-- complement.
use Rattle.std.specs.Prelude.{ℕ, ◌+◌, ◌-◌, ◌*◌, ◌/◌, ◌%◌, ◌^◌, ◌==◌, nat_lt, if◌then◌else◌, ℤ, pos, negsuc, ◌-ℤ◌, ◌*ℤ◌}
use Rattle.std.specs.Prelude.{int_lt, int_div, int_rem, bit_and, bit_or, bit_xor}
use Rattle.ci_word.specs.declared.arithmetic.Op.{Op}
use Rattle.ci_word.specs.declared.arithmetic.Op.TheVariants.{Add, Sub, Sll, Slt, Sltu, Xor, Srl, Sra, Or, And, Mul}
use Rattle.ci_word.specs.declared.arithmetic.Op.TheVariants.{Mulh, Mulhsu, Mulhu, Div, Divu, Rem, Remu}

-- the whole number that n stands for in two's complement of this width
abbrev pub signed_of_width : ℕ → ℕ → ℤ
signed_of_width width n = if nat_lt n (2 ^ (width - 1)) then pos n else (pos n -ℤ pos (2 ^ width))

-- the whole number that a word stands for
abbrev pub signed : ℕ → ℤ
signed word = signed_of_width 32 word

-- the word that a whole number is, modulo 2 ^ 32
abbrev pub word_of : ℤ → ℕ
word_of (pos n) = n % 2 ^ 32
word_of (negsuc n) = 2 ^ 32 - 1 - n % 2 ^ 32

-- the quotient, rounded down: negsuc n is -(n + 1)
abbrev pub floor_quotient : ℤ → ℕ → ℤ
floor_quotient (pos n) d = pos (n / d)
floor_quotient (negsuc n) d = negsuc (n / d)

-- Shifts use the low five bits of b. Quotients of whole numbers (`int_div`) round to zero, and remainders (`int_rem`)
-- have the dividend's sign. The one signed quotient that is no signed word, 2 ^ 31, has the word 80000000, as the
-- standard has it for overflow.
abbrev pub operation : Op → ℕ → ℕ → ℕ
operation Add a b = (a + b) % 2 ^ 32
operation Sub a b = (a + 2 ^ 32 - b) % 2 ^ 32
operation Sll a b = a * 2 ^ (b % 32) % 2 ^ 32
operation Slt a b = if int_lt (signed a) (signed b) then 1 else 0
operation Sltu a b = if nat_lt a b then 1 else 0
operation Xor a b = bit_xor a b
operation Srl a b = a / 2 ^ (b % 32)
operation Sra a b = word_of (floor_quotient (signed a) (2 ^ (b % 32)))
operation Or a b = bit_or a b
operation And a b = bit_and a b
operation Mul a b = a * b % 2 ^ 32
operation Mulh a b = word_of (floor_quotient (signed a *ℤ signed b) (2 ^ 32))
operation Mulhsu a b = word_of (floor_quotient (signed a *ℤ pos b) (2 ^ 32))
operation Mulhu a b = a * b / 2 ^ 32
operation Div a b = if b == 0 then 2 ^ 32 - 1 else word_of (int_div (signed a) (signed b))
operation Divu a b = if b == 0 then 2 ^ 32 - 1 else a / b
operation Rem a b = if b == 0 then a else word_of (int_rem (signed a) (signed b))
operation Remu a b = if b == 0 then a else a % b
