-- The words of the inputs.
use Rattle.std.specs.Prelude.{◌≡◌, ℕ, zero, suc, ◌+◌, ◌*◌, ◌/◌, ◌%◌, ◌<◌, Bool, nat_eq, List, [], ◌∷◌, ◌++◌, slice_index}
use Rattle.std.specs.Int.{bit_at}
use Rattle.std.proofs.Common.{refl, ◌∙◌, arith}
use Rattle.std.proofs.lemmas.Nat.Bits.{bit_at-lt}
use Rattle.ci_netlist.specs.declared.bits.Bit.{Bit}
use Rattle.ci_netlist.specs.declared.bits.Bit.TheVariants.{Input}
use Rattle.ci_netlist.specs.Netlists.{bit_value, digit}
use Rattle.ci_gates.proofs.LowBitLaws.{AreLowBits, low_more}

one_digit : (n : ℕ) → n < 2 → digit (nat_eq n 1) ≡ n
one_digit zero below = refl
one_digit (suc zero) below = refl
one_digit (suc (suc n)) below = absurd (omega arith)

input_digit : (arguments : List ℕ) (gives : ℕ → Bool) (input k n : ℕ) → k < 32 → n ≡ 32 * input + k
    → digit (bit_value arguments gives (Input n)) ≡ bit_at (slice_index arguments input) k
input_digit arguments gives input k n below is =
    let row : n / 32 ≡ input = omega (arith, is) in
    let column : n % 32 ≡ k = omega (arith, is) in
    (λ t. digit (nat_eq (bit_at (slice_index arguments (row t)) (column t)) 1))
    ∙ one_digit (bit_at (slice_index arguments input) k) (bit_at-lt (slice_index arguments input) k)

pub input_more : (input : ℕ) (bits : List Bit) (k n : ℕ) → input < 5 → k < 32 → n ≡ 32 * input + k
    → AreLowBits (λ arguments. slice_index arguments input) bits k
    → AreLowBits (λ arguments. slice_index arguments input) (bits ++ Input n ∷ []) (k + 1)
input_more input bits k n few below is_n is =
    low_more (λ arguments. slice_index arguments input) bits (Input n) k is (λ made. record { names = omega (arith, is_n, few, below) })
    (λ arguments gives. input_digit arguments gives input k n below is_n)
