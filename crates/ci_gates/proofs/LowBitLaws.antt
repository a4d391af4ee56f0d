-- Words of the low bits of a number, made from the lowest bit up.
use Rattle.std.specs.Prelude.{◌≡◌, ℕ, ◌+◌, ◌*◌, ◌/◌, ◌%◌, ◌^◌, Bool, List, [], ◌∷◌, ◌++◌, length}
use Rattle.std.specs.Int.{bit_at}
use Rattle.std.proofs.Common.{refl, sym, ap, ◌∙◌, arith}
use Rattle.std.proofs.Math.Nat.{mul_comm}
use Rattle.std.proofs.lemmas.Nat.{mod-pow-add}
use Rattle.std.proofs.lemmas.List.{length_push}
use Rattle.ci_netlist.specs.declared.bits.Bit.{Bit}
use Rattle.ci_netlist.specs.Netlists.{bit_value, digit, spelt, IsBit, AreBits}
use Rattle.ci_netlist.proofs.SpellingLaws.{spelt_push}
use Rattle.ci_gates.proofs.BitLaws.{no_bits, bits_more}

-- the k lowest bits of a number, which may depend on the inputs, and no gate has to be there
pub record AreLowBits (number : List ℕ → ℕ) (bits : List Bit) (k : ℕ) : Type 0 where
  pub width : length bits ≡ k
  pub spells : (arguments : List ℕ) (gives : ℕ → Bool) → spelt (bit_value arguments gives) bits ≡ number arguments % 2 ^ k
  pub are_bits : (made : ℕ) → AreBits made bits

by_one : (n : ℕ) → 0 ≡ n % 1
by_one n = omega arith

pub low_none : (number : List ℕ → ℕ) → AreLowBits number [] 0
low_none number = record { width = refl; spells = λ arguments gives. by_one (number arguments); are_bits = no_bits }

pub low_more : (number : List ℕ → ℕ) (bits : List Bit) (bit : Bit) (k : ℕ) → AreLowBits number bits k
    → ((made : ℕ) → IsBit made bit)
    → ((arguments : List ℕ) (gives : ℕ → Bool) → digit (bit_value arguments gives bit) ≡ bit_at (number arguments) k)
    → AreLowBits number (bits ++ bit ∷ []) (k + 1)
low_more number bits bit k is is_bit bit_is =
    record {
      width = let e = length_push bits bit in omega (arith, e, is.width);
      spells =
          λ arguments gives.
          let holds = bit_value arguments gives in
          let value = number arguments in
          let low : value % 2 ^ k ≡ spelt holds bits = sym (is.spells arguments gives) in
          let all : value % 2 ^ (1 + k) ≡ value / 2 ^ k % 2 * 2 ^ k + value % 2 ^ k = mod-pow-add value 1 k in
          let place : 2 ^ k * (value / 2 ^ k % 2) ≡ value / 2 ^ k % 2 * 2 ^ k = mul_comm (2 ^ k) (value / 2 ^ k % 2) in
          spelt_push holds bits bit
          ∙ (λ t. spelt holds bits + 2 ^ is.width t * bit_is arguments gives t)
          ∙ (let e : spelt holds bits + 2 ^ k * (value / 2 ^ k % 2) ≡ value % 2 ^ (1 + k) = omega (arith, low, all, place) in e)
          ∙ ap (λ n. value % 2 ^ n) (let e : 1 + k ≡ k + 1 = omega arith in e);
      are_bits = λ made. bits_more made bits bit (is.are_bits made) (is_bit made);
    }
