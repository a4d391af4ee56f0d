-- What the adder holds while it goes from the lowest bits to the highest.
use Rattle.std.specs.Prelude.{◌≡◌, ℕ, ◌+◌, ◌*◌, ◌^◌, ◌<◌, List, [], ◌∷◌, ◌++◌, length}
use Rattle.std.specs.List.{slice_index_or}
use Rattle.std.proofs.Common.{refl, arith, take}
use Rattle.std.proofs.lemmas.List.{length_push}
use Rattle.ci_netlist.specs.declared.bits.Bit.{Bit}
use Rattle.ci_netlist.specs.declared.bits.Bit.TheVariants.{Zero}
use Rattle.ci_netlist.specs.declared.bits.Gate.{Gate}
use Rattle.ci_netlist.specs.Netlists.{IsBit, AreBits, bit_value, digit, spelt}
use Rattle.ci_gates.specs.private.Growing.{Grows, Always}
use Rattle.ci_gates.proofs.NetlistLaws.{grows_on, counted}
use Rattle.ci_gates.proofs.BitLaws.{grown_bits, bits_more, no_bits}
use Rattle.ci_netlist.proofs.SpellingLaws.{added_more}

-- the sum of the k lowest bits was made
pub record IsSummed (old new : List Gate) (left right bits : List Bit) (first next : Bit) (k : ℕ) : Type 0 where
  pub grows : Grows old new (5 * k)
  pub width : length bits ≡ k
  pub are_bits : AreBits (length new) bits
  pub next_is : IsBit (length new) next
  pub value : Always new (λ holds. spelt holds bits + 2 ^ k * digit (holds next)
      ≡ spelt holds (take k left) + spelt holds (take k right) + digit (holds first))

pub summed_none : (gates : List Gate) (left right : List Bit) (first : Bit) → IsBit (length gates) first
    → IsSummed gates gates left right [] first first 0
summed_none gates left right first is =
    record {
      grows = record { count_is = omega arith; kept = λ arguments gives settled. settled };
      width = refl;
      are_bits = no_bits (length gates);
      next_is = is;
      value = λ arguments gives settled. omega arith;
    }

pub summed_more : (old new newer : List Gate) (left right bits : List Bit) (first next low high l r : Bit) (k : ℕ)
    → IsSummed old new left right bits first next k → k < length left → k < length right
    → l ≡ slice_index_or left k Zero → r ≡ slice_index_or right k Zero
    → Grows new newer 5 → IsBit (length newer) low → IsBit (length newer) high
    → Always newer (λ holds. digit (holds low) + 2 * digit (holds high) ≡ digit (holds l) + digit (holds r) + digit (holds next))
    → IsSummed old newer left right (bits ++ low ∷ []) first high (k + 1)
summed_more old new newer left right bits first next low high l r k is in_left in_right is_l is_r grows low_is high_is full =
    record {
      grows = counted old newer (5 * k + 5) (5 * (k + 1)) (omega arith) (grows_on old new newer (5 * k) 5 is.grows grows);
      width = let e = length_push bits low in omega (arith, e, is.width);
      are_bits = bits_more (length newer) bits low (grown_bits new newer 5 bits grows is.are_bits) low_is;
      next_is = high_is;
      value =
          λ arguments gives settled.
          added_more (bit_value arguments gives) left right bits k low next high first l r is.width in_left in_right is_l is_r
          (full arguments gives settled) (is.value arguments gives (grows.kept arguments gives settled));
    }
