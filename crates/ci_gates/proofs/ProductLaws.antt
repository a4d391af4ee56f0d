-- What the product holds while it goes from the highest bits of the right word to the lowest.
use Rattle.std.specs.Prelude.{◌≡◌, ℕ, ◌+◌, ◌-◌, ◌*◌, ◌%◌, ◌^◌, ◌<◌, Bool, List, [], ◌∷◌, length, false}
use Rattle.std.specs.List.{slice_index_or}
use Rattle.std.proofs.Common.{refl, sym, ap, ◌∙◌, subst, arith, take, drop}
use Rattle.std.proofs.lemmas.List.{length-take-le, drop_more}
use Rattle.ci_netlist.specs.declared.bits.Bit.{Bit}
use Rattle.ci_netlist.specs.declared.bits.Bit.TheVariants.{Zero}
use Rattle.ci_netlist.specs.declared.bits.Gate.{Gate}
use Rattle.ci_netlist.specs.Netlists.{bit_value, digit, spelt}
use Rattle.ci_gates.specs.private.Growing.{MakesWord, Always}
use Rattle.ci_netlist.proofs.NumberLaws.{row_more}
use Rattle.ci_gates.proofs.NetlistLaws.{grows_on, counted, grows_none}
use Rattle.ci_gates.proofs.BitLaws.{no_bits}
use Rattle.ci_netlist.proofs.SpellingLaws.{spelt_below, spelt-take}
use Rattle.ci_netlist.proofs.NumberLaws.{low_digits, rows_more}

-- the low bits of the product of the left word and the k highest bits of the right one
pub record IsProduct (old new : List Gate) (left right bits : List Bit) (k : ℕ) : Type 0 where
  pub makes : MakesWord old new (3 * k * (k + 1)) k bits
  pub value : Always new (λ holds. spelt holds bits ≡ spelt holds left * spelt holds (drop (length left - k) right) % 2 ^ k)

remainder_by_one : (n : ℕ) → 0 ≡ n % 1
remainder_by_one n = omega arith

pub product_none : (gates : List Gate) (left right : List Bit) → IsProduct gates gates left right [] 0
product_none gates left right =
    record {
      makes = record { grows = counted gates gates 0 (3 * 0 * (0 + 1)) (omega arith) (grows_none gates); width_is = refl; are_bits = no_bits (length gates) };
      value = λ arguments gives settled. remainder_by_one _;
    }

-- a row more: the sum is that of the row and twice the product so far, with the carry left out
row_added : (holds : Bit → Bool) (left right bits row twice sum : List Bit) (k carry : ℕ)
    → k < length left → length right ≡ length left → length bits ≡ k → length sum ≡ k + 1 → twice ≡ Zero ∷ bits
    → holds Zero ≡ false
    → spelt holds bits ≡ spelt holds left * spelt holds (drop (length left - k) right) % 2 ^ k
    → spelt holds row ≡ digit (holds (slice_index_or right (length left - 1 - k) Zero)) * spelt holds (take (k + 1) left)
    → spelt holds sum + 2 ^ (k + 1) * carry ≡ spelt holds row + spelt holds twice + digit (holds Zero)
    → spelt holds sum ≡ spelt holds left * spelt holds (drop (length left - (k + 1)) right) % 2 ^ (k + 1)
row_added holds left right bits row twice sum k carry within wide is_k is_more doubled nothing before is_row is_sum =
    let i = length left - 1 - k in
    let b = slice_index_or right i Zero in
    let m = 2 ^ (k + 1) in
    let rest = spelt holds (drop (length left - k) right) in
    let place : length left - (k + 1) ≡ i = omega arith in
    let behind : i + 1 ≡ length left - k = omega arith in
    let higher : spelt holds (drop (length left - (k + 1)) right) ≡ digit (holds b) + 2 * rest =
    ap (λ n. spelt holds (drop n right)) place ∙ ap (spelt holds) (drop_more right i Zero (omega arith))
    ∙ ap (λ n. digit (holds b) + 2 * spelt holds (drop n right)) behind in
    let zero_is : digit (holds Zero) ≡ 0 = ap digit nothing in
    let twice_is : spelt holds twice ≡ digit (holds Zero) + 2 * spelt holds bits = ap (spelt holds) doubled in
    let low : spelt holds (take (k + 1) left) ≡ spelt holds left % m = spelt-take holds (k + 1) left (omega arith) in
    let row_is : spelt holds row ≡ digit (holds b) * (spelt holds left % m) = is_row ∙ ap (λ n. digit (holds b) * n) low in
    let total : spelt holds sum + m * carry ≡ digit (holds b) * (spelt holds left % m) + 2 * (spelt holds left * rest % 2 ^ k) =
    omega (arith, is_sum, row_is, twice_is, zero_is, before) in
    let under : spelt holds sum < m = subst (λ n. spelt holds sum < 2 ^ n) is_more (spelt_below holds sum) in
    low_digits m (spelt holds sum) carry (digit (holds b) * (spelt holds left % m) + 2 * (spelt holds left * rest % 2 ^ k)) under total
    ∙ row_more k (spelt holds left) (digit (holds b)) rest
    ∙ ap (λ n. spelt holds left * n % m) (sym higher)

pub product_more : (old new newer newest : List Gate) (left right bits row twice sum : List Bit) (carry : Bit) (k : ℕ)
    → IsProduct old new left right bits k → k < length left → length right ≡ length left
    → MakesWord new newer (length (take (k + 1) left)) (length (take (k + 1) left)) row
    → Always newer (λ holds. spelt holds row
    ≡ digit (holds (slice_index_or right (length left - 1 - k) Zero)) * spelt holds (take (k + 1) left))
    → twice ≡ Zero ∷ bits
    → MakesWord newer newest (5 * length row) (length row) sum
    → Always newest (λ holds. spelt holds sum + 2 ^ length row * digit (holds carry)
    ≡ spelt holds row + spelt holds twice + digit (holds Zero))
    → IsProduct old newest left right sum (k + 1)
product_more old new newer newest left right bits row twice sum carry k is within wide row_makes row_is doubled sum_makes sum_is =
    let taken : length (take (k + 1) left) ≡ k + 1 = length-take-le (k + 1) left (omega arith) in
    let row_wide : length row ≡ k + 1 = row_makes.width_is ∙ taken in
    let grows = grows_on old newer newest (3 * k * (k + 1) + length (take (k + 1) left)) (5 * length row)
    (grows_on old new newer (3 * k * (k + 1)) (length (take (k + 1) left)) is.makes.grows row_makes.grows) sum_makes.grows in
    record {
      makes =
          record {
            grows =
                counted old newest (3 * k * (k + 1) + length (take (k + 1) left) + 5 * length row) (3 * (k + 1) * (k + 1 + 1))
                ((λ t. 3 * k * (k + 1) + taken t + 5 * row_wide t) ∙ rows_more k) grows;
            width_is = sum_makes.width_is ∙ row_wide;
            are_bits = sum_makes.are_bits;
          };
      value =
          λ arguments gives settled.
          let before = sum_makes.grows.kept arguments gives settled in
          let first = row_makes.grows.kept arguments gives before in
          let holds = bit_value arguments gives in
          row_added holds left right bits row twice sum k (digit (holds carry)) within wide is.makes.width_is
          (sum_makes.width_is ∙ row_wide) doubled refl (is.value arguments gives first) (row_is arguments gives before)
          (ap (λ n. spelt holds sum + 2 ^ n * digit (holds carry)) (sym row_wide) ∙ sum_is arguments gives settled);
    }

-- at the end it is the product of the two words
pub product_whole : (old new : List Gate) (left right bits : List Bit) (k : ℕ) → IsProduct old new left right bits k → k ≡ length left
    → MakesWord old new (3 * length left * (length left + 1)) (length left) bits
    × Always new (λ holds. spelt holds bits ≡ spelt holds left * spelt holds right % 2 ^ length left)
product_whole old new left right bits k is end = (
  subst (λ n. MakesWord old new (3 * n * (n + 1)) n bits) end is.makes,
  λ arguments gives settled.
      let holds = bit_value arguments gives in
      is.value arguments gives settled
      ∙ (λ t. spelt holds left * spelt holds (drop ((let rest : length left - k ≡ 0 = omega arith in rest) t) right) % 2 ^ end t),
)
