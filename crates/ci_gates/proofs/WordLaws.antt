-- What is held while a word is made bit by bit.
use Rattle.std.specs.Prelude.{◌≡◌, ℕ, suc, zero, ◌+◌, ◌*◌, ◌^◌, ◌<◌, Bool, true, false, ◌&&◌, List, [], ◌∷◌, ◌++◌, length, map, replicate, if◌then◌else◌}
use Rattle.std.specs.List.{slice_index_or}
use Rattle.std.proofs.Common.{refl, sym, ap, ◌∙◌, arith, take}
use Rattle.std.proofs.lemmas.List.{length_push, length-map, length-take-le, map_push, map_more}
use Rattle.ci_netlist.specs.declared.bits.Bit.{Bit}
use Rattle.ci_netlist.specs.declared.bits.Bit.TheVariants.{Zero, One}
use Rattle.ci_netlist.specs.declared.bits.Gate.{Gate}
use Rattle.ci_gates.specs.declared.building.Kind.{Kind}
use Rattle.ci_gates.specs.declared.building.Kind.TheVariants as kind
use Rattle.ci_gates.specs.private.Growing.{kind_number}
use Rattle.ci_netlist.specs.Netlists.{IsBit, AreBits, bit_value, differ, digit, number_of, spelt}
use Rattle.ci_gates.specs.private.Growing.{Grows, Always, pairs, kind_value}
use Rattle.ci_gates.proofs.NetlistLaws.{grows_on}
use Rattle.ci_gates.proofs.BitLaws.{grown_bits, bits_more, no_bits}
use Rattle.ci_gates.proofs.OperatorLaws.{number_of-row, number_of-not, pairs-choice, number_of-and, number_of-or, number_of-xor}

pairs_push : (f : Bool → Bool → Bool) (xs ys : List Bool) (x y : Bool) → length xs ≡ length ys
    → pairs f (xs ++ x ∷ []) (ys ++ y ∷ []) ≡ pairs f xs ys ++ f x y ∷ []
pairs_push f [] [] x y same = refl
pairs_push f [] (b ∷ ys) x y same = absurd (omega arith)
pairs_push f (a ∷ xs) [] x y same = absurd (omega arith)
pairs_push f (a ∷ xs) (b ∷ ys) x y same = ap (λ rest. f a b ∷ rest) (pairs_push f xs ys x y (omega arith))

pub record IsPaired (old new : List Gate) (f : Bool → Bool → Bool) (left right bits : List Bit) (k : ℕ) : Type 0 where
  pub grows : Grows old new k
  pub width : length bits ≡ k
  pub are_bits : AreBits (length new) bits
  pub value : Always new (λ holds. map holds bits ≡ pairs f (map holds (take k left)) (map holds (take k right)))

pub paired_none : (gates : List Gate) (f : Bool → Bool → Bool) (left right : List Bit) → IsPaired gates gates f left right [] 0
paired_none gates f left right =
    record {
      grows = record { count_is = omega arith; kept = λ arguments gives settled. settled };
      width = refl;
      are_bits = no_bits (length gates);
      value = λ arguments gives settled. refl;
    }

one_pair_more : (holds : Bit → Bool) (f : Bool → Bool → Bool) (left right bits : List Bit) (bit : Bit) (k : ℕ)
    → k < length left → k < length right → map holds bits ≡ pairs f (map holds (take k left)) (map holds (take k right))
    → holds bit ≡ f (holds (slice_index_or left k Zero)) (holds (slice_index_or right k Zero))
    → map holds (bits ++ bit ∷ []) ≡ pairs f (map holds (take (k + 1) left)) (map holds (take (k + 1) right))
one_pair_more holds f left right bits bit k in_left in_right before is =
    let wide : length (map holds (take k left)) ≡ length (map holds (take k right)) =
    length-map (take k left) holds ∙ length-take-le k left (omega arith)
    ∙ sym (length-map (take k right) holds ∙ length-take-le k right (omega arith)) in
    map_push holds bits bit ∙ (λ t. before t ++ is t ∷ [])
    ∙ sym (pairs_push f (map holds (take k left)) (map holds (take k right)) (holds (slice_index_or left k Zero))
    (holds (slice_index_or right k Zero)) wide)
    ∙ (λ t. pairs f (sym (map_more holds left k Zero in_left) t) (sym (map_more holds right k Zero in_right) t))

pub paired_more : (old new newer : List Gate) (f : Bool → Bool → Bool) (left right bits : List Bit) (bit : Bit) (k : ℕ)
    → IsPaired old new f left right bits k → k < length left → k < length right
    → Grows new newer 1 → IsBit (length newer) bit
    → Always newer (λ holds. holds bit ≡ f (holds (slice_index_or left k Zero)) (holds (slice_index_or right k Zero)))
    → IsPaired old newer f left right (bits ++ bit ∷ []) (k + 1)
paired_more old new newer f left right bits bit k is in_left in_right grows bit_is full =
    record {
      grows = grows_on old new newer k 1 is.grows grows;
      width = let e = length_push bits bit in omega (arith, e, is.width);
      are_bits = bits_more (length newer) bits bit (grown_bits new newer 1 bits grows is.are_bits) bit_is;
      value =
          λ arguments gives settled.
          one_pair_more (bit_value arguments gives) f left right bits bit k in_left in_right
          (is.value arguments gives (grows.kept arguments gives settled)) (full arguments gives settled);
    }

-- ---- copies of a bit

map_copies : (holds : Bit → Bool) (bit : Bit) (count : ℕ) (bits : List Bit) → bits ≡ replicate count bit
    → map holds bits ≡ replicate count (holds bit)
map_copies holds bit count bits same = ap (map holds) same ∙ mapped count
  where
    mapped : (n : ℕ) → map holds (replicate n bit) ≡ replicate n (holds bit)
    mapped zero = refl
    mapped (suc n) = ap (λ rest. holds bit ∷ rest) (mapped n)

-- ---- what words made bit by bit spell

module _ (holds : Bit → Bool) where
  pub row_spells : (bits made copies : List Bit) (bit : Bit) → copies ≡ replicate (length bits) bit
      → map holds made ≡ pairs (λ a b. a && b) (map holds bits) (map holds copies)
      → spelt holds made ≡ digit (holds bit) * spelt holds bits
  row_spells bits made copies bit same is =
      ap number_of
      (is ∙ ap (pairs (λ a b. a && b) (map holds bits))
      (map_copies holds bit (length bits) copies same ∙ ap (λ n. replicate n (holds bit)) (sym (length-map bits holds))))
      ∙ number_of-row (holds bit) (map holds bits)

  pub complement_spells : (bits made copies : List Bit) → copies ≡ replicate (length bits) One → holds One ≡ true
      → map holds made ≡ pairs differ (map holds bits) (map holds copies)
      → spelt holds made + spelt holds bits + 1 ≡ 2 ^ length bits
  complement_spells bits made copies same one is =
      ap (λ digits. number_of digits + spelt holds bits + 1)
      (is ∙ ap (pairs differ (map holds bits))
      (map_copies holds One (length bits) copies same ∙ (λ t. replicate (sym (length-map bits holds) t) (one t))))
      ∙ number_of-not (map holds bits) ∙ ap (λ n. 2 ^ n) (length-map bits holds)

  pub choice_spells : (test : Bit) (first second differences copies changes made : List Bit) → length second ≡ length first
      → copies ≡ replicate (length first) test
      → map holds differences ≡ pairs differ (map holds first) (map holds second)
      → map holds changes ≡ pairs (λ a b. a && b) (map holds differences) (map holds copies)
      → map holds made ≡ pairs differ (map holds changes) (map holds second)
      → spelt holds made ≡ (if holds test then spelt holds first else spelt holds second)
  choice_spells test first second differences copies changes made wide same is_differences is_changes is_made =
      ap number_of
      (is_made
      ∙ ap (λ digits. pairs differ digits (map holds second))
      (is_changes ∙ (λ t. pairs (λ a b. a && b) (is_differences t)
      ((map_copies holds test (length first) copies same ∙ ap (λ n. replicate n (holds test)) (sym (length-map first holds))) t)))
      ∙ pairs-choice (holds test) (map holds first) (map holds second)
      (length-map second holds ∙ wide ∙ sym (length-map first holds)))
      ∙ either (holds test)
    where
      either : (t : Bool) → number_of (if t then map holds first else map holds second) ≡ (if t then spelt holds first else spelt holds second)
      either true = refl
      either false = refl

  pub bitwise_spells : (kind : Kind) (left right made : List Bit) → length right ≡ length left
      → map holds made ≡ pairs (kind_value kind) (map holds left) (map holds right)
      → spelt holds made ≡ kind_number kind (spelt holds left) (spelt holds right)
  bitwise_spells kind.And left right made same is =
      ap number_of is ∙ number_of-and (map holds left) (map holds right) (length-map right holds ∙ same ∙ sym (length-map left holds))
  bitwise_spells kind.Or left right made same is =
      ap number_of is ∙ number_of-or (map holds left) (map holds right) (length-map right holds ∙ same ∙ sym (length-map left holds))
  bitwise_spells kind.Xor left right made same is =
      ap number_of is ∙ number_of-xor (map holds left) (map holds right) (length-map right holds ∙ same ∙ sym (length-map left holds))
