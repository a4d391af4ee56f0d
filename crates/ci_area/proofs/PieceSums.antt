-- Sums over pieces.
use Rattle.std.proofs.Common.{◌≡◌, ℕ, suc, ◌+◌, ◌-◌, ◌*◌, ◌^◌, ◌<◌, ◌≤◌, Bool, true, refl, ap, ◌∙◌, arith, le_refl, List, length}
use Rattle.std.proofs.lemmas.Bool.{false_from_ne_true}
use Rattle.std.proofs.lemmas.Nat.{mul-le}
use Rattle.ci_word.specs.Numbers.{sum_below}
use Rattle.ci_word.proofs.NumberLaws.{sum_below-suc, sum_below-add, sum_below-mono, sum_below-none}
use Rattle.ci_area.specs.declared.decided.Decided.{Decided}
use Rattle.ci_area.specs.declared.piece.Piece.{Piece}
use Rattle.ci_area.specs.Pieces.{ArePieces, area_at, gain_at, area, gain}
use Rattle.ci_area.specs.AreaPrefixes.{Prefix, undecided, taken, scaled_bound}
use Rattle.ci_area.specs.Representation.{Represents}
use Rattle.ci_area.specs.private.Beyond.{beyond_below}
use Rattle.ci_area.proofs.AreaLaws.{beyond_few, taken_from}

-- the sum of some is no more than that of all
pub sum_below-whole : (n : ℕ) (p : ℕ → Bool) (f : ℕ → ℕ) → sum_below n p f ≤ sum_below n (λ _. true) f
sum_below-whole n p f = sum_below-mono n p (λ _. true) f f (λ _ _ _. refl) (λ _ _ _. le_refl _)

-- also with one more
pub sum_below-part : (n all : ℕ) (p : ℕ → Bool) (f : ℕ → ℕ) → n < all → sum_below n p f + f n ≤ sum_below all (λ _. true) f
sum_below-part n all p f below =
    let m : ℕ = all - suc n in
    let whole : all ≡ suc n + m = omega arith in
    omega (
      arith,
      sum_below-whole n p f,
      sum_below-suc n (λ _. true) f,
      sum_below-add (suc n) m (λ _. true) f,
      ap (λ k. sum_below k (λ _. true) f) whole,
    )

-- one number is no more than all
pub one_of_all : (n all : ℕ) (f : ℕ → ℕ) → n < all → f n ≤ sum_below all (λ _. true) f
one_of_all n all f below = omega (arith, sum_below-part n all (λ _. true) f below)

module _ (pieces : List Piece) (are : ArePieces pieces) where
  pub gain_fits : (k : ℕ) → k < length pieces → gain_at pieces k < 2 ^ 63
  gain_fits k below = omega (arith, one_of_all k (length pieces) (gain_at pieces) below, are.gain_most)

  pub area_fits : (k : ℕ) → k < length pieces → area_at pieces k < 2 ^ 63
  area_fits k below = omega (arith, one_of_all k (length pieces) (area_at pieces) below, are.area_most)

  pub whole_gain : (chosen : ℕ → Bool) → gain pieces chosen < 2 ^ 63
  whole_gain chosen = omega (arith, sum_below-whole (length pieces) chosen (gain_at pieces), are.gain_most)

  pub whole_area : (chosen : ℕ → Bool) → area pieces chosen < 2 ^ 63
  whole_area chosen = omega (arith, sum_below-whole (length pieces) chosen (area_at pieces), are.area_most)

  -- what is taken in, and what is undecided, are apart
  apart : (prefix : Prefix) (f : ℕ → ℕ)
      → sum_below (length pieces) (taken pieces prefix) f + sum_below (undecided pieces prefix) (λ _. true) f
      ≤ sum_below (length pieces) (λ _. true) f
  apart prefix f =
      let u : ℕ = undecided pieces prefix in
      let m : ℕ = length pieces - u in
      let whole : length pieces ≡ u + m = omega arith in
      omega (
        arith,
        ap (λ n. sum_below n (taken pieces prefix) f) whole,
        ap (λ n. sum_below n (λ _. true) f) whole,
        sum_below-add u m (taken pieces prefix) f,
        sum_below-add u m (λ _. true) f,
        sum_below-none u (taken pieces prefix) f (λ k below. false_from_ne_true _ (λ in_. omega (arith, taken_from pieces prefix k in_))),
        sum_below-whole m (λ k. taken pieces prefix (u + k)) (λ k. f (u + k)),
      )

  -- what is gained, and gained beyond a price, fits 126 bits
  pub gains_fit : (prefix : Prefix) (num den : ℕ) → den < 2 ^ 63
      → den * gain pieces (taken pieces prefix) + beyond_below pieces num den (undecided pieces prefix) < 2 ^ 126
  gains_fit prefix num den few_den =
      let p = gain pieces (taken pieces prefix) in
      let u = sum_below (undecided pieces prefix) (λ _. true) (gain_at pieces) in
      let all : p + u ≤ 2 ^ 63 - 1 = omega (arith, apart prefix (gain_at pieces), are.gain_most) in
      let products : den * (p + u) ≤ (2 ^ 63 - 1) * (2 ^ 63 - 1) = mul-le den (p + u) (2 ^ 63 - 1) (2 ^ 63 - 1) (omega (arith, few_den)) all in
      let beyond = beyond_few num den (gain_at pieces) (area_at pieces) (undecided pieces prefix) in
      omega (arith, products, beyond)

module _ (pieces : List Piece) (prefix : Prefix) (decided : Decided) (is : Represents pieces prefix decided) (num den beyond : ℕ)
    (rest : beyond ≡ beyond_below pieces num den decided.left) where
  rest_is : beyond ≡ beyond_below pieces num den (undecided pieces prefix)
  rest_is = rest ∙ ap (λ (n : ℕ). beyond_below pieces num den n) is.is_left

  pub decided_fits : ArePieces pieces → den < 2 ^ 63 → den * decided.so_far.gain + beyond < 2 ^ 126
  decided_fits are few_den = omega (arith, gains_fit pieces are prefix num den few_den, ap (λ (n : ℕ). den * n) is.gain_is, rest_is)

  -- what the code sums up is the bound times its denominator
  pub scaled_is : (limit : ℕ) → den * decided.so_far.gain + num * (limit - decided.so_far.area) + beyond ≡ scaled_bound pieces limit num den prefix
  scaled_is limit = λ i. den * is.gain_is i + num * (limit - is.area_is i) + rest_is i
