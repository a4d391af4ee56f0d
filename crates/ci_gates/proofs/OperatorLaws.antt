-- What operators on binary digits, place by place, make of the numbers that the digits spell.
use Rattle.std.specs.Prelude.{◌≡◌, ℕ, suc, ◌+◌, ◌*◌, ◌^◌, ◌<◌, Bool, true, false, ◌&&◌, ◌||◌, List, [], ◌∷◌}
use Rattle.std.specs.Prelude.{length, replicate, bit_and, bit_or, bit_xor, if◌then◌else◌}
use Rattle.std.proofs.Common.{refl, sym, ◌∙◌, arith}
use Rattle.std.proofs.Math.Nat.{pow-succ'}
use Rattle.std.proofs.lemmas.Nat.{and_block, or_block, xor_block}
use Rattle.ci_netlist.specs.Netlists.{differ, digit, number_of}
use Rattle.ci_gates.specs.private.Growing.{pairs}
use Rattle.ci_netlist.proofs.SpellingLaws.{digit_below}

-- a digit below the others, as the laws of words have it
below : (b : Bool) (n : ℕ) → digit b + 2 * n ≡ n * 2 ^ 1 + digit b
below b n = omega arith

-- an operator on numbers that goes place by place
record IsBitwise (op : ℕ → ℕ → ℕ) (f : Bool → Bool → Bool) : Type 0 where
  block : (k a b r s : ℕ) → r < 2 ^ k → s < 2 ^ k → op (a * 2 ^ k + r) (b * 2 ^ k + s) ≡ op a b * 2 ^ k + op r s
  digits : (a b : Bool) → op (digit a) (digit b) ≡ digit (f a b)
  nothing : op 0 0 ≡ 0

number_of-pairs : (op : ℕ → ℕ → ℕ) (f : Bool → Bool → Bool) → IsBitwise op f → (xs ys : List Bool) → length ys ≡ length xs
    → number_of (pairs f xs ys) ≡ op (number_of xs) (number_of ys)
number_of-pairs op f is [] [] same = sym is.nothing
number_of-pairs op f is [] (y ∷ ys) same = absurd (omega arith)
number_of-pairs op f is (x ∷ xs) [] same = absurd (omega arith)
number_of-pairs op f is (x ∷ xs) (y ∷ ys) same =
    let rest = number_of-pairs op f is xs ys (omega arith) in
    let split : op (digit x + 2 * number_of xs) (digit y + 2 * number_of ys)
    ≡ op (number_of xs) (number_of ys) * 2 ^ 1 + op (digit x) (digit y) =
    (λ t. op (below x (number_of xs) t) (below y (number_of ys) t))
    ∙ is.block 1 (number_of xs) (number_of ys) (digit x) (digit y) (digit_below x) (digit_below y) in
    let e = is.digits x y in
    omega (arith, rest, split, e)

is_and : IsBitwise bit_and (λ a b. a && b)
is_and = record { block = and_block; digits = digits; nothing = refl }
  where
    digits : (a b : Bool) → bit_and (digit a) (digit b) ≡ digit (a && b)
    digits true true = refl
    digits true false = refl
    digits false true = refl
    digits false false = refl

is_or : IsBitwise bit_or (λ a b. a || b)
is_or = record { block = or_block; digits = digits; nothing = refl }
  where
    digits : (a b : Bool) → bit_or (digit a) (digit b) ≡ digit (a || b)
    digits true true = refl
    digits true false = refl
    digits false true = refl
    digits false false = refl

is_xor : IsBitwise bit_xor differ
is_xor = record { block = xor_block; digits = digits; nothing = refl }
  where
    digits : (a b : Bool) → bit_xor (digit a) (digit b) ≡ digit (differ a b)
    digits true true = refl
    digits true false = refl
    digits false true = refl
    digits false false = refl

module _ (xs ys : List Bool) (same : length ys ≡ length xs) where
  pub number_of-and : number_of (pairs (λ a b. a && b) xs ys) ≡ bit_and (number_of xs) (number_of ys)
  number_of-and = number_of-pairs bit_and (λ a b. a && b) is_and xs ys same

  pub number_of-or : number_of (pairs (λ a b. a || b) xs ys) ≡ bit_or (number_of xs) (number_of ys)
  number_of-or = number_of-pairs bit_or (λ a b. a || b) is_or xs ys same

  pub number_of-xor : number_of (pairs differ xs ys) ≡ bit_xor (number_of xs) (number_of ys)
  number_of-xor = number_of-pairs bit_xor differ is_xor xs ys same

-- a row of a product
pub number_of-row : (b : Bool) (xs : List Bool) → number_of (pairs (λ x y. x && y) xs (replicate (length xs) b)) ≡ digit b * number_of xs
number_of-row true [] = refl
number_of-row false [] = refl
number_of-row true (true ∷ xs) = let rest = number_of-row true xs in omega (arith, rest)
number_of-row true (false ∷ xs) = let rest = number_of-row true xs in omega (arith, rest)
number_of-row false (true ∷ xs) = let rest = number_of-row false xs in omega (arith, rest)
number_of-row false (false ∷ xs) = let rest = number_of-row false xs in omega (arith, rest)

-- the complement
pub number_of-not : (xs : List Bool) → number_of (pairs differ xs (replicate (length xs) true)) + number_of xs + 1 ≡ 2 ^ length xs
number_of-not [] = omega arith
number_of-not (true ∷ xs) = let rest = number_of-not xs in let e : 2 ^ suc (length xs) ≡ 2 * 2 ^ length xs = pow-succ' 2 (length xs) in omega (arith, rest, e)
number_of-not (false ∷ xs) = let rest = number_of-not xs in let e : 2 ^ suc (length xs) ≡ 2 * 2 ^ length xs = pow-succ' 2 (length xs) in omega (arith, rest, e)

-- ---- the choice of one of two words, by three gates a bit

chosen : (t x y : Bool) → differ (differ x y && t) y ≡ (if t then x else y)
chosen true true true = refl
chosen true true false = refl
chosen true false true = refl
chosen true false false = refl
chosen false true true = refl
chosen false true false = refl
chosen false false true = refl
chosen false false false = refl

pub pairs-choice : (t : Bool) (xs ys : List Bool) → length ys ≡ length xs
    → pairs differ (pairs (λ a b. a && b) (pairs differ xs ys) (replicate (length xs) t)) ys ≡ (if t then xs else ys)
pairs-choice true [] [] same = refl
pairs-choice false [] [] same = refl
pairs-choice t [] (y ∷ ys) same = absurd (omega arith)
pairs-choice t (x ∷ xs) [] same = absurd (omega arith)
pairs-choice true (x ∷ xs) (y ∷ ys) same = λ i. chosen true x y i ∷ pairs-choice true xs ys (omega arith) i
pairs-choice false (x ∷ xs) (y ∷ ys) same = λ i. chosen false x y i ∷ pairs-choice false xs ys (omega arith) i
