-- Laws of the numbers that bits spell.
use Rattle.std.specs.Prelude.{◌≡◌, ℕ, suc, ◌+◌, ◌*◌, ◌/◌, ◌%◌, ◌^◌, ◌<◌, ◌≤◌}
use Rattle.std.specs.Prelude.{Bool, true, false, ◌&&◌, ◌||◌, List, [], ◌∷◌, ◌++◌, length}
use Rattle.std.specs.List.{slice_index_or}
use Rattle.std.proofs.Common.{refl, sym, ap, ◌∙◌, subst, arith, take, drop}
use Rattle.std.proofs.lemmas.List.{take_more, take-append-drop, length-take-le}
use Rattle.std.proofs.lemmas.Nat.{div-mul-add, mod-mul-add}
use Rattle.std.proofs.Math.Nat.{pow-succ', mul_comm}
use Rattle.ci_netlist.specs.declared.bits.Bit.{Bit}
use Rattle.ci_netlist.specs.declared.bits.Bit.TheVariants.{Zero}
use Rattle.ci_netlist.specs.Netlists.{differ, digit, spelt}
use Rattle.ci_netlist.proofs.NumberLaws.{twice_power, power_more, carried_on}

-- the sum and the carry of three bits
pub full_sum : (a b c : Bool)
    → digit (differ (differ a b) c) + 2 * digit ((a && b) || (differ a b && c)) ≡ digit a + digit b + digit c
full_sum true true true = refl
full_sum true true false = refl
full_sum true false true = refl
full_sum true false false = refl
full_sum false true true = refl
full_sum false true false = refl
full_sum false false true = refl
full_sum false false false = refl

-- the same of bits with names
pub full_adder_sum : (a b c half low both through high : Bool) → half ≡ differ a b → low ≡ differ half c
    → both ≡ (a && b)
    → through ≡ (half && c) → high ≡ (both || through) → digit low + 2 * digit high ≡ digit a + digit b + digit c
full_adder_sum a b c half low both through high e f g h i =
    let first : low ≡ differ (differ a b) c = f ∙ ap (λ x. differ x c) e in
    let last : high ≡ ((a && b) || (differ a b && c)) = i ∙ (λ t. g t || (h ∙ ap (λ x. x && c) e) t) in
    (λ t. digit (first t) + 2 * digit (last t)) ∙ full_sum a b c

pub digit_below : (b : Bool) → digit b < 2
digit_below true = omega arith
digit_below false = omega arith

module _ (holds : Bit → Bool) where
  pub spelt-append : (low high : List Bit)
      → spelt holds (low ++ high) ≡ spelt holds low + 2 ^ length low * spelt holds high
  spelt-append [] high = omega arith
  spelt-append (b ∷ low) high =
      let rest = spelt-append low high in
      let e = twice_power (length low) (spelt holds high) in
      omega (arith, rest, e)

  pub spelt_push : (bits : List Bit) (b : Bit)
      → spelt holds (bits ++ b ∷ []) ≡ spelt holds bits + 2 ^ length bits * digit (holds b)
  spelt_push bits b = spelt-append bits (b ∷ []) ∙ ap (λ n. spelt holds bits + 2 ^ length bits * n) (omega arith)

  pub spelt_below : (bits : List Bit) → spelt holds bits < 2 ^ length bits
  spelt_below [] = omega arith
  spelt_below (b ∷ bits) =
      let rest = spelt_below bits in
      let e = digit_below (holds b) in
      let f : 2 ^ suc (length bits) ≡ 2 * 2 ^ length bits = pow-succ' 2 (length bits) in
      omega (arith, rest, e, f)

  pub spelt_more : (bits : List Bit) (k : ℕ) (d : Bit) → k < length bits
      → spelt holds (take (k + 1) bits) ≡ spelt holds (take k bits) + 2 ^ k * digit (holds (slice_index_or bits k d))
  spelt_more bits k d below =
      ap (spelt holds) (take_more bits k d below) ∙ spelt_push (take k bits) (slice_index_or bits k d)
      ∙ ap (λ n. spelt holds (take k bits) + 2 ^ n * digit (holds (slice_index_or bits k d)))
      (length-take-le k bits (omega arith))

  -- a step of the adder
  pub added_more : (left right bits : List Bit) (k : ℕ) (sum carry next first l r : Bit) → length bits ≡ k
      → k < length left → k < length right → l ≡ slice_index_or left k Zero → r ≡ slice_index_or right k Zero
      → digit (holds sum) + 2 * digit (holds next) ≡ digit (holds l) + digit (holds r) + digit (holds carry)
      → spelt holds bits + 2 ^ k * digit (holds carry)
      ≡ spelt holds (take k left) + spelt holds (take k right) + digit (holds first)
      → spelt holds (bits ++ sum ∷ []) + 2 ^ (k + 1) * digit (holds next)
      ≡ spelt holds (take (k + 1) left) + spelt holds (take (k + 1) right) + digit (holds first)
  added_more left right bits k sum carry next first l r wide in_left in_right is_l is_r full before =
      let e =
      carried_on (2 ^ k) (spelt holds bits) (spelt holds (take k left)) (spelt holds (take k right))
      (digit (holds first))
      (digit (holds l)) (digit (holds r)) (digit (holds carry)) (digit (holds sum)) (digit (holds next)) full before in
      let f : spelt holds (bits ++ sum ∷ []) ≡ spelt holds bits + 2 ^ k * digit (holds sum) =
      spelt_push bits sum ∙ ap (λ n. spelt holds bits + 2 ^ n * digit (holds sum)) wide in
      let g = power_more k (digit (holds next)) in
      let h : spelt holds (take (k + 1) left) ≡ spelt holds (take k left) + 2 ^ k * digit (holds l) =
      spelt_more left k Zero in_left ∙ ap (λ b. spelt holds (take k left) + 2 ^ k * digit (holds b)) (sym is_l) in
      let i : spelt holds (take (k + 1) right) ≡ spelt holds (take k right) + 2 ^ k * digit (holds r) =
      spelt_more right k Zero in_right ∙ ap (λ b. spelt holds (take k right) + 2 ^ k * digit (holds b)) (sym is_r) in
      omega (arith, e, f, g, h, i)

  -- the low and the high part of bits
  pub spelt_parts : (k : ℕ) (bits : List Bit) → k ≤ length bits
      → spelt holds bits ≡ spelt holds (take k bits) + 2 ^ k * spelt holds (drop k bits)
  spelt_parts k bits within =
      ap (spelt holds) (sym (take-append-drop k bits)) ∙ spelt-append (take k bits) (drop k bits)
      ∙ ap (λ n. spelt holds (take k bits) + 2 ^ n * spelt holds (drop k bits)) (length-take-le k bits within)

  spelt_take_below : (k : ℕ) (bits : List Bit) → k ≤ length bits → spelt holds (take k bits) < 2 ^ k
  spelt_take_below k bits within =
      subst (λ n. spelt holds (take k bits) < 2 ^ n) (length-take-le k bits within) (spelt_below (take k bits))

  parts_turned : (k : ℕ) (bits : List Bit) → k ≤ length bits
      → spelt holds bits ≡ spelt holds (drop k bits) * 2 ^ k + spelt holds (take k bits)
  parts_turned k bits within =
      let e = spelt_parts k bits within in
      let f : spelt holds (drop k bits) * 2 ^ k ≡ 2 ^ k * spelt holds (drop k bits) =
      mul_comm (spelt holds (drop k bits)) (2 ^ k) in
      omega (arith, e, f)

  pub spelt-take : (k : ℕ) (bits : List Bit) → k ≤ length bits → spelt holds (take k bits) ≡ spelt holds bits % 2 ^ k
  spelt-take k bits within =
      sym (ap (λ n. n % 2 ^ k) (parts_turned k bits within)
      ∙ mod-mul-add (spelt holds (drop k bits)) (2 ^ k) (spelt holds (take k bits)) (spelt_take_below k bits within))

  pub spelt-drop : (k : ℕ) (bits : List Bit) → k ≤ length bits → spelt holds (drop k bits) ≡ spelt holds bits / 2 ^ k
  spelt-drop k bits within =
      sym (ap (λ n. n / 2 ^ k) (parts_turned k bits within)
      ∙ div-mul-add (spelt holds (drop k bits)) (2 ^ k) (spelt holds (take k bits)) (spelt_take_below k bits within))
