-- What steps make of words that are the bits of vectors, and which places they leave as they are.
use Rattle.std.specs.Prelude.{◌≡◌, ℕ, zero, suc, ◌+◌, ◌-◌, ◌*◌, ◌/◌, ◌%◌, ◌^◌, ◌<◌, ◌≤◌, ◌==◌, if◌then◌else◌, nat_lt, List, [], ◌∷◌, ◌++◌, length, take, replicate}
use Rattle.std.specs.List.{slice_index_or}
use Rattle.std.specs.Prelude.{bit_and, bit_or, bit_xor, slice_index, slice_set}
use Rattle.std.proofs.Common.{refl, sym, ap, ◌∙◌, subst, arith}
use Rattle.std.proofs.Math.Nat.{mod-eq_of_lt, pow-le-pow_right, add-mul-mod_self_right, add-mod-mod, mod-add-mod, mul-add}
use Rattle.std.proofs.Math.Pow.{mod-mod-pow}
use Rattle.std.proofs.Math.Seq.{take-suc}
use Rattle.std.proofs.lemmas.Nat.{and_mask, shl_whole, pow-add, pow_pos, mod_below, mul-mod_second}
use Rattle.std.proofs.lemmas.List.{length-set, length-take-le, get_or-set_other}
use Rattle.ci_verilog.specs.declared.vectors.Vector.{Vector}
use Rattle.ci_verilog.specs.declared.expressions.Operator.{Operator}
use Rattle.ci_verilog.specs.declared.expressions.Operator.TheVariants as operator
use Rattle.ci_verilog.specs.Values.{of_width, above, joined, operated}
use Rattle.ci_verilog.proofs.VectorLaws.{above_in_range, in_64, copies_are_wide, copies_in_range}
use Rattle.ci_plan.specs.declared.steps.Step.{Step}
use Rattle.ci_plan.specs.declared.steps.Step.TheVariants.{Times, Choose, Above, Signed, SignedTimes}
use Rattle.ci_plan.specs.private.Factors.{factor}
use Rattle.ci_plan.specs.private.Operators.{step_of, AgreeFor, widened_bits}
use Rattle.ci_plan.specs.private.Steps.{signed_word, step_value, words_after}

-- ---- words of 64 bits

pub masked : (n w : ℕ) → w < 64 → bit_and n (1 * 2 ^ w % 2 ^ 64 - 1) ≡ n % 2 ^ w
masked n w narrow =
    let e : 1 * 2 ^ w % 2 ^ 64 ≡ 2 ^ w = shl_whole 1 1 w 64 (omega arith) (omega arith) ∙ (omega arith) in
    ap (λ m. bit_and n (m - 1)) e ∙ and_mask n w

pub whole_word : (n w : ℕ) → n < 2 ^ 64 → 64 ≤ w → n ≡ n % 2 ^ w
whole_word n w word wide =
    sym (mod-eq_of_lt (let e : 2 ^ 64 ≤ 2 ^ w = pow-le-pow_right {n = 2} (omega arith) wide in omega (arith, e)))

-- a word's lowest bits are those of the number
pub twice : (n w : ℕ) → w ≤ 64 → n % 2 ^ 64 % 2 ^ w ≡ n % 2 ^ w
twice n w narrow =
    subst (λ k. n % 2 ^ k % 2 ^ w ≡ n % 2 ^ w) (let e : (64 - w) + w ≡ 64 = omega arith in e) (mod-mod-pow n (64 - w) w)

-- a difference of 64 bits has the lowest bits of one of fewer
less_bits : (l r w : ℕ) → w ≤ 64 → r < 2 ^ w → (l + 2 ^ 64 - r) % 2 ^ 64 % 2 ^ w ≡ (l + 2 ^ w - r) % 2 ^ w
less_bits l r w narrow below =
    let parts : 2 ^ 64 ≡ 2 ^ (64 - w) * 2 ^ w =
    ap (λ k. 2 ^ k) (let e : 64 ≡ (64 - w) + w = omega arith in e) ∙ pow-add 2 (64 - w) w in
    let some : 0 < 2 ^ (64 - w) = pow_pos (64 - w) in
    let split : 2 ^ (64 - w) * 2 ^ w ≡ (2 ^ (64 - w) - 1) * 2 ^ w + 2 ^ w = row (2 ^ (64 - w)) (2 ^ w) some in
    let e : l + 2 ^ 64 - r ≡ (l + 2 ^ w - r) + (2 ^ (64 - w) - 1) * 2 ^ w = omega (arith, parts, split, below) in
    twice (l + 2 ^ 64 - r) w narrow ∙ ap (λ k. k % 2 ^ w) e ∙ add-mul-mod_self_right (l + 2 ^ w - r) (2 ^ (64 - w) - 1) (2 ^ w)
  where
    row : (a b : ℕ) → 0 < a → a * b ≡ (a - 1) * b + b
    row zero b some = elim some [ ]
    row (suc a) b some = let e : suc a * b ≡ a * b + b = grind arith in let f : suc a - 1 ≡ a = omega arith in e ∙ ap (λ n. n * b + b) (sym f)

-- ---- vectors at places

-- the vector stands at the place
pub record IsAt (words : List ℕ) (v : Vector) (place : ℕ) : Type 0 where
  pub value_is : slice_index words place ≡ v.value
  pub in_range : v.value < 2 ^ v.width
  pub narrow : v.width ≤ 64

module _ (words : List ℕ) (u v : Vector) (l r : ℕ) (at_l : IsAt words u l) (at_r : IsAt words v r) where
  pub operator_steps : (o : Operator) → AgreeFor o u.width v.width → step_value words (step_of o l r u.width) ≡ operated o u v
  operator_steps operator.Plus agree =
      twice (slice_index words l + slice_index words r) u.width at_l.narrow
      ∙ (λ t. (at_l.value_is t + at_r.value_is t) % 2 ^ u.width)
  operator_steps operator.Minus agree =
      (λ t. (at_l.value_is t + 2 ^ 64 - at_r.value_is t) % 2 ^ 64 % 2 ^ u.width)
      ∙ less_bits u.value v.value u.width at_l.narrow (subst (λ w. v.value < 2 ^ w) (sym agree) at_r.in_range)
  operator_steps operator.Times agree =
      twice (slice_index words l * slice_index words r) u.width at_l.narrow
      ∙ (λ t. at_l.value_is t * at_r.value_is t % 2 ^ u.width)
  operator_steps operator.And agree = λ t. bit_and (at_l.value_is t) (at_r.value_is t)
  operator_steps operator.Or agree = λ t. bit_or (at_l.value_is t) (at_r.value_is t)
  operator_steps operator.Xor agree = λ t. bit_xor (at_l.value_is t) (at_r.value_is t)
  operator_steps operator.Left agree = λ t. at_l.value_is t * 2 ^ (at_r.value_is t) % 2 ^ u.width
  operator_steps operator.Right agree = λ t. at_l.value_is t / 2 ^ (at_r.value_is t)
  operator_steps operator.Less agree = λ t. if nat_lt (at_l.value_is t) (at_r.value_is t) then 1 else 0

  pub join_step : u.width + v.width ≤ 64 → step_value words (Above l r v.width) ≡ (above u v).value
  join_step narrow =
      let below : u.value * 2 ^ v.width + v.value < 2 ^ 64 =
      in_64 (above u v).value (u.width + v.width) (above_in_range u v at_l.in_range at_r.in_range) narrow in
      let first : u.value * 2 ^ v.width % 2 ^ 64 ≡ u.value * 2 ^ v.width = mod-eq_of_lt (omega (arith, below)) in
      (λ t. (at_l.value_is t * 2 ^ v.width % 2 ^ 64 + at_r.value_is t) % 2 ^ 64)
      ∙ ap (λ n. (n + v.value) % 2 ^ 64) first
      ∙ mod-eq_of_lt below

pub choice_step : (words : List ℕ) (u v w : Vector) (t f s : ℕ) → IsAt words u t → IsAt words v f → IsAt words w s
    → step_value words (Choose t f s) ≡ (if u.value == 0 then w.value else v.value)
choice_step words u v w t f s at_t at_f at_s = λ i. if at_t.value_is i == 0 then at_s.value_is i else at_f.value_is i

copies_value : (k : ℕ) (v : Vector) → v.value * factor k v.width ≡ (joined (replicate k v)).value
copies_value zero v = omega arith
copies_value (suc k) v =
    let e = copies_value k v in
    let wide = copies_are_wide k v in
    let f : v.value * (2 ^ (k * v.width) + factor k v.width) ≡ v.value * 2 ^ (k * v.width) + v.value * factor k v.width =
    mul-add v.value (2 ^ (k * v.width)) (factor k v.width) in
    let g : v.value * 2 ^ (k * v.width) ≡ v.value * 2 ^ (joined (replicate k v)).width = ap (λ n. v.value * 2 ^ n) (sym wide) in
    f ∙ (λ t. g t + e t)

pub copies_step : (words : List ℕ) (v : Vector) (place number count : ℕ) → IsAt words v place
    → slice_index words number ≡ factor count v.width % 2 ^ 64 → count * v.width ≤ 64
    → step_value words (Times place number 64) ≡ (joined (replicate count v)).value
copies_step words v place number count at is narrow =
    let below : (joined (replicate count v)).value < 2 ^ 64 =
    in_64 (joined (replicate count v)).value (joined (replicate count v)).width (copies_in_range count v at.in_range)
    (subst (λ n. n ≤ 64) (sym (copies_are_wide count v)) narrow) in
    twice (slice_index words place * slice_index words number) 64 (omega arith)
    ∙ (λ t. at.value_is t * is t % 2 ^ 64)
    ∙ mul-mod_second v.value (factor count v.width) (2 ^ 64)
    ∙ ap (λ n. n % 2 ^ 64) (copies_value count v)
    ∙ mod-eq_of_lt below

pub signed_step : (words : List ℕ) (v : Vector) (place : ℕ) → IsAt words v place → v.width ≡ 32
    → step_value words (Signed place) ≡ (widened_bits v).value
signed_step words v place at wide =
    let bit = v.value / 2 ^ 31 % 2 in
    let below : v.value < 2 ^ 32 = subst (λ w. v.value < 2 ^ w) wide at.in_range in
    let one : bit < 2 = mod_below (v.value / 2 ^ 31) 2 (omega arith) in
    let copied : bit * factor 32 1 ≡ (joined (replicate 32 (of_width 1 bit))).value = copies_value 32 (of_width 1 bit) in
    (λ t. signed_word (at.value_is t))
    ∙ mod-eq_of_lt (omega (arith, below, one))
    ∙ (let e : v.value + bit * (2 ^ 64 - 2 ^ 32) ≡ bit * factor 32 1 * 2 ^ 32 + v.value = omega arith in e)
    ∙ (λ t. copied t * 2 ^ (sym wide t) + v.value)

pub signed_product_step : (words : List ℕ) (u v : Vector) (l r : ℕ) → IsAt words u l → IsAt words v r → u.width ≡ 32
    → v.width ≡ 32 → step_value words (SignedTimes l r) ≡ operated operator.Times (widened_bits u) (widened_bits v)
signed_product_step words u v l r at_l at_r wide_u wide_v =
    let copied : (joined (replicate 32 (of_width 1 (u.value / 2 ^ 31 % 2)))).width ≡ 32 * 1 =
    copies_are_wide 32 (of_width 1 (u.value / 2 ^ 31 % 2)) in
    let wide : 64 ≡ (widened_bits u).width = omega (arith, copied, wide_u) in
    (λ t. signed_step words u l at_l wide_u t * signed_step words v r at_r wide_v t % 2 ^ (wide t))

-- ---- the factor of copies

pub factor_next : (k w sum : ℕ) → sum ≡ factor k w % 2 ^ 64
    → (sum + 1 * 2 ^ (k * w) % 2 ^ 64) % 2 ^ 64 ≡ factor (k + 1) w % 2 ^ 64
factor_next k w sum is =
    let more : factor k w + 1 * 2 ^ (k * w) ≡ factor (k + 1) w =
    (omega arith) ∙ ap (λ n. factor n w) (let e : suc k ≡ k + 1 = omega arith in e) in
    add-mod-mod sum (1 * 2 ^ (k * w)) (2 ^ 64)
    ∙ ap (λ n. (n + 1 * 2 ^ (k * w)) % 2 ^ 64) is
    ∙ mod-add-mod (factor k w) (2 ^ 64) (1 * 2 ^ (k * w))
    ∙ ap (λ n. n % 2 ^ 64) more

-- ---- steps one after the other

pub last_step : (words : List ℕ) (place : ℕ) (steps : List Step) (step : Step)
    → words_after words place (steps ++ step ∷ [])
    ≡ slice_set (words_after words place steps) (place + length steps) (step_value (words_after words place steps) step)
last_step words place [] step = ap (λ p. slice_set words p (step_value words step)) (let e : place ≡ place + 0 = omega arith in e)
last_step words place (s ∷ steps) step =
    let now = slice_set words place (step_value words s) in
    last_step now (place + 1) steps step
    ∙ ap (λ p. slice_set (words_after now (place + 1) steps) p (step_value (words_after now (place + 1) steps) step))
    (let e : place + 1 + length steps ≡ place + suc (length steps) = omega arith in e)

pub after_more : (words : List ℕ) (place : ℕ) (steps more : List Step)
    → words_after words place (steps ++ more) ≡ words_after (words_after words place steps) (place + length steps) more
after_more words place [] more = ap (λ p. words_after words p more) (let e : place ≡ place + 0 = omega arith in e)
after_more words place (s ∷ steps) more =
    let now = slice_set words place (step_value words s) in
    after_more now (place + 1) steps more
    ∙ ap (λ p. words_after (words_after now (place + 1) steps) p more)
    (let e : place + 1 + length steps ≡ place + suc (length steps) = omega arith in e)

pub words_stay : (words : List ℕ) (place : ℕ) (steps : List Step) → length (words_after words place steps) ≡ length words
words_stay words place [] = refl
words_stay words place (s ∷ steps) =
    words_stay (slice_set words place (step_value words s)) (place + 1) steps ∙ length-set words place (step_value words s)

-- before the first step's place and behind the last one's the words stay
pub untouched : (words : List ℕ) (place : ℕ) (steps : List Step) (p : ℕ) → (place ≤ p → place + length steps ≤ p)
    → slice_index (words_after words place steps) p ≡ slice_index words p
untouched words place [] p outside = refl
untouched words place (s ∷ steps) p outside =
    untouched (slice_set words place (step_value words s)) (place + 1) steps p
    (λ past. let e : place + suc (length steps) ≤ p = outside (omega (arith, past)) in omega (arith, e))
    ∙ get_or-set_other words place p (step_value words s) 0
    (λ same. let e : place + suc (length steps) ≤ p = outside (omega (arith, same)) in absurd (omega (arith, e, same)))

-- a step more, as the code makes it
pub made_more : (words now : List ℕ) (steps : List Step) (i place value : ℕ) (d : Step)
    → now ≡ words_after words 5 (take i steps) → i < length steps → place ≡ 5 + i
    → value ≡ step_value now (slice_index_or steps i d) → slice_set now place value ≡ words_after words 5 (take (i + 1) steps)
made_more words now steps i place value d made below there value_is =
    let step = slice_index_or steps i d in
    let before = words_after words 5 (take i steps) in
    let whole : length (take i steps) ≡ i = length-take-le i steps (omega (arith, below)) in
    let more : take (i + 1) steps ≡ take i steps ++ step ∷ [] =
    ap (λ n. take n steps) (let e : i + 1 ≡ suc i = omega arith in e) ∙ take-suc steps i d below in
    let at : place ≡ 5 + length (take i steps) = omega (arith, there, whole) in
    (λ t. slice_set (made t) (at t) ((value_is ∙ ap (λ ws. step_value ws step) made) t))
    ∙ sym (last_step words 5 (take i steps) step)
    ∙ ap (words_after words 5) (sym more)
