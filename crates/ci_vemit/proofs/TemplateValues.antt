-- What the templates' wires are where the operands are words: the result is the operation's.
use Rattle.std.proofs.Common.{◌≡◌, ℕ, suc, ◌+◌, ◌*◌, ◌/◌, ◌%◌, ◌^◌, ◌<◌, nat_lt, if◌then◌else◌, false, List, replicate, bit_xor, refl, ap, ◌∙◌, arith, inl, inr}
use Rattle.std.proofs.Math.Nat.{div-one}
use Rattle.std.proofs.lemmas.Bool.{cases_lt}
use Rattle.ci_word.specs.declared.arithmetic.Op.{Op}
use Rattle.ci_word.specs.declared.arithmetic.Op.TheVariants.{Add, Sub, Sll, Slt, Sltu, Xor, Srl, Sra, Or, And, Mul, Mulh, Mulhsu, Mulhu, Div, Divu, Rem, Remu}
use Rattle.ci_word.specs.Arithmetic.{operation}
use Rattle.ci_isa.specs.Effects.{is_division}
use Rattle.ci_verilog.specs.declared.vectors.Vector.{Vector}
use Rattle.ci_verilog.specs.declared.expressions.Operator.{Operator}
use Rattle.ci_verilog.specs.declared.expressions.Operator.TheVariants as operator
use Rattle.ci_verilog.specs.declared.expressions.Term.{Term}
use Rattle.ci_verilog.specs.declared.expressions.Expr.TheVariants.{One, Two}
use Rattle.ci_verilog.specs.Values.{of_width, above, joined, term_bits, operated}
use Rattle.ci_verilog.proofs.ValueLaws.{AreSettled}
use Rattle.ci_vemit.specs.Templates.{wire, whole, bits, signed, unsigned, widened, p, q, t, u, v, w, direct, shift, comparison, turned, high_half, template}
use Rattle.ci_vemit.proofs.SignLaws.{extended, extended_low, extended_high, signed_shift, signed_product, mixed_product, unsigned_product, signed_order}

-- ---- the bits of terms

low_bits : (n k : ℕ) → n / 2 ^ 0 % k ≡ n % k
low_bits n k = ap (λ m. m % k) (div-one n)

-- 32 copies of a word's top bit above the word
signed_bits_of : (n : ℕ) → n < 2 ^ 32
    → above (joined (replicate 32 (of_width 1 (n / 2 ^ 31 % 2 ^ 1)))) (above (of_width 32 n) (of_width 0 0)) ≡ of_width 64 (extended n)
signed_bits_of n word =
    elim (cases_lt n (2 ^ 31)) [
      | inl low ↦
          let none : n / 2 ^ 31 % 2 ^ 1 ≡ 0 = omega arith in
          ap (λ b. above (joined (replicate 32 (of_width 1 b))) (above (of_width 32 n) (of_width 0 0))) none
          ∙ ap (of_width 64) (let e = extended_low n low in let f : 0 * 2 ^ 32 + (n * 2 ^ 0 + 0) ≡ extended n = omega (arith, e) in f)
      | inr high ↦
          let one : n / 2 ^ 31 % 2 ^ 1 ≡ 1 = omega arith in
          ap (λ b. above (joined (replicate 32 (of_width 1 b))) (above (of_width 32 n) (of_width 0 0))) one
          ∙ ap (of_width 64) (let e = extended_high n high in let f : 4294967295 * 2 ^ 32 + (n * 2 ^ 0 + 0) ≡ extended n = omega (arith, e) in f)
    ]

module _ (names : List ℕ → Vector) where
  -- the name stands for this word
  abbrev pub IsWord : List ℕ → ℕ → Type 0
  IsWord name n = names name ≡ of_width 32 n

  signed_bits : (name : List ℕ) (n : ℕ) → n < 2 ^ 32 → IsWord name n → term_bits names (signed name) ≡ of_width 64 (extended n)
  signed_bits name n word is =
      ap (λ x. above (joined (replicate 32 (of_width 1 (x.value / 2 ^ 31 % 2 ^ 1)))) (above x (of_width 0 0))) is ∙ signed_bits_of n word

  unsigned_bits : (name : List ℕ) (n : ℕ) → IsWord name n → term_bits names (unsigned name) ≡ of_width 64 n
  unsigned_bits name n is =
      ap (λ x. above (of_width 32 0) (above x (of_width 0 0))) is
      ∙ ap (of_width 64) (let e : 0 * 2 ^ 32 + (n * 2 ^ 0 + 0) ≡ n = omega arith in e)

  widened_bits : (name : List ℕ) (n : ℕ) → names name ≡ of_width 1 n → term_bits names (widened name) ≡ of_width 32 n
  widened_bits name n is =
      ap (λ x. above (of_width 31 0) (above x (of_width 0 0))) is
      ∙ ap (of_width 32) (let e : 0 * 2 ^ 1 + (n * 2 ^ 0 + 0) ≡ n = omega arith in e)

  amount_bits : (name : List ℕ) (n : ℕ) → IsWord name n → term_bits names (bits name 4 0) ≡ of_width 5 (n % 32)
  amount_bits name n is = ap (λ x. of_width 5 (x.value / 2 ^ 0 % 2 ^ 5)) is ∙ ap (of_width 5) (low_bits n 32)

  -- ---- the wires of a template

  direct_value : (o : Operator) (m n : ℕ) → IsWord p m → IsWord q n → AreSettled (direct o) names
      → IsWord t (operated o (of_width 32 m) (of_width 32 n))
  direct_value o m n is_p is_q settled =
      settled (wire t 32 (Two o (whole p) (whole q))) (0, omega arith, refl) ∙ (λ i. of_width 32 (operated o (is_p i) (is_q i)))

  shift_value : (o : Operator) (m n : ℕ) → IsWord p m → IsWord q n → AreSettled (shift o) names
      → IsWord t (operated o (of_width 32 m) (of_width 5 (n % 32)))
  shift_value o m n is_p is_q settled =
      settled (wire t 32 (Two o (whole p) (bits q 4 0))) (0, omega arith, refl)
      ∙ (λ i. of_width 32 (operated o (is_p i) (amount_bits q n is_q i)))

  sra_value : (m n : ℕ) → m < 2 ^ 32 → IsWord p m → IsWord q n → AreSettled (template Sra) names → IsWord t (operation Sra m n)
  sra_value m n word is_p is_q settled =
      let wide : names w ≡ of_width 64 (extended m / 2 ^ (n % 32)) =
      settled (wire w 64 (Two operator.Right (signed p) (bits q 4 0))) (0, omega arith, refl)
      ∙ (λ i. of_width 64 (operated operator.Right (signed_bits p m word is_p i) (amount_bits q n is_q i))) in
      settled (wire t 32 (One (bits w 31 0))) (1, omega arith, refl)
      ∙ (λ i. of_width 32 ((wide i).value / 2 ^ 0 % 2 ^ 32))
      ∙ ap (of_width 32) (low_bits (extended m / 2 ^ (n % 32)) (2 ^ 32) ∙ signed_shift m (n % 32) word (omega arith))

  comparison_value : (l r : List ℕ) (m n : ℕ) → IsWord l m → IsWord r n → AreSettled (comparison l r) names
      → IsWord t (if nat_lt m n then 1 else 0)
  comparison_value l r m n is_l is_r settled =
      let bit : names w ≡ of_width 1 (if nat_lt m n then 1 else 0) =
      settled (wire w 1 (Two operator.Less (whole l) (whole r))) (0, omega arith, refl)
      ∙ (λ i. of_width 1 (operated operator.Less (is_l i) (is_r i))) in
      settled (wire t 32 (One (widened w))) (1, omega arith, refl)
      ∙ ap (λ x. of_width 32 x.value) (widened_bits w (if nat_lt m n then 1 else 0) bit)

  slt_value : (m n : ℕ) → m < 2 ^ 32 → n < 2 ^ 32 → IsWord p m → IsWord q n → AreSettled (template Slt) names
      → IsWord t (operation Slt m n)
  slt_value m n word_m word_n is_p is_q settled =
      let is_u : IsWord u (bit_xor m 2147483648) =
      settled (wire u 32 (turned p)) (0, omega arith, refl) ∙ (λ i. of_width 32 (bit_xor (is_p i).value 2147483648)) in
      let is_v : IsWord v (bit_xor n 2147483648) =
      settled (wire v 32 (turned q)) (1, omega arith, refl) ∙ (λ i. of_width 32 (bit_xor (is_q i).value 2147483648)) in
      comparison_value u v (bit_xor m 2147483648) (bit_xor n 2147483648) is_u is_v
      (λ x is. settled x (suc (suc is.0), omega (arith, is.1), is.2))
      ∙ ap (λ b. of_width 32 (if b then 1 else 0)) (signed_order m n word_m word_n)

  high_value : (l r : Term) (m n : ℕ) → term_bits names l ≡ of_width 64 m → term_bits names r ≡ of_width 64 n
      → AreSettled (high_half l r) names → IsWord t (m * n % 2 ^ 64 / 2 ^ 32 % 2 ^ 32)
  high_value l r m n is_l is_r settled =
      let wide : names w ≡ of_width 64 (m * n % 2 ^ 64) =
      settled (wire w 64 (Two operator.Times l r)) (0, omega arith, refl) ∙ (λ i. of_width 64 (operated operator.Times (is_l i) (is_r i))) in
      settled (wire t 32 (One (bits w 63 32))) (1, omega arith, refl) ∙ (λ i. of_width 32 ((wide i).value / 2 ^ 32 % 2 ^ 32))

  -- the result of each template is that of its operation
  pub template_value : (op : Op) (m n : ℕ) → is_division op ≡ false → m < 2 ^ 32 → n < 2 ^ 32 → IsWord p m → IsWord q n
      → AreSettled (template op) names → IsWord t (operation op m n)
  template_value Add m n known word_m word_n is_p is_q settled = direct_value operator.Plus m n is_p is_q settled
  template_value Sub m n known word_m word_n is_p is_q settled = direct_value operator.Minus m n is_p is_q settled
  template_value Mul m n known word_m word_n is_p is_q settled = direct_value operator.Times m n is_p is_q settled
  template_value And m n known word_m word_n is_p is_q settled = direct_value operator.And m n is_p is_q settled
  template_value Or m n known word_m word_n is_p is_q settled = direct_value operator.Or m n is_p is_q settled
  template_value Xor m n known word_m word_n is_p is_q settled = direct_value operator.Xor m n is_p is_q settled
  template_value Sll m n known word_m word_n is_p is_q settled = shift_value operator.Left m n is_p is_q settled
  template_value Srl m n known word_m word_n is_p is_q settled = shift_value operator.Right m n is_p is_q settled
  template_value Sra m n known word_m word_n is_p is_q settled = sra_value m n word_m is_p is_q settled
  template_value Sltu m n known word_m word_n is_p is_q settled = comparison_value p q m n is_p is_q settled
  template_value Slt m n known word_m word_n is_p is_q settled = slt_value m n word_m word_n is_p is_q settled
  template_value Mulhu m n known word_m word_n is_p is_q settled =
      high_value (unsigned p) (unsigned q) m n (unsigned_bits p m is_p) (unsigned_bits q n is_q) settled
      ∙ ap (of_width 32) (unsigned_product m n word_m word_n)
  template_value Mulh m n known word_m word_n is_p is_q settled =
      high_value (signed p) (signed q) (extended m) (extended n) (signed_bits p m word_m is_p) (signed_bits q n word_n is_q) settled
      ∙ ap (of_width 32) (signed_product m n word_m word_n)
  template_value Mulhsu m n known word_m word_n is_p is_q settled =
      high_value (signed p) (unsigned q) (extended m) n (signed_bits p m word_m is_p) (unsigned_bits q n is_q) settled
      ∙ ap (of_width 32) (mixed_product m n word_m word_n)
  template_value Div m n known word_m word_n is_p is_q settled = absurd cc
  template_value Divu m n known word_m word_n is_p is_q settled = absurd cc
  template_value Rem m n known word_m word_n is_p is_q settled = absurd cc
  template_value Remu m n known word_m word_n is_p is_q settled = absurd cc
