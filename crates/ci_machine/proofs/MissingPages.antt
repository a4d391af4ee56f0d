-- How many page numbers are missing, also where one more is among them and where one was taken away.
use Rattle.std.proofs.Common.{◌≡◌, ℕ, zero, suc, ◌+◌, ◌-◌, ◌<◌, ◌≤◌, inl, inr, Bool, true, false, cond, not}
use Rattle.std.proofs.Common.{ap, ◌∙◌, arith}
use Rattle.std.proofs.lemmas.Bool.{cases_eq}
use Rattle.std.proofs.lemmas.Bool.Decides.{nat_tests}
use Rattle.ci_word.specs.Numbers.{count_below}
use Rattle.ci_word.proofs.NumberLaws.{count_below-le, count_below-same}
use Rattle.ci_machine.specs.PageTables.{missing, with_pages, without_pages}
use Rattle.ci_machine.specs.Programs.{lies_in}

pub missing_few : (numbers : ℕ → Bool) (low high : ℕ) → missing numbers low high ≤ high - low
missing_few numbers low high = count_below-le (high - low) (λ k. not (numbers (low + k)))

-- without one of them, one more is missing where it lies
module _ (numbers : ℕ → Bool) (n low : ℕ) (there : numbers n ≡ true) where
  abbrev Fewer : ℕ → ℕ
  Fewer m = count_below m (λ k. not (without_pages numbers n (n + 1) (low + k)))

  abbrev All : ℕ → ℕ
  All m = count_below m (λ k. not (numbers (low + k)))

  one_out : (m : ℕ) → Fewer m ≡ All m + cond (lies_in low (low + m) n) 1 0
  unfolding count_below
  one_out zero = grind (arith, nat_tests)
  one_out (suc m) =
      let rest = one_out m in
      elim (cases_eq (low + m) n) [
        | inl same ↦ at_it m same rest
        | inr apart ↦ beside_it m apart rest
      ]
    where
      counted : (fewer all : ℕ) (before gone was here : Bool) → fewer ≡ all + cond before 1 0 → before ≡ false → gone ≡ false → was ≡ true
          → here ≡ true → fewer + cond (not gone) 1 0 ≡ all + cond (not was) 1 0 + cond here 1 0
      counted fewer all before gone was here rest b g w h = rw (g, w, h) (omega (arith, rest, ap {B = ℕ} (λ (t : Bool). cond t 1 0) b))

      moved : (fewer all last : ℕ) (before here : Bool) → fewer ≡ all + cond before 1 0 → here ≡ before
          → fewer + last ≡ all + last + cond here 1 0
      moved fewer all last before here rest h = omega (arith, rest, ap {B = ℕ} (λ (t : Bool). cond t 1 0) h)

      at_it : (m : ℕ) → low + m ≡ n → Fewer m ≡ All m + cond (lies_in low (low + m) n) 1 0
          → Fewer m + cond (not (without_pages numbers n (n + 1) (low + m))) 1 0
          ≡ All m + cond (not (numbers (low + m))) 1 0 + cond (lies_in low (low + suc m) n) 1 0
      at_it m same rest =
          let was : numbers (low + m) ≡ true = ap numbers same ∙ there in
          let before : lies_in low (low + m) n ≡ false = grind (arith, nat_tests) in
          let here : lies_in low (low + suc m) n ≡ true = grind (arith, nat_tests) in
          let gone : without_pages numbers n (n + 1) (low + m) ≡ false = grind (arith, nat_tests) in
          counted (Fewer m) (All m) _ _ _ _ rest before gone was here

      beside_it : (m : ℕ) → (low + m ≡ n → ⊥) → Fewer m ≡ All m + cond (lies_in low (low + m) n) 1 0
          → Fewer m + cond (not (without_pages numbers n (n + 1) (low + m))) 1 0
          ≡ All m + cond (not (numbers (low + m))) 1 0 + cond (lies_in low (low + suc m) n) 1 0
      beside_it m apart rest =
          let kept : without_pages numbers n (n + 1) (low + m) ≡ numbers (low + m) = grind (arith, nat_tests) in
          let same : lies_in low (low + suc m) n ≡ lies_in low (low + m) n = grind (arith, nat_tests) in
          (λ k. Fewer m + cond (not (kept k)) 1 0) ∙ moved (Fewer m) (All m) (cond (not (numbers (low + m))) 1 0) _ _ rest same

  pub missing_more : (high : ℕ) → missing (without_pages numbers n (n + 1)) low high ≤ missing numbers low high + 1
  missing_more high = at_most (Fewer (high - low)) (All (high - low)) (lies_in low (low + (high - low)) n) (one_out (high - low))
    where
      at_most : (a b : ℕ) (is : Bool) → a ≡ b + cond is 1 0 → a ≤ b + 1
      at_most a b true e = omega arith
      at_most a b false e = omega arith

-- with one more, one fewer is missing where it lies
pub missing_fewer : (numbers : ℕ → Bool) (n low high : ℕ) → numbers n ≡ false → low ≤ n → n < high
    → missing numbers low high ≡ missing (with_pages numbers n (n + 1)) low high + 1
missing_fewer numbers n low high none from to =
    let more = with_pages numbers n (n + 1) in
    let there : more n ≡ true = grind (arith, nat_tests) in
    count_below-same (high - low) (λ k. not (numbers (low + k))) (λ k. not (without_pages more n (n + 1) (low + k)))
    (λ k lt. ap not (back (low + k)))
    ∙ one_out more n low there (high - low)
    ∙ ap (λ (b : Bool). missing more low high + cond b 1 0) inside
  where
    inside : lies_in low (low + (high - low)) n ≡ true
    inside = grind (arith, nat_tests)

    out : (m : ℕ) → m ≡ n → false ≡ without_pages (with_pages numbers n (n + 1)) n (n + 1) m
    out m same = grind (arith, nat_tests)

    back : (m : ℕ) → numbers m ≡ without_pages (with_pages numbers n (n + 1)) n (n + 1) m
    back m = elim (cases_eq m n) [
      | inl same ↦ ap numbers same ∙ none ∙ out m same
      | inr apart ↦ grind (arith, nat_tests)
    ]
