-- The last number below a bound that passes a test.
use Rattle.std.proofs.Common.{◌≡◌, ℕ, zero, suc, ◌<◌, ◌⊎◌, Bool, true, false, inl, inr, ap, ◌∙◌, arith}
use Rattle.std.proofs.lemmas.Bool.{cases_eq, cases_Bool}

-- the latest number below k that passes the test
pub record IsLast (test : ℕ → Bool) (k w : ℕ) : Type 0 where
  pub below : w < k
  pub passes : test w ≡ true
  pub none_behind : (j : ℕ) → w < j → j < k → test j ≡ false

-- or there is none
pub last_or_none : (test : ℕ → Bool) (k : ℕ) → ((w : ℕ) × IsLast test k w) ⊎ ((j : ℕ) → j < k → test j ≡ false)
last_or_none test zero = inr (λ j below. absurd (omega arith))
last_or_none test (suc k) = elim (cases_Bool (test k)) [
  | inl passes ↦ inl (k, record { below = omega arith; passes = passes; none_behind = λ j behind below. absurd (omega arith) })
  | inr fails ↦
      let one_more : (j : ℕ) → j < suc k → (j < k → test j ≡ false) → test j ≡ false =
      λ j below before. elim (cases_eq j k) [ inl same ↦ ap test same ∙ fails | inr other ↦ before (omega arith) ] in
      elim (last_or_none test k) [
        | inl (w, last) ↦ inl (
          w,
          record {
            below = omega (arith, last.below);
            passes = last.passes;
            none_behind = λ j behind below. one_more j below (λ earlier. last.none_behind j behind earlier);
          },
        )
        | inr none ↦ inr (λ j below. one_more j below (none j))
      ]
]
