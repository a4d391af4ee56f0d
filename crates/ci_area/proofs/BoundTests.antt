-- What a bound times its denominator tells of the bound.
use Rattle.std.proofs.Common.{◌≡◌, ℕ, suc, ◌-◌, ◌*◌, ◌/◌, ◌^◌, ◌<◌, ◌≤◌, Bool, ◌⊎◌, inl, inr, List, sym, ap, ◌∙◌, arith}
use Rattle.std.proofs.Math.Nat.{le-div_iff_mul-le}
use Rattle.std.proofs.lemmas.Bool.{cases_order}
use Rattle.ci_area.specs.declared.piece.Piece.{Piece}
use Rattle.ci_area.specs.Pieces.{area, gain}
use Rattle.ci_area.specs.AreaPrefixes.{Prefix, taken, scaled_bound, bound, IsBefore}
use Rattle.ci_area.specs.AreaRules.{GainsTooLittle}

module _ (x den g : ℕ) (some : 1 ≤ den) where
  at_least : (n : ℕ) → n * den ≤ x → n ≤ x / den
  at_least n h = (le-div_iff_mul-le {k = den} {x = n} some).1 h

  back_at_least : (n : ℕ) → n ≤ x / den → n * den ≤ x
  back_at_least n h = (le-div_iff_mul-le {k = den} {x = n} some).0 h

  pub less_from : x < den * g → x / den < g
  less_from less = elim (cases_order (x / den) g) [
    | inl same ↦ absurd (omega (arith, less, back_at_least g (omega (arith, same))))
    | inr (inl below) ↦ below
    | inr (inr above) ↦ absurd (omega (arith, less, back_at_least g (omega (arith, above))))
  ]

  pub not_less : den * g ≤ x → x / den < g → ⊥
  not_less enough less = omega (arith, less, at_least g (omega (arith, enough)))

  pub same_from : den * g ≤ x → x - den * g < den → x / den ≡ g
  same_from enough close = elim (cases_order (x / den) g) [
    | inl same ↦ same
    | inr (inl below) ↦ absurd (not_less enough below)
    | inr (inr above) ↦ absurd (omega (arith, enough, close, back_at_least (suc g) (omega (arith, above))))
  ]

  pub not_same : den * g ≤ x → den ≤ x - den * g → x / den ≡ g → ⊥
  not_same enough far same = omega (arith, same, at_least (suc g) (omega (arith, enough, far)))

-- the tests of a bound decide whether too little is gained
module _ (pieces : List Piece) (limit : ℕ) (best : ℕ → Bool) (prefix : Prefix) (num den : ℕ) (some : 1 ≤ den)
    (few_num : num < 2 ^ 63) (few_den : den < 2 ^ 63) (fits : area pieces (taken pieces prefix) ≤ limit)
    (x gained : ℕ) (is_scaled : x ≡ scaled_bound pieces limit num den prefix) (is_gain : gained ≡ gain pieces best) where
  bound_is : bound pieces limit num den prefix ≡ x / den
  bound_is = ap (λ (n : ℕ). n / den) (sym is_scaled)

  abbrev IsLess : Type 0
  IsLess = (bound pieces limit num den prefix < gain pieces best)
      ⊎ ((bound pieces limit num den prefix ≡ gain pieces best) × IsBefore pieces best prefix)

  with_less : IsLess → GainsTooLittle pieces limit best prefix num den
  with_less less = record { some = some; few_num = few_num; few_den = few_den; fits = fits; less = less }

  pub is_less : x < den * gained → GainsTooLittle pieces limit best prefix num den
  is_less less = with_less (inl (omega (arith, less_from x den gained some less, bound_is, is_gain)))

  pub is_same : den * gained ≤ x → x - den * gained < den → IsBefore pieces best prefix → GainsTooLittle pieces limit best prefix num den
  is_same enough close before = with_less (inr (bound_is ∙ same_from x den gained some enough close ∙ is_gain, before))

  pub is_before : den * gained ≤ x → GainsTooLittle pieces limit best prefix num den → IsBefore pieces best prefix
  is_before enough is = elim is.less [
    | inl less ↦ absurd (not_less x den gained some enough (omega (arith, less, bound_is, is_gain)))
    | inr (same, before) ↦ before
  ]

  pub is_far : den * gained ≤ x → den ≤ x - den * gained → GainsTooLittle pieces limit best prefix num den → ⊥
  is_far enough far is = elim is.less [
    | inl less ↦ not_less x den gained some enough (omega (arith, less, bound_is, is_gain))
    | inr (same, before) ↦ not_same x den gained some enough far (sym bound_is ∙ same ∙ sym is_gain)
  ]
