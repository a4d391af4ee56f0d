-- Sets that are no worse than others.
use Rattle.std.proofs.Common.{◌≡◌, ℕ, ◌<◌, ◌≤◌, Bool, ◌⊎◌, inl, inr, List, refl, sym, ap, ◌∙◌, arith, true≢false}
use Rattle.std.proofs.lemmas.Bool.{cases_order}
use Rattle.ci_cut.specs.Best.{ComesBefore, IsSameSet}
use Rattle.ci_area.specs.declared.piece.Piece.{Piece}
use Rattle.ci_area.specs.Pieces.{gain}
use Rattle.ci_area.specs.AreaPrefixes.{Prefix, IsBefore}
use Rattle.ci_area.specs.AreaRules.{IsBetter, GainsTooLittle}
use Rattle.ci_area.specs.private.Searched.{IsNoWorse}

-- ---- the order of sets

pub before_through : (a b c : ℕ → Bool) → ComesBefore a b → ComesBefore b c → ComesBefore a c
before_through a b c first second = elim (cases_order first.place second.place) [
  | inl same ↦ absurd (true≢false (sym second.in_first ∙ ap b (sym same) ∙ first.not_in_second))
  | inr (inl lower) ↦ record {
    place = second.place;
    in_first = first.same_above second.place lower ∙ second.in_first;
    not_in_second = second.not_in_second;
    same_above = λ k above. first.same_above k (omega (arith, lower, above)) ∙ second.same_above k above;
  }
  | inr (inr higher) ↦ record {
    place = first.place;
    in_first = first.in_first;
    not_in_second = sym (second.same_above first.place higher) ∙ first.not_in_second;
    same_above = λ k above. first.same_above k above ∙ second.same_above k (omega (arith, higher, above));
  }
]

before_same : (a b c : ℕ → Bool) → ComesBefore a b → IsSameSet b c → ComesBefore a c
before_same a b c first same = record {
  place = first.place;
  in_first = first.in_first;
  not_in_second = sym (same first.place) ∙ first.not_in_second;
  same_above = λ k above. first.same_above k above ∙ same k;
}

same_before : (a b c : ℕ → Bool) → IsSameSet a b → ComesBefore b c → ComesBefore a c
same_before a b c same second = record {
  place = second.place;
  in_first = same second.place ∙ second.in_first;
  not_in_second = second.not_in_second;
  same_above = λ k above. same k ∙ second.same_above k above;
}

pub not_before_itself : (a : ℕ → Bool) → ComesBefore a a → ⊥
not_before_itself a before = true≢false (sym before.in_first ∙ before.not_in_second)

module _ (pieces : List Piece) where
  pub no_worse_itself : (a : ℕ → Bool) → IsNoWorse pieces a a
  no_worse_itself a = inr (refl, inl (λ k. refl))

  not_after : (a b c : ℕ → Bool) → IsSameSet b a ⊎ ComesBefore b a → IsSameSet c b ⊎ ComesBefore c b → IsSameSet c a ⊎ ComesBefore c a
  not_after a b c (inl first) (inl second) = inl (λ k. second k ∙ first k)
  not_after a b c (inl first) (inr second) = inr (before_same c b a second first)
  not_after a b c (inr first) (inl second) = inr (same_before c b a second first)
  not_after a b c (inr first) (inr second) = inr (before_through c b a second first)

  pub no_worse_through : (a b c : ℕ → Bool) → IsNoWorse pieces a b → IsNoWorse pieces b c → IsNoWorse pieces a c
  no_worse_through a b c (inl first) (inl second) = inl (omega (arith, first, second))
  no_worse_through a b c (inl first) (inr (second, _)) = inl (omega (arith, first, second))
  no_worse_through a b c (inr (first, _)) (inl second) = inl (omega (arith, first, second))
  no_worse_through a b c (inr (first, order)) (inr (second, later)) = inr (first ∙ second, not_after a b c order later)

  pub no_less_gain : (a b : ℕ → Bool) → IsNoWorse pieces a b → gain pieces a ≤ gain pieces b
  no_less_gain a b (inl less) = omega (arith, less)
  no_less_gain a b (inr (same, _)) = omega (arith, same)

  module _ (limit : ℕ) where
    pub better_is_no_worse : (a b : ℕ → Bool) → IsBetter pieces limit a b → IsNoWorse pieces a b
    better_is_no_worse a b better = elim better.more [
      | inl less ↦ inl less
      | inr (same, before) ↦ inr (same, inr before)
    ]

    pub not_better_itself : (a : ℕ → Bool) → IsBetter pieces limit a a → ⊥
    not_better_itself a better = elim better.more [
      | inl less ↦ omega (arith, less)
      | inr (same, before) ↦ not_before_itself a before
    ]

    -- what is better than a later set is better than an earlier one
    pub better_through : (a b c : ℕ → Bool) → IsNoWorse pieces a b → IsBetter pieces limit b c → IsBetter pieces limit a c
    better_through a b c first better = record { within = better.within; more = more_of first better.more }
      where
        more_of : IsNoWorse pieces a b → (gain pieces b < gain pieces c) ⊎ ((gain pieces b ≡ gain pieces c) × ComesBefore c b)
            → (gain pieces a < gain pieces c) ⊎ ((gain pieces a ≡ gain pieces c) × ComesBefore c a)
        more_of (inl less) (inl more) = inl (omega (arith, less, more))
        more_of (inl less) (inr (same, _)) = inl (omega (arith, less, same))
        more_of (inr (same, _)) (inl more) = inl (omega (arith, same, more))
        more_of (inr (same, inl one)) (inr (equal, before)) = inr (same ∙ equal, before_same c b a before one)
        more_of (inr (same, inr order)) (inr (equal, before)) = inr (same ∙ equal, before_through c b a before order)

    -- a set that comes before a best set that comes before the prefix does so too
    before_prefix : (best later : ℕ → Bool) (prefix : Prefix) → IsBefore pieces best prefix → ComesBefore later best → IsBefore pieces later prefix
    before_prefix best later prefix before first = elim (cases_order before.piece first.place) [
      | inl same ↦ absurd (true≢false (sym before.in_set ∙ ap best same ∙ first.not_in_second))
      | inr (inl lower) ↦ record {
        piece = first.place;
        in_set = first.in_first;
        is_decided = omega (arith, lower, before.is_decided);
        left_out = sym (before.same_above first.place lower) ∙ first.not_in_second;
        same_above = λ k above. first.same_above k above ∙ before.same_above k (omega (arith, lower, above));
      }
      | inr (inr higher) ↦ record {
        piece = before.piece;
        in_set = first.same_above before.piece higher ∙ before.in_set;
        is_decided = before.is_decided;
        left_out = before.left_out;
        same_above = λ k above. first.same_above k (omega (arith, higher, above)) ∙ before.same_above k above;
      }
    ]

    before_same_prefix : (best later : ℕ → Bool) (prefix : Prefix) → IsBefore pieces best prefix → IsSameSet later best → IsBefore pieces later prefix
    before_same_prefix best later prefix before same = record {
      piece = before.piece;
      in_set = same before.piece ∙ before.in_set;
      is_decided = before.is_decided;
      left_out = before.left_out;
      same_above = λ k above. same k ∙ before.same_above k above;
    }

    -- where too little is gained for one best set, it is for each that is no worse
    pub too_little_later : (best later : ℕ → Bool) (prefix : Prefix) (num den : ℕ) → GainsTooLittle pieces limit best prefix num den
        → IsNoWorse pieces best later → GainsTooLittle pieces limit later prefix num den
    too_little_later best later prefix num den is no_worse = record {
      some = is.some;
      few_num = is.few_num;
      few_den = is.few_den;
      fits = is.fits;
      less = elim is.less [
        | inl less ↦ inl (omega (arith, less, no_less_gain best later no_worse))
        | inr (same, before) ↦ elim no_worse [
          | inl more ↦ inl (omega (arith, same, more))
          | inr (equal, inl one) ↦ inr (same ∙ equal, before_same_prefix best later prefix before one)
          | inr (equal, inr first) ↦ inr (same ∙ equal, before_prefix best later prefix before first)
        ]
      ];
    }
