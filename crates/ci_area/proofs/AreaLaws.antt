-- An accepted log shows that no set within the limit is better than the best.
use Rattle.std.proofs.Common.{◌≡◌, ℕ, zero, suc, ◌+◌, ◌-◌, ◌*◌, ◌^◌, ◌<◌, ◌≤◌, Bool, true, false, ◌&&◌, ◌||◌, nat_eq, cond, ◌⊎◌, inl, inr}
use Rattle.std.proofs.Common.{IsTrue, List, [], ◌∷◌, length, refl, sym, ap, ◌∙◌, subst, arith, true≢false, eqb-true, eq-eqb}
use Rattle.std.proofs.lemmas.Bool.{cases_Bool, cases_eq, cases_order, and_parts, and_from, or_cases, or_left, or_right, false_from_ne_true}
use Rattle.std.proofs.Math.Nat.{le-div_iff_mul-le}
use Rattle.std.proofs.lemmas.Nat.{mul-le}
use Rattle.std.specs.List.{AllByRecursion}
use Rattle.ci_word.specs.Numbers.{sum_below}
use Rattle.ci_word.proofs.NumberLaws.{sum_below-zero, sum_below-suc, sum_below-add, sum_below-none, sum_below-same}
use Rattle.ci_cut.specs.Best.{ComesBefore, IsSameSet}
use Rattle.ci_cut.proofs.FirstWrongLaws.{all_left, all_right}
use Rattle.ci_cut.proofs.PrefixLaws.{same_test}
use Rattle.ci_cut.proofs.SetOrder.{compare_sets}
use Rattle.ci_area.specs.declared.piece.Piece.{Piece}
use Rattle.ci_area.specs.declared.log.AreaItem.{AreaItem}
use Rattle.ci_area.specs.declared.log.AreaItem.TheVariants.{B, A, G, F}
use Rattle.ci_area.specs.Pieces.{area_at, gain_at, area, gain, IsWithin, IsBestSet}
use Rattle.ci_area.specs.AreaPrefixes.{Prefix, undecided, taken, bound, IsBefore}
use Rattle.ci_area.specs.AreaTrees.{IsLeaf, IsTree, leaf, branch}
use Rattle.ci_area.specs.AreaRules.{IsBetter, IsRight, stations, IsRightAt, IsAccepted}

-- ---- what a set gains beyond a price

module _ (num den : ℕ) (set : ℕ → Bool) (g a : ℕ → ℕ) where
  step : (b : Bool) (s t r x y : ℕ) → den * s ≤ num * t + r → den * (s + cond b x 0) ≤ num * (t + cond b y 0) + (r + (den * x - num * y))
  step true s t r x y before = omega (arith, before)
  step false s t r x y before = omega (arith, before)

  pub priced : (n : ℕ) → den * sum_below n set g ≤ num * sum_below n set a + sum_below n (λ _. true) (λ k. den * g k - num * a k)
  priced zero = omega (arith, ap (λ (m : ℕ). den * m) (sum_below-zero set g))
  priced (suc n) =
      omega (
        arith,
        step (set n) (sum_below n set g) (sum_below n set a) (sum_below n (λ _. true) (λ k. den * g k - num * a k)) (g n) (a n) (priced n),
        ap (λ (m : ℕ). den * m) (sum_below-suc n set g),
        ap (λ (m : ℕ). num * m) (sum_below-suc n set a),
        sum_below-suc n (λ _. true) (λ k. den * g k - num * a k),
      )

-- what pieces gain beyond a price is no more than what they gain
pub beyond_few : (num den : ℕ) (g a : ℕ → ℕ) (n : ℕ) → sum_below n (λ _. true) (λ k. den * g k - num * a k) ≤ den * sum_below n (λ _. true) g
beyond_few num den g a zero = omega (arith, sum_below-zero (λ _. true) (λ k. den * g k - num * a k))
beyond_few num den g a (suc n) =
    omega (
      arith,
      beyond_few num den g a n,
      sum_below-suc n (λ _. true) (λ k. den * g k - num * a k),
      ap (λ (m : ℕ). den * m) (sum_below-suc n (λ _. true) g),
    )

-- and that fits 128 bits
pub beyond_fits : (num den : ℕ) (g a : ℕ → ℕ) (n all : ℕ) → n < all → den < 2 ^ 63 → sum_below all (λ _. true) g < 2 ^ 63
    → sum_below n (λ _. true) (λ k. den * g k - num * a k) + (den * g n - num * a n) < 2 ^ 126
beyond_fits num den g a n all below den_few gains =
    let m : ℕ = all - suc n in
    let whole : all ≡ suc n + m = omega arith in
    let part = sum_below-add (suc n) m (λ _. true) g in
    let few : sum_below (suc n) (λ _. true) g < 2 ^ 63 = omega (arith, gains, part, ap (λ k. sum_below k (λ _. true) g) whole) in
    let product = mul-le den (sum_below (suc n) (λ _. true) g) (2 ^ 63 - 1) (2 ^ 63 - 1) (omega (arith, den_few)) (omega (arith, few)) in
    omega (arith, beyond_few num den g a (suc n), sum_below-suc n (λ _. true) (λ k. den * g k - num * a k), product)

module _ (pieces : List Piece) where
  -- ---- what is taken in

  pub taken-more : (choice : Bool) (prefix : Prefix) (k : ℕ)
      → taken pieces (choice ∷ prefix) k ≡ ((nat_eq k (undecided pieces (choice ∷ prefix)) && choice) || taken pieces prefix k)
  unfolding taken
  taken-more choice prefix k = refl

  pub taken-none : (k : ℕ) → taken pieces [] k ≡ false
  unfolding taken
  taken-none k = refl

  pub taken_cases : (choice : Bool) (prefix : Prefix) (k : ℕ) → IsTrue (taken pieces (choice ∷ prefix) k)
      → ((k ≡ undecided pieces (choice ∷ prefix)) × IsTrue choice) ⊎ IsTrue (taken pieces prefix k)
  taken_cases choice prefix k in_ = elim (or_cases (nat_eq k (undecided pieces (choice ∷ prefix)) && choice) (taken pieces prefix k)
      (sym (taken-more choice prefix k) ∙ in_)) [
        | inl newest ↦ let parts = and_parts (nat_eq k (undecided pieces (choice ∷ prefix))) choice newest in
            inl (eqb-true k (undecided pieces (choice ∷ prefix)) parts.0, parts.1)
        | inr earlier ↦ inr earlier
      ]

  -- from the first decided piece on
  pub taken_from : (prefix : Prefix) (k : ℕ) → IsTrue (taken pieces prefix k) → undecided pieces prefix ≤ k
  taken_from [] k in_ = absurd (true≢false (sym in_ ∙ taken-none k))
  taken_from (choice ∷ prefix) k in_ = elim (taken_cases choice prefix k in_) [
    | inl newest ↦ omega (arith, newest.0)
    | inr earlier ↦ omega (arith, taken_from prefix k earlier)
  ]

  -- ---- sets that go on from a prefix

  pub record Completes (prefix : Prefix) (set : ℕ → Bool) : Type 0 where
    pub has : (k : ℕ) → IsTrue (taken pieces prefix k) → IsTrue (set k)
    pub within : (k : ℕ) → IsTrue (set k) → undecided pieces prefix ≤ k → IsTrue (taken pieces prefix k)
    pub are_pieces : (k : ℕ) → IsTrue (set k) → k < length pieces

  completes_none : (set : ℕ → Bool) → ((k : ℕ) → IsTrue (set k) → k < length pieces) → Completes [] set
  completes_none set are = record {
    has = λ k in_. absurd (true≢false (sym in_ ∙ taken-none k));
    within = λ k here from. absurd (omega (arith, are k here));
    are_pieces = are;
  }

  completes_more : (prefix : Prefix) (set : ℕ → Bool) (choice : Bool) → length prefix < length pieces → Completes prefix set
      → set (undecided pieces (choice ∷ prefix)) ≡ choice → Completes (choice ∷ prefix) set
  completes_more prefix set choice some goes is = record {
    has = λ k in_. elim (taken_cases choice prefix k in_) [
      | inl newest ↦ ap set newest.0 ∙ is ∙ newest.1
      | inr earlier ↦ goes.has k earlier
    ];
    within = λ k here from. taken-more choice prefix k ∙ elim (cases_eq k (undecided pieces (choice ∷ prefix))) [
      | inl same ↦ or_left _ _ (and_from _ _ (eq-eqb _ _ same) (sym is ∙ sym (ap set same) ∙ here))
      | inr other ↦ or_right _ _ (goes.within k here (omega arith))
    ];
    are_pieces = goes.are_pieces;
  }

  module _ (prefix : Prefix) (set : ℕ → Bool) (goes : Completes prefix set) where
    -- a sum over the set is that over what is taken in, and over the undecided pieces of the set
    in_parts : (f : ℕ → ℕ) → sum_below (length pieces) set f
        ≡ sum_below (length pieces) (taken pieces prefix) f + sum_below (undecided pieces prefix) set f
    in_parts f =
        let u : ℕ = undecided pieces prefix in
        let m : ℕ = length pieces - u in
        let whole : length pieces ≡ u + m = omega arith in
        let none = sum_below-none u (taken pieces prefix) f (λ k below. false_from_ne_true _ (λ in_. omega (arith, taken_from prefix k in_))) in
        let same = sum_below-same m (λ k. set (u + k)) (λ k. taken pieces prefix (u + k)) (λ k. f (u + k)) (λ k. f (u + k))
        (λ k _. same_test (set (u + k)) (taken pieces prefix (u + k)) (λ here. goes.within (u + k) here (omega arith)) (goes.has (u + k)))
        (λ k _ _. refl) in
        omega (
          arith,
          ap (λ n. sum_below n set f) whole,
          ap (λ n. sum_below n (taken pieces prefix) f) whole,
          sum_below-add u m set f,
          sum_below-add u m (taken pieces prefix) f,
          none,
          same,
        )

    -- a set that goes on from the prefix needs no less area, and where it is within the limit gains no more than a bound
    pub area_rises : area pieces (taken pieces prefix) ≤ area pieces set
    area_rises = omega (arith, in_parts (area_at pieces))

    pub set_bound : (limit num den : ℕ) → 1 ≤ den → area pieces set ≤ limit → gain pieces set ≤ bound pieces limit num den prefix
    set_bound limit num den some fits =
        let u : ℕ = undecided pieces prefix in
        let left : sum_below u set (area_at pieces) ≤ limit - area pieces (taken pieces prefix) = omega (arith, in_parts (area_at pieces), fits) in
        let price = mul-le num (sum_below u set (area_at pieces)) num (limit - area pieces (taken pieces prefix)) (omega arith) left in
        (le-div_iff_mul-le {k = den} {x = gain pieces set} some).1
        (omega (
          arith,
          priced num den set (gain_at pieces) (area_at pieces) u,
          ap (λ (n : ℕ). den * n) (in_parts (gain_at pieces)),
          price,
        ))

    -- a set that comes before the prefix comes before each that goes on from it
    before_completions : (other : ℕ → Bool) → IsBefore pieces other prefix → ComesBefore other set
    before_completions other before = record {
      place = before.piece;
      in_first = before.in_set;
      not_in_second = false_from_ne_true _ (λ here. true≢false (sym (goes.within before.piece here before.is_decided) ∙ before.left_out));
      same_above = λ k above. before.same_above k above
          ∙ same_test _ _ (goes.has k) (λ here. goes.within k here (omega (arith, before.is_decided)));
    }

    whole_choice : length pieces ≤ length prefix → set ≡ taken pieces prefix
    whole_choice whole = λ i k. same_test (set k) (taken pieces prefix k) (λ here. goes.within k here (omega arith)) (goes.has k) i

compare : (m n : ℕ) → (m < n) ⊎ ((m ≡ n) ⊎ (n < m))
compare m n = elim (cases_order m n) [ inl same ↦ inr (inl same) | inr (inl less) ↦ inl less | inr (inr more) ↦ inr (inr more) ]

module _ (pieces : List Piece) (limit : ℕ) (best : ℕ → Bool) (good : IsWithin pieces limit best) where
  abbrev IsNoBetter : (ℕ → Bool) → Type 0
  IsNoBetter set = (gain pieces set < gain pieces best) ⊎ ((gain pieces set ≡ gain pieces best) × (IsSameSet best set ⊎ ComesBefore best set))

  out_past : (set : ℕ → Bool) → ((k : ℕ) → IsTrue (set k) → k < length pieces) → (k : ℕ) → length pieces ≤ k → set k ≡ false
  out_past set are k past = false_from_ne_true _ (λ here. omega (arith, are k here))

  from_not_better : (set : ℕ → Bool) → IsWithin pieces limit set → ¬ IsBetter pieces limit best set → IsNoBetter set
  from_not_better set within not_better = elim (compare (gain pieces set) (gain pieces best)) [
    | inl less ↦ inl less
    | inr (inr more) ↦ absurd (not_better (record { within = within; more = inl more }))
    | inr (inl same) ↦ inr (
      same,
      elim (compare_sets (length pieces) best set
          (λ k past. out_past best good.are_pieces k past ∙ sym (out_past set within.are_pieces k past))) [
            | inl one ↦ inl one
            | inr (inl first) ↦ inr first
            | inr (inr second) ↦ absurd (not_better (record { within = within; more = inr (sym same, second) }))
          ],
    )
  ]

  module _ (set : ℕ → Bool) (within : IsWithin pieces limit set) where
    at_leaf : (item : AreaItem) → IsLeaf item → (prefix : Prefix) → IsRight pieces limit best prefix item → Completes pieces prefix set → IsNoBetter set
    at_leaf B is prefix right goes = absurd is
    at_leaf A is prefix right goes = absurd (omega (arith, right, area_rises pieces prefix set goes, within.fits))
    at_leaf (G num den) is prefix right goes =
        let most = set_bound pieces prefix set goes limit num den right.some within.fits in
        elim right.less [
          | inl less ↦ inl (omega (arith, less, most))
          | inr (same, before) ↦ elim (compare (gain pieces set) (gain pieces best)) [
            | inl less ↦ inl less
            | inr (inl equal) ↦ inr (equal, inr (before_completions pieces prefix set goes best before))
            | inr (inr more) ↦ absurd (omega (arith, more, same, most))
          ]
        ]
    at_leaf F is prefix (whole, not_better) goes =
        from_not_better set within (subst (λ s. ¬ IsBetter pieces limit best s) (sym (whole_choice pieces prefix set goes whole)) not_better)

    no_better : {items : List AreaItem} (tree : IsTree items) (prefix : Prefix)
        → AllByRecursion (IsRightAt pieces limit best) (stations tree prefix) → Completes pieces prefix set → IsNoBetter set
    no_better (leaf {item = item} is) prefix right goes = at_leaf item is prefix right.0 goes
    no_better (branch first second) prefix right goes =
        elim (cases_Bool (set (undecided pieces (true ∷ prefix)))) [
          | inl in_ ↦ no_better first (true ∷ prefix) (all_left (IsRightAt pieces limit best) _ (stations second (false ∷ prefix)) right.1)
              (completes_more pieces prefix set true right.0 goes in_)
          | inr out ↦ no_better second (false ∷ prefix) (all_right (IsRightAt pieces limit best) (stations first (true ∷ prefix)) _ right.1)
              (completes_more pieces prefix set false right.0 goes out)
        ]

pub accepted_is_best : (pieces : List Piece) (limit : ℕ) (best : ℕ → Bool) (items : List AreaItem) → IsAccepted pieces limit best items → IsBestSet pieces limit best
accepted_is_best pieces limit best items accepted = record {
  within = accepted.good;
  best = λ other within. no_better pieces limit best accepted.good other within accepted.tree [] accepted.right (completes_none pieces other within.are_pieces);
}
