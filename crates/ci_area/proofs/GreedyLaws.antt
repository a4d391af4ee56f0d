-- The greedy set, piece by piece.
use Rattle.std.proofs.Common.{◌≡◌, ◌≢◌, ℕ, zero, suc, ◌+◌, ◌-◌, ◌*◌, ◌<◌, ◌≤◌, Bool, true, false, ◌&&◌, ◌||◌, nat_eq, cond, ◌⊎◌, ◌↔◌, inl, inr, IsTrue}
use Rattle.std.proofs.Common.{List, length, Option, Some, None, refl, sym, ap, ◌∙◌, subst, arith, true≢false, eqb-true, eq-eqb, ltb-true, lt-ltb, mul_left_comm, le_refl, le_antisymm}
use Rattle.std.proofs.lemmas.Bool.{cases_eq, cases_order, and_parts, and_from, or_cases, or_left, or_right, false_from_ne_true}
use Rattle.std.proofs.lemmas.Nat.{mul-le}
use Rattle.std.specs.FinSet as set
use Rattle.std.specs.Ordering.{nat_cmp}
use Rattle.std.specs.Cmp.{nat_cmp_total}
use Rattle.ci_word.specs.Numbers.{count_below}
use Rattle.ci_word.proofs.NumberLaws.{sum_below-same, sum_below-none, contains-insert_nat, len-count_below, count_below-le, count_below-mono}
use Rattle.ci_cut.specs.Best.{IsSameSet}
use Rattle.ci_cut.proofs.OneMore.{count_one_more}
use Rattle.ci_cut.proofs.PrefixLaws.{same_test}
use Rattle.ci_cut.proofs.SetLaws.{contains_new, contains_kept, from_more}
use Rattle.ci_area.specs.declared.greedy.Tried.{Tried}
use Rattle.ci_area.specs.declared.piece.Piece.{Piece}
use Rattle.ci_area.specs.Greedy.{is_tried_before, area_before, IsGreedy}
use Rattle.ci_area.specs.Pieces.{ArePieces, area_at, gain_at, area, IsWithin}
use Rattle.ci_area.specs.private.Tried.{IsFirstUntried, IsTriedSoFar}

-- a number more changes nothing at the others
pub other_kept : (s : set.FinSet nat_cmp) (n k : ℕ) → k ≢ n → set.contains (set.insert s n) k ≡ set.contains s k
other_kept s n k other = contains-insert_nat s n k ∙ ap (λ b. b || set.contains s k) (false_from_ne_true _ (λ e. other (eqb-true k n e)))

module _ (pieces : List Piece) where
  -- ---- the order in which pieces are tried

  abbrev cross : ℕ → ℕ → ℕ
  cross j k = gain_at pieces j * area_at pieces k

  pub tried_before : (j k : ℕ) → (cross k j < cross j k) ⊎ ((cross k j ≡ cross j k) × (j < k)) → IsTrue (is_tried_before pieces j k)
  tried_before j k (inl more) = or_left _ _ (lt-ltb _ _ more)
  tried_before j k (inr (same, below)) = or_right _ _ (and_from _ _ (eq-eqb _ _ same) (lt-ltb _ _ below))

  pub cases_before : (j k : ℕ) → IsTrue (is_tried_before pieces j k) → (cross k j < cross j k) ⊎ ((cross k j ≡ cross j k) × (j < k))
  cases_before j k before = elim (or_cases _ _ before) [
    | inl more ↦ inl (ltb-true _ _ more)
    | inr same ↦ let parts = and_parts _ _ same in inr (eqb-true _ _ parts.0, ltb-true _ _ parts.1)
  ]

  one_order : (j k : ℕ) → IsTrue (is_tried_before pieces j k) → IsTrue (is_tried_before pieces k j) → ⊥
  one_order j k first second = elim (cases_before j k first) [
    | inl more ↦ elim (cases_before k j second) [ inl less ↦ omega (arith, more, less) | inr (same, below) ↦ omega (arith, more, same) ]
    | inr (same, below) ↦ elim (cases_before k j second) [ inl less ↦ omega (arith, same, less) | inr (equal, above) ↦ omega (arith, below, above) ]
  ]

  pub not_before : (j k : ℕ) → IsTrue (is_tried_before pieces j k) → is_tried_before pieces k j ≡ false
  not_before j k before = false_from_ne_true _ (one_order j k before)

  pub itself : (k : ℕ) → is_tried_before pieces k k ≡ false
  itself k = false_from_ne_true _ (λ before. one_order k k before before)

  pub no_worse : (j k : ℕ) → IsTrue (is_tried_before pieces j k) → cross k j ≤ cross j k
  no_worse j k before = elim (cases_before j k before) [ inl more ↦ omega (arith, more) | inr (same, _) ↦ omega (arith, same) ]

  -- what gains more for its area than another does so beside all that gain no more than that
  pub better_than : (k c j : ℕ) → 1 ≤ gain_at pieces c → 1 ≤ gain_at pieces j → cross c k < cross k c → cross j c ≤ cross c j
      → cross j k < cross k j
  better_than k c j some_c some_j more no_more = elim (cases_order (cross j k) (cross k j)) [
    | inr (inl less) ↦ less
    | inl same ↦ absurd (against (omega (arith, same)))
    | inr (inr other) ↦ absurd (against (omega (arith, other)))
  ]
    where
      against : cross k j ≤ cross j k → ⊥
      against other =
          let gk = gain_at pieces k in
          let gc = gain_at pieces c in
          let gj = gain_at pieces j in
          let ak = area_at pieces k in
          let ac = area_at pieces c in
          let aj = area_at pieces j in
          let first : gj * (gc * ak + 1) ≤ gj * (gk * ac) = mul-le gj (gc * ak + 1) gj (gk * ac) (le_refl gj) (omega (arith, more)) in
          let second : gk * (gj * ac) ≤ gk * (gc * aj) = mul-le gk (gj * ac) gk (gc * aj) (le_refl gk) no_more in
          let third : gc * (gk * aj) ≤ gc * (gj * ak) = mul-le gc (gk * aj) gc (gj * ak) (le_refl gc) other in
          let a : gj * (gk * ac) ≡ gk * (gj * ac) = mul_left_comm gj gk ac in
          let b : gk * (gc * aj) ≡ gc * (gk * aj) = mul_left_comm gk gc aj in
          let d : gc * (gj * ak) ≡ gj * (gc * ak) = mul_left_comm gc gj ak in
          omega (arith, first, second, third, a, b, d, some_j)

  -- ---- the next piece

  module _ (tried : ℕ → Bool) (number : ℕ) where
    pub passes_tried : IsTrue (tried number) → (first : Option ℕ) → IsFirstUntried pieces tried number first → IsFirstUntried pieces tried (number + 1) first
    passes_tried was None all = λ k below. elim (cases_eq k number) [ inl same ↦ ap tried same ∙ was | inr other ↦ all k (omega arith) ]
    passes_tried was (Some first) (below, untried, before) = (
      omega (arith, below),
      untried,
      λ k less not_tried other. elim (cases_eq k number) [
        | inl same ↦ absurd (not_tried (ap tried same ∙ was))
        | inr apart ↦ before k (omega arith) not_tried other
      ],
    )

    pub first_alone : ¬ IsTrue (tried number) → IsFirstUntried pieces tried number None → IsFirstUntried pieces tried (number + 1) (Some number)
    first_alone untried all = (omega arith, untried, λ k less not_tried other. absurd (not_tried (all k (omega (arith, less, other)))))

    module _ (untried : ¬ IsTrue (tried number)) (first : ℕ) (is : IsFirstUntried pieces tried number (Some first)) where
      pub first_instead : ((k : ℕ) → k ≤ number → 1 ≤ gain_at pieces k) → cross first number < cross number first
          → IsFirstUntried pieces tried (number + 1) (Some number)
      first_instead some more = (
        omega arith,
        untried,
        λ k less not_tried other. tried_before number k (inl (elim (cases_eq k first) [
          | inl same ↦ subst (λ (n : ℕ). cross n number < cross number n) (sym same) more
          | inr apart ↦ better_than number first k (some first (omega (arith, is.0))) (some k (omega (arith, less))) more
              (no_worse first k (is.2 k (omega (arith, less, other)) not_tried apart))
        ])),
      )

      pub first_stays : cross number first ≤ cross first number → IsFirstUntried pieces tried (number + 1) (Some first)
      first_stays no_more = (
        omega (arith, is.0),
        is.1,
        λ k less not_tried other. elim (cases_eq k number) [
          | inl same ↦ subst (λ (n : ℕ). IsTrue (is_tried_before pieces first n)) (sym same) (tried_before first number (elim (cases_eq (cross number first) (cross first number)) [
            | inl equal ↦ inr (equal, is.0)
            | inr differ ↦ inl (omega (arith, no_more, differ))
          ]))
          | inr apart ↦ is.2 k (omega (arith, less, apart)) not_tried other
        ],
      )

  -- ---- one piece more

  module _ (limit next : ℕ) (before : Tried) (is : IsTriedSoFar pieces limit before)
      (first : IsFirstUntried pieces (set.contains before.tried) (length pieces) (Some next)) (after : Tried)
      (tried : after.tried ≡ set.insert before.tried next)
      (others : (k : ℕ) → k ≢ next → set.contains after.chosen k ≡ set.contains before.chosen k) where
    tried_now : (k : ℕ) → IsTrue (set.contains after.tried k) → (k ≡ next) ⊎ IsTrue (set.contains before.tried k)
    tried_now k now = from_more before.tried next k (sym (ap (λ s. set.contains s k) tried) ∙ now)

    tried_next : IsTrue (set.contains after.tried next)
    tried_next = ap (λ s. set.contains s next) tried ∙ contains_new before.tried next

    tried_still : (k : ℕ) → IsTrue (set.contains before.tried k) → IsTrue (set.contains after.tried k)
    tried_still k was = ap (λ s. set.contains s k) tried ∙ contains_kept before.tried next k was

    and_out : (b c : Bool) → b ≡ false → (c && b) ≡ false
    and_out false true e = refl
    and_out false false e = refl
    and_out true c e = absurd (true≢false e)

    and_in : (b c : Bool) → (IsTrue c → IsTrue b) → (c && b) ≡ c
    and_in b true implies = implies refl
    and_in b false implies = refl

    -- the area before a piece that was tried stays
    same_before : (j : ℕ) → IsTrue (set.contains before.tried j)
        → area_before pieces (set.contains after.chosen) j ≡ area_before pieces (set.contains before.chosen) j
    same_before j was =
        sum_below-same (length pieces) (λ i. set.contains after.chosen i && is_tried_before pieces i j)
        (λ i. set.contains before.chosen i && is_tried_before pieces i j) (area_at pieces) (area_at pieces)
        (λ i below. elim (cases_eq i next) [
          | inl same ↦
              let out : is_tried_before pieces i j ≡ false = ap (λ n. is_tried_before pieces n j) same
              ∙ not_before j next (is.before_others j next was first.0 first.1) in
              and_out (is_tried_before pieces i j) (set.contains after.chosen i) out
              ∙ sym (and_out (is_tried_before pieces i j) (set.contains before.chosen i) out)
          | inr other ↦ ap (λ b. b && is_tried_before pieces i j) (others i other)
        ])
        (λ i below _. refl)

    -- and that before the next one is that of all that were taken in
    whole_before : area_before pieces (set.contains after.chosen) next ≡ area pieces (set.contains before.chosen)
    whole_before =
        sum_below-same (length pieces) (λ i. set.contains after.chosen i && is_tried_before pieces i next)
        (set.contains before.chosen) (area_at pieces) (area_at pieces)
        (λ i below. elim (cases_eq i next) [
          | inl same ↦
              and_out (is_tried_before pieces i next) (set.contains after.chosen i) (ap (λ n. is_tried_before pieces n next) same ∙ itself next)
              ∙ sym (false_from_ne_true _ (λ in_. first.1 (subst (λ (n : ℕ). IsTrue (set.contains before.tried n)) same (is.were_tried i in_))))
          | inr other ↦
              ap (λ b. b && is_tried_before pieces i next) (others i other)
              ∙ and_in (is_tried_before pieces i next) (set.contains before.chosen i) (λ in_. is.before_others i next (is.were_tried i in_) first.0 first.1)
        ])
        (λ i below _. refl)

    as_limit : (P : Type 0) (x y : ℕ) → x ≡ y → P ↔ (y + area_at pieces next ≤ limit) → P ↔ (x + area_at pieces next ≤ limit)
    as_limit P x y same decides = (λ p. omega (arith, same, decides.0 p), λ h. decides.1 (omega (arith, same, h)))

    pub tried_more : IsTrue (set.contains after.chosen next) ↔ (area pieces (set.contains before.chosen) + area_at pieces next ≤ limit)
        → after.area ≡ area pieces (set.contains after.chosen) → after.area ≤ limit → IsTriedSoFar pieces limit after
    tried_more decides sums fits = record {
      are_pieces = λ k now. elim (tried_now k now) [ inl same ↦ subst (λ (n : ℕ). n < length pieces) (sym same) first.0 | inr was ↦ is.are_pieces k was ];
      were_tried = λ k in_. elim (cases_eq k next) [
        | inl same ↦ subst (λ (n : ℕ). IsTrue (set.contains after.tried n)) (sym same) tried_next
        | inr other ↦ tried_still k (is.were_tried k (sym (others k other) ∙ in_))
      ];
      before_others = λ j k now below untried. elim (tried_now j now) [
        | inl same ↦ subst (λ (n : ℕ). IsTrue (is_tried_before pieces n k)) (sym same)
            (first.2 k below (λ was. untried (tried_still k was)) (λ equal. untried (subst (λ (n : ℕ). IsTrue (set.contains after.tried n)) (sym equal) tried_next)))
        | inr was ↦ is.before_others j k was below (λ earlier. untried (tried_still k earlier))
      ];
      taken = λ k now. elim (tried_now k now) [
        | inl same ↦ subst (λ (n : ℕ). IsTrue (set.contains after.chosen n) ↔ (area_before pieces (set.contains after.chosen) n + area_at pieces n ≤ limit))
            (sym same) (as_limit _ _ _ whole_before decides)
        | inr was ↦
            let one = is.taken k was in
            let apart : k ≢ next = λ same. first.1 (subst (λ (n : ℕ). IsTrue (set.contains before.tried n)) same was) in (
              λ in_. omega (arith, same_before k was, one.0 (sym (others k apart) ∙ in_)),
              λ h. others k apart ∙ one.1 (omega (arith, same_before k was, h)),
            )
      ];
      area_is = sums;
      fits = fits;
    }

  -- ---- before the first piece, and behind the last one

  pub nothing_tried : (limit : ℕ) (none : Tried) → none.tried ≡ set.empty → none.chosen ≡ set.empty → none.area ≡ 0 → IsTriedSoFar pieces limit none
  nothing_tried limit none tried chosen zero_ =
      let out : (s : set.FinSet nat_cmp) → s ≡ set.empty → (k : ℕ) → set.contains s k ≡ false =
      λ s empty k. ap (λ t. set.contains t k) empty ∙ set.contains-empty nat_cmp k in
      record {
        are_pieces = λ k in_. absurd (true≢false (sym in_ ∙ out none.tried tried k));
        were_tried = λ k in_. absurd (true≢false (sym in_ ∙ out none.chosen chosen k));
        before_others = λ j k in_ below untried. absurd (true≢false (sym in_ ∙ out none.tried tried j));
        taken = λ k in_. absurd (true≢false (sym in_ ∙ out none.tried tried k));
        area_is = zero_ ∙ sym (sum_below-none (length pieces) (set.contains none.chosen) (area_at pieces) (λ k below. out none.chosen chosen k));
        fits = omega (arith, zero_);
      }

  pub fewer_untried : (limit next : ℕ) (before after : Tried) → IsTriedSoFar pieces limit after
      → IsFirstUntried pieces (set.contains before.tried) (length pieces) (Some next) → after.tried ≡ set.insert before.tried next
      → length pieces - set.len after.tried < length pieces - set.len before.tried
  fewer_untried limit next before after is first tried =
      let one_more : set.len after.tried ≡ set.len before.tried + 1 =
      ap set.len tried ∙ set.len-insert nat_cmp_total before.tried next
      ∙ ap (λ b. cond b (set.len before.tried) (set.len before.tried + 1)) (false_from_ne_true _ first.1) in
      omega (
        arith,
        one_more,
        len-count_below (length pieces) after.tried is.are_pieces,
        count_below-le (length pieces) (set.contains after.tried),
      )

  module _ (limit : ℕ) (last : Tried) (is : IsTriedSoFar pieces limit last) where
    pub greedy_at_end : ((k : ℕ) → k < length pieces → IsTrue (set.contains last.tried k)) → IsGreedy pieces limit (set.contains last.chosen)
    greedy_at_end all = record {
      are_pieces = λ k in_. is.are_pieces k (is.were_tried k in_);
      taken = λ k below. is.taken k (all k below);
    }

    pub within_at_end : IsWithin pieces limit (set.contains last.chosen)
    within_at_end = record {
      are_pieces = λ k in_. is.are_pieces k (is.were_tried k in_);
      fits = omega (arith, is.area_is, is.fits);
    }

-- ---- there is one greedy set

module _ (pieces : List Piece) (are : ArePieces pieces) where
  weak_through : (i j k : ℕ) → 1 ≤ gain_at pieces j → cross pieces j i ≤ cross pieces i j → cross pieces k j ≤ cross pieces j k
      → cross pieces k i ≤ cross pieces i k
  weak_through i j k some_j one two = elim (cases_order (cross pieces i k) (cross pieces k i)) [
    | inl same ↦ omega (arith, same)
    | inr (inr more) ↦ omega (arith, more)
    | inr (inl less) ↦
        let gi = gain_at pieces i in
        let gj = gain_at pieces j in
        let gk = gain_at pieces k in
        let ai = area_at pieces i in
        let aj = area_at pieces j in
        let ak = area_at pieces k in
        let first : gj * (gi * ak + 1) ≤ gj * (gk * ai) = mul-le gj (gi * ak + 1) gj (gk * ai) (le_refl gj) (omega (arith, less)) in
        let second : gk * (gj * ai) ≤ gk * (gi * aj) = mul-le gk (gj * ai) gk (gi * aj) (le_refl gk) one in
        let third : gi * (gk * aj) ≤ gi * (gj * ak) = mul-le gi (gk * aj) gi (gj * ak) (le_refl gi) two in
        let a : gj * (gk * ai) ≡ gk * (gj * ai) = mul_left_comm gj gk ai in
        let b : gk * (gi * aj) ≡ gi * (gk * aj) = mul_left_comm gk gi aj in
        let d : gi * (gj * ak) ≡ gj * (gi * ak) = mul_left_comm gi gj ak in
        absurd (omega (arith, first, second, third, a, b, d, some_j))
  ]

  then_more : (i j k : ℕ) → 1 ≤ gain_at pieces i → cross pieces j i ≤ cross pieces i j → cross pieces k j < cross pieces j k
      → cross pieces k i < cross pieces i k
  then_more i j k some_i one two = elim (cases_order (cross pieces k i) (cross pieces i k)) [
    | inr (inl less) ↦ less
    | inl same ↦ absurd (against (omega (arith, same)))
    | inr (inr more) ↦ absurd (against (omega (arith, more)))
  ]
    where
      against : cross pieces i k ≤ cross pieces k i → ⊥
      against other =
          let gi = gain_at pieces i in
          let gj = gain_at pieces j in
          let gk = gain_at pieces k in
          let ai = area_at pieces i in
          let aj = area_at pieces j in
          let ak = area_at pieces k in
          let first : gi * (gk * aj + 1) ≤ gi * (gj * ak) = mul-le gi (gk * aj + 1) gi (gj * ak) (le_refl gi) (omega (arith, two)) in
          let second : gj * (gi * ak) ≤ gj * (gk * ai) = mul-le gj (gi * ak) gj (gk * ai) (le_refl gj) other in
          let third : gk * (gj * ai) ≤ gk * (gi * aj) = mul-le gk (gj * ai) gk (gi * aj) (le_refl gk) one in
          let a : gi * (gj * ak) ≡ gj * (gi * ak) = mul_left_comm gi gj ak in
          let b : gj * (gk * ai) ≡ gk * (gj * ai) = mul_left_comm gj gk ai in
          let d : gk * (gi * aj) ≡ gi * (gk * aj) = mul_left_comm gk gi aj in
          omega (arith, first, second, third, a, b, d, some_i)

  before_through : (i j k : ℕ) → i < length pieces → j < length pieces → k < length pieces → IsTrue (is_tried_before pieces i j)
      → IsTrue (is_tried_before pieces j k) → IsTrue (is_tried_before pieces i k)
  before_through i j k in_i in_j in_k first second = tried_before pieces i k (elim (cases_before pieces i j first) [
    | inl more ↦ inl (better_than pieces i j k (are.gain_least j in_j) (are.gain_least k in_k) more (no_worse pieces j k second))
    | inr (same, below) ↦ elim (cases_before pieces j k second) [
      | inl more ↦ inl (then_more i j k (are.gain_least i in_i) (omega (arith, same)) more)
      | inr (equal, lower) ↦ inr (
        le_antisymm (weak_through i j k (are.gain_least j in_j) (omega (arith, same)) (omega (arith, equal)))
            (weak_back same equal),
        omega (arith, below, lower),
      )
    ]
  ])
    where
      weak_back : cross pieces j i ≡ cross pieces i j → cross pieces k j ≡ cross pieces j k → cross pieces i k ≤ cross pieces k i
      weak_back same equal = weak_through k j i (are.gain_least j in_j) (omega (arith, equal)) (omega (arith, same))

  -- how many pieces are tried before this one
  abbrev rank : ℕ → ℕ
  rank k = count_below (length pieces) (λ i. is_tried_before pieces i k)

  rank_less : (j k : ℕ) → j < length pieces → k < length pieces → IsTrue (is_tried_before pieces j k) → rank j < rank k
  rank_less j k in_j in_k before =
      let with_j : ℕ → Bool = λ i. is_tried_before pieces i j || nat_eq i j in
      let more = count_one_more (λ i. is_tried_before pieces i j) with_j j (itself pieces j)
      (or_right (is_tried_before pieces j j) (nat_eq j j) (eq-eqb j j refl))
      (λ i other. or_out (is_tried_before pieces i j) (nat_eq i j) (false_from_ne_true _ (λ e. other (eqb-true i j e))))
      (length pieces) in_j in
      let fewer = count_below-mono (length pieces) with_j (λ i. is_tried_before pieces i k)
      (λ i in_i e. elim (or_cases (is_tried_before pieces i j) (nat_eq i j) e) [
        | inl earlier ↦ before_through i j k in_i in_j in_k earlier before
        | inr same ↦ subst (λ (n : ℕ). IsTrue (is_tried_before pieces n k)) (sym (eqb-true i j same)) before
      ]) in
      omega (arith, more, fewer)
    where
      or_out : (b c : Bool) → c ≡ false → (b || c) ≡ b
      or_out true c out = refl
      or_out false c out = out

  module _ (limit : ℕ) (first second : ℕ → Bool) (one : IsGreedy pieces limit first) (other : IsGreedy pieces limit second) where
    with_both : (b c d : Bool) → (IsTrue d → b ≡ c) → (b && d) ≡ (c && d)
    with_both b c true same = ap (λ x. x && true) (same refl)
    with_both true true false same = refl
    with_both true false false same = refl
    with_both false true false same = refl
    with_both false false false same = refl

    same_piece : (fuel k : ℕ) → k < length pieces → rank k < fuel → first k ≡ second k
    same_piece zero k below less = absurd (omega (arith, less))
    same_piece (suc fuel) k below less =
        let areas : area_before pieces first k ≡ area_before pieces second k =
        sum_below-same (length pieces) (λ j. first j && is_tried_before pieces j k) (λ j. second j && is_tried_before pieces j k)
        (area_at pieces) (area_at pieces)
        (λ j in_j. with_both (first j) (second j) (is_tried_before pieces j k)
        (λ before. same_piece fuel j in_j (omega (arith, less, rank_less j k in_j below before))))
        (λ j in_j _. refl) in
        same_test (first k) (second k)
        (λ in_. (other.taken k below).1 (omega (arith, areas, (one.taken k below).0 in_)))
        (λ in_. (one.taken k below).1 (omega (arith, areas, (other.taken k below).0 in_)))

    pub greedy_is_one : IsSameSet first second
    greedy_is_one k = elim (cases_order k (length pieces)) [
      | inr (inl below) ↦ same_piece (suc (rank k)) k below (omega arith)
      | inl same ↦ past (omega (arith, same))
      | inr (inr above) ↦ past (omega (arith, above))
    ]
      where
        past : length pieces ≤ k → first k ≡ second k
        past out = same_test (first k) (second k)
            (λ in_. absurd (omega (arith, out, one.are_pieces k in_)))
            (λ in_. absurd (omega (arith, out, other.are_pieces k in_)))
