-- Lists of sources, in which each stands once.
use Rattle.std.proofs.Common.{◌≡◌, ℕ, zero, suc, ◌<◌, Bool, true, false, not, cond, if◌then◌else◌}
use Rattle.std.proofs.Common.{List, [], ◌∷◌, ◌++◌, ◌⊎◌, length, filter, map, get_or, slice_index, Contains, refl, sym, ap, ◌∙◌, subst}
use Rattle.std.proofs.Common.{inl, inr, arith, true≢false}
use Rattle.std.specs.List.{list_any, flat_map, AllByRecursion, IsDistinct}
use Rattle.std.specs.Cmp.{unsigned_Decides}
use Rattle.std.proofs.lemmas.Bool.{cases_Bool, or_cases, or_left, or_right, not_from_false, false_from_ne_true}
use Rattle.std.proofs.lemmas.List.Folds.{list_any-append}
use Rattle.ci_cut.specs.declared.graph.Source.{Source}
use Rattle.ci_cut.specs.declared.graph.Source.TheVariants.{Entry, Made}
use Rattle.ci_cut.specs.FlowGraph.{is_source}
use Rattle.ci_unit.specs.Units.{once, place_in}

-- ---- equal sources

pub same_source : (s t : Source) → is_source s t ≡ true → s ≡ t
same_source (Entry r) (Entry q) e = ap Entry ((unsigned_Decides r q).0 e)
same_source (Entry r) (Made k) e = absurd (true≢false (sym e))
same_source (Made j) (Entry q) e = absurd (true≢false (sym e))
same_source (Made j) (Made k) e = ap Made ((unsigned_Decides j k).0 e)

pub is_source-itself : (s : Source) → is_source s s ≡ true
is_source-itself (Entry r) = (unsigned_Decides r r).1 refl
is_source-itself (Made k) = (unsigned_Decides k k).1 refl

pub not_source_back : (s t : Source) → is_source s t ≡ false → is_source t s ≡ false
not_source_back s t fails =
    false_from_ne_true (is_source t s)
    (λ e. true≢false (sym (subst (λ u. is_source s u ≡ true) (sym (same_source t s e)) (is_source-itself s)) ∙ fails))

pub not_true : (b : Bool) → not b ≡ true → b ≡ false
not_true true e = sym e
not_true false e = refl

-- ---- each element of a list

module _ {X : Type 0} where
  each_if : (P : X → Type 0) (b : Bool) (x : X) (xs : List X) → (b ≡ true → P x) → AllByRecursion P xs → AllByRecursion P (cond b (x ∷ xs) xs)
  each_if P true x xs here rest = (here refl, rest)
  each_if P false x xs here rest = rest

  pub each_weaker : (P Q : X → Type 0) → ((x : X) → P x → Q x) → (xs : List X) → AllByRecursion P xs → AllByRecursion Q xs
  each_weaker P Q weaker [] all = tt
  each_weaker P Q weaker (x ∷ xs) all = (weaker x all.0, each_weaker P Q weaker xs all.1)

  pub each_both : (P Q : X → Type 0) (xs : List X) → AllByRecursion P xs → AllByRecursion Q xs → AllByRecursion (λ x. P x × Q x) xs
  each_both P Q [] one other = tt
  each_both P Q (x ∷ xs) one other = ((one.0, other.0), each_both P Q xs one.1 other.1)

  pub each_append : (P : X → Type 0) (xs ys : List X) → AllByRecursion P xs → AllByRecursion P ys → AllByRecursion P (xs ++ ys)
  each_append P [] ys left right = right
  each_append P (x ∷ xs) ys left right = (left.0, each_append P xs ys left.1 right)

  pub each_filter : (P : X → Type 0) (p : X → Bool) (xs : List X) → AllByRecursion P xs → AllByRecursion P (filter p xs)
  each_filter P p [] all = tt
  each_filter P p (x ∷ xs) all = each_if P (p x) x (filter p xs) (λ _. all.0) (each_filter P p xs all.1)

  pub filter_each : (p : X → Bool) (xs : List X) → AllByRecursion (λ x. p x ≡ true) (filter p xs)
  filter_each p [] = tt
  filter_each p (x ∷ xs) = each_if (λ y. p y ≡ true) (p x) x (filter p xs) (λ e. e) (filter_each p xs)

  distinct_if : (E : X → X → Bool) (b : Bool) (x : X) (xs : List X) → AllByRecursion (λ y. E x y ≡ false) xs → IsDistinct E xs
      → IsDistinct E (cond b (x ∷ xs) xs)
  unfolding IsDistinct
  distinct_if E true x xs apart rest = (apart, rest)
  distinct_if E false x xs apart rest = rest

  distinct_filter : (E : X → X → Bool) (p : X → Bool) (xs : List X) → IsDistinct E xs → IsDistinct E (filter p xs)
  unfolding IsDistinct
  distinct_filter E p [] distinct = tt
  distinct_filter E p (x ∷ xs) distinct =
      distinct_if E (p x) x (filter p xs) (each_filter (λ y. E x y ≡ false) p xs distinct.0) (distinct_filter E p xs distinct.1)

  pub each_flat : (P : X → Type 0) (f : ℕ → List X) (numbers : List ℕ) → ((k : ℕ) → Contains numbers k → AllByRecursion P (f k))
      → AllByRecursion P (flat_map f numbers)
  each_flat P f [] each = tt
  each_flat P f (k ∷ numbers) each =
      each_append P (f k) (flat_map f numbers) (each k (0, omega arith, refl))
      (each_flat P f numbers (λ j there. each j (suc there.0, omega (arith, there.1), there.2)))

  pub flat_finds : (q : X → Bool) (f : ℕ → List X) (numbers : List ℕ) (k : ℕ) → Contains numbers k → list_any q (f k) ≡ true
      → list_any q (flat_map f numbers) ≡ true
  flat_finds q f [] k (j, within, is) found = absurd (omega arith)
  flat_finds q f (n ∷ numbers) k (zero, within, is) found =
      list_any-append q (f n) (flat_map f numbers)
      ∙ or_left (list_any q (f n)) (list_any q (flat_map f numbers)) (ap (λ i. list_any q (f i)) is ∙ found)
  flat_finds q f (n ∷ numbers) k (suc j, within, is) found =
      list_any-append q (f n) (flat_map f numbers)
      ∙ or_right (list_any q (f n)) (list_any q (flat_map f numbers)) (flat_finds q f numbers k (j, omega arith, is) found)

-- ---- each source once

pub once_distinct : (xs : List Source) → IsDistinct is_source (once xs)
unfolding IsDistinct
once_distinct [] = tt
once_distinct (x ∷ xs) = (
  each_weaker (λ y. not (is_source x y) ≡ true) (λ y. is_source x y ≡ false) (λ y. not_true (is_source x y))
      (filter (λ y. not (is_source x y)) (once xs)) (filter_each (λ y. not (is_source x y)) (once xs)),
  distinct_filter is_source (λ y. not (is_source x y)) (once xs) (once_distinct xs),
)

pub once_each : (P : Source → Type 0) (xs : List Source) → AllByRecursion P xs → AllByRecursion P (once xs)
once_each P [] all = tt
once_each P (x ∷ xs) all = (all.0, each_filter P (λ y. not (is_source x y)) (once xs) (once_each P xs all.1))

module _ (s : Source) where
  find_if : (b : Bool) (x : Source) (xs : List Source) → list_any (is_source s) xs ≡ true → list_any (is_source s) (cond b (x ∷ xs) xs) ≡ true
  find_if true x xs found = or_right (is_source s x) (list_any (is_source s) xs) found
  find_if false x xs found = found

  pub filter_finds : (p : Source → Bool) → p s ≡ true → (xs : List Source) → list_any (is_source s) xs ≡ true
      → list_any (is_source s) (filter p xs) ≡ true
  filter_finds p passes [] found = found
  filter_finds p passes (x ∷ xs) found = elim (or_cases (is_source s x) (list_any (is_source s) xs) found) [
    | inl here ↦
        ap (λ b. list_any (is_source s) (cond b (x ∷ filter p xs) (filter p xs))) (ap p (sym (same_source s x here)) ∙ passes)
        ∙ or_left (is_source s x) (list_any (is_source s) (filter p xs)) here
    | inr later ↦ find_if (p x) x (filter p xs) (filter_finds p passes xs later)
  ]

  pub once_finds : (xs : List Source) → list_any (is_source s) xs ≡ true → list_any (is_source s) (once xs) ≡ true
  once_finds [] found = found
  once_finds (x ∷ xs) found =
      let rest : List Source = filter (λ y. not (is_source x y)) (once xs) in
      elim (cases_Bool (is_source s x)) [
        | inl here ↦ or_left (is_source s x) (list_any (is_source s) rest) here
        | inr other ↦ elim (or_cases (is_source s x) (list_any (is_source s) xs) found) [
          | inl here ↦ or_left (is_source s x) (list_any (is_source s) rest) here
          | inr later ↦
              or_right (is_source s x) (list_any (is_source s) rest)
              (filter_finds (λ y. not (is_source x y)) (not_from_false (is_source x s) (not_source_back s x other)) (once xs) (once_finds xs later))
        ]
      ]

  -- a source that is in the list has its place there
  place_if : (b : Bool) (n count : ℕ) → (b ≡ false → n < count) → (if b then 0 else suc n) < suc count
  place_if true n count earlier = omega arith
  place_if false n count earlier = omega (arith, earlier refl)

  pub place_within : (xs : List Source) → list_any (is_source s) xs ≡ true → place_in xs s < length xs
  place_within [] found = absurd (true≢false (sym found))
  place_within (x ∷ xs) found =
      place_if (is_source s x) (place_in xs s) (length xs)
      (λ other. elim (or_cases (is_source s x) (list_any (is_source s) xs) found) [
        | inl here ↦ absurd (true≢false (sym here ∙ other))
        | inr later ↦ place_within xs later
      ])

  -- what stands there is the source
  pub at_place : (xs : List Source) (past : Source) → list_any (is_source s) xs ≡ true → get_or xs (place_in xs s) past ≡ s
  at_place [] past found = absurd (true≢false (sym found))
  at_place (x ∷ xs) past found = by_first (at_place xs past) (is_source s x) refl
    where
      by_first : (list_any (is_source s) xs ≡ true → get_or xs (place_in xs s) past ≡ s)
          → (b : Bool) → is_source s x ≡ b → get_or (x ∷ xs) (if b then 0 else suc (place_in xs s)) past ≡ s
      by_first later true is = sym (same_source s x is)
      by_first later false is = elim (or_cases (is_source s x) (list_any (is_source s) xs) found) [
        | inl here ↦ absurd (true≢false (sym here ∙ is))
        | inr behind ↦ later behind
      ]

-- ---- elements

-- each source of a list is in it
pub own_sources : (xs : List Source) → AllByRecursion (λ s. list_any (is_source s) xs ≡ true) xs
own_sources [] = tt
own_sources (x ∷ xs) = (
  or_left (is_source x x) (list_any (is_source x) xs) (is_source-itself x),
  each_weaker (λ s. list_any (is_source s) xs ≡ true) (λ s. list_any (is_source s) (x ∷ xs) ≡ true)
      (λ s found. or_right (is_source s x) (list_any (is_source s) xs) found) xs (own_sources xs),
)

-- what holds of each source of a list holds of one that is in it
pub each_among : (P : Source → Type 0) (s : Source) (xs : List Source) → AllByRecursion P xs → list_any (is_source s) xs ≡ true → P s
each_among P s [] all found = absurd (true≢false (sym found))
each_among P s (x ∷ xs) all found = elim (or_cases (is_source s x) (list_any (is_source s) xs) found) [
  | inl here ↦ subst P (sym (same_source s x here)) all.0
  | inr later ↦ each_among P s xs all.1 later
]

-- at a place of what a list of sources gives stands 0, past its end, or what one of them gives
pub given_at : (f : Source → ℕ) (xs : List Source) (i : ℕ)
    → (slice_index (map f xs) i ≡ 0) ⊎ ((s : Source) × (list_any (is_source s) xs ≡ true) × (f s ≡ slice_index (map f xs) i))
given_at f [] i = inl refl
given_at f (x ∷ xs) zero = inr (x, or_left (is_source x x) (list_any (is_source x) xs) (is_source-itself x), refl)
given_at f (x ∷ xs) (suc i) = elim (given_at f xs i) [
  | inl past ↦ inl past
  | inr found ↦ inr (found.0, or_right (is_source found.0 x) (list_any (is_source found.0) xs) found.1, found.2)
]
