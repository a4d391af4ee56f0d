-- What stands in a list of entries where one more is put in its place.
use Rattle.std.proofs.Common.{◌≡◌, zero, suc, ◌⊎◌, inl, inr, refl, sym, ap, subst, ◌∙◌, List, [], ◌∷◌, arith}
use Rattle.std.specs.List.{Contains}
use Rattle.std.specs.BTreeMap.{insert_entry}
use Rattle.std.specs.Ordering.{match_ordering}
use Rattle.std.specs.declared.cmp.Ordering.{Ordering}
use Rattle.std.specs.declared.cmp.Ordering.TheVariants.{Less, Equal, Greater}

-- ---- the first of a list, and the others

module _ {X : Type 0} where
  -- the first is there,
  pub first_there : (x : X) (xs : List X) → Contains (x ∷ xs) x
  first_there x xs = (0, omega arith, refl)

  -- what is behind it is,
  pub later_there : (x y : X) (xs : List X) → Contains xs y → Contains (x ∷ xs) y
  later_there x y xs (k, within, is) = (suc k, omega arith, is)

  -- and nothing else is
  pub there_cases : (x y : X) (xs : List X) → Contains (x ∷ xs) y → (x ≡ y) ⊎ Contains xs y
  there_cases x y xs (zero, within, is) = inl is
  there_cases x y xs (suc k, within, is) = inr (k, omega arith, is)

-- ---- entries

module _ {K X : Type 0} (cmp : K → K → Ordering) (k : K) (v : X) where
  -- by how the new key compares to the first: the new entry is there,
  new_by_order : (one : K × X) (es : List (K × X)) (o : Ordering) → cmp k one.0 ≡ o
      → ((q : K) → cmp k q ≡ Equal → q ≡ k) → Contains (insert_entry cmp es k v) (k, v)
      → Contains (match_ordering o ((k, v) ∷ one ∷ es) ((one.0, v) ∷ es) (one ∷ insert_entry cmp es k v)) (k, v)
  new_by_order one es Less is same rest = first_there (k, v) (one ∷ es)
  new_by_order one es Equal is same rest =
      subst (λ (q : K). Contains ((q, v) ∷ es) (k, v)) (sym (same one.0 is)) (first_there (k, v) es)
  new_by_order one es Greater is same rest = later_there one (k, v) (insert_entry cmp es k v) rest

  -- the new entry is there,
  pub new_is_there : (es : List (K × X)) → ((q : K) → cmp k q ≡ Equal → q ≡ k)
      → Contains (insert_entry cmp es k v) (k, v)
  new_is_there [] same = first_there (k, v) []
  new_is_there (one ∷ es) same = new_by_order one es (cmp k one.0) refl same (new_is_there es same)

  -- one of another key stays,
  other_by_order : (one e : K × X) (es : List (K × X)) (o : Ordering) → cmp k one.0 ≡ o
      → ((q : K) → cmp k q ≡ Equal → q ≡ k) → ¬ (e.0 ≡ k) → (one ≡ e) ⊎ Contains es e
      → (Contains es e → Contains (insert_entry cmp es k v) e)
      → Contains (match_ordering o ((k, v) ∷ one ∷ es) ((one.0, v) ∷ es) (one ∷ insert_entry cmp es k v)) e
  other_by_order one e es Less is same other (inl first) rest =
      later_there (k, v) e (one ∷ es) (subst (λ (x : K × X). Contains (one ∷ es) x) first (first_there one es))
  other_by_order one e es Less is same other (inr later) rest =
      later_there (k, v) e (one ∷ es) (later_there one e es later)
  other_by_order one e es Equal is same other (inl first) rest =
      absurd (other (ap (λ (x : K × X). x.0) (sym first) ∙ same one.0 is))
  other_by_order one e es Equal is same other (inr later) rest = later_there (one.0, v) e es later
  other_by_order one e es Greater is same other (inl first) rest =
      subst (λ (x : K × X). Contains (one ∷ insert_entry cmp es k v) x) first
      (first_there one (insert_entry cmp es k v))
  other_by_order one e es Greater is same other (inr later) rest =
      later_there one e (insert_entry cmp es k v) (rest later)

  -- those of other keys stay,
  pub others_stay : (es : List (K × X)) (e : K × X) → ((q : K) → cmp k q ≡ Equal → q ≡ k) → ¬ (e.0 ≡ k)
      → Contains es e → Contains (insert_entry cmp es k v) e
  others_stay [] e same other (j, within, is) = absurd (omega arith)
  others_stay (one ∷ es) e same other there =
      other_by_order one e es (cmp k one.0) refl same other (there_cases one e es there) (others_stay es e same other)

  -- and what is there is new or was there
  cases_by_order : (one e : K × X) (es : List (K × X)) (o : Ordering) → cmp k one.0 ≡ o
      → ((q : K) → cmp k q ≡ Equal → q ≡ k)
      → (Contains (insert_entry cmp es k v) e → (e ≡ (k, v)) ⊎ Contains es e)
      → Contains (match_ordering o ((k, v) ∷ one ∷ es) ((one.0, v) ∷ es) (one ∷ insert_entry cmp es k v)) e
      → (e ≡ (k, v)) ⊎ Contains (one ∷ es) e
  cases_by_order one e es Less is same rest there =
      elim (there_cases (k, v) e (one ∷ es) there) [ inl new ↦ inl (sym new) | inr old ↦ inr old ]
  cases_by_order one e es Equal is same rest there =
      elim (there_cases (one.0, v) e es there) [
        | inl new ↦ inl (sym new ∙ ap (λ (q : K). (q, v)) (same one.0 is))
        | inr old ↦ inr (later_there one e es old)
      ]
  cases_by_order one e es Greater is same rest there =
      elim (there_cases one e (insert_entry cmp es k v) there) [
        | inl first ↦ inr (subst (λ (x : K × X). Contains (one ∷ es) x) first (first_there one es))
        | inr later ↦ elim (rest later) [ inl new ↦ inl new | inr old ↦ inr (later_there one e es old) ]
      ]

  -- and what is there is the new one or was there before.
  pub entry_cases : (es : List (K × X)) (e : K × X) → ((q : K) → cmp k q ≡ Equal → q ≡ k)
      → Contains (insert_entry cmp es k v) e → (e ≡ (k, v)) ⊎ Contains es e
  entry_cases [] e same there =
      elim (there_cases (k, v) e [] there) [ inl new ↦ inl (sym new) | inr old ↦ inr old ]
  entry_cases (one ∷ es) e same there =
      cases_by_order one e es (cmp k one.0) refl same (entry_cases es e same) there
