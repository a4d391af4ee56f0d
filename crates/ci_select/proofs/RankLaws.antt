-- The first of the candidates that the rounds hold saves most.
use Rattle.std.proofs.Common.{◌≡◌, ℕ, ◌<◌, ◌≤◌, ◌⊎◌, inl, inr, ◌↔◌, false, true≢false, List, [], length, map, Option}
use Rattle.std.proofs.Common.{Some, None, Ordering, refl, sym, ap, ◌∙◌, arith}
use Rattle.std.specs.Prelude.{slice_get, IsSome, IfSome, MatchOption}
use Rattle.std.specs.List.{All, Contains}
use Rattle.std.specs.Map.{keys_of}
use Rattle.std.specs.Ordering.{is_gt, nat_cmp, ordering_then}
use Rattle.std.proofs.lemmas.Cmp.{by_ranked, ranked}
use Rattle.std.proofs.lemmas.List.{get_or-map, length-map, nil_from_length}
use Rattle.std.proofs.lemmas.List.Elements.{All-contains}
use Rattle.std.proofs.lemmas.Option.{get_or_from_slice_get, slice_get_within}
use Rattle.ci_select.specs.declared.rounds.Candidate.{Candidate}
use Rattle.ci_select.specs.declared.rounds.Rank.{Rank}
use Rattle.ci_select.specs.private.Followed.{IsFirst}

-- more saved goes first, and then the lesser leader
abbrev pub rank_order : Rank → Rank → Ordering
rank_order x y = ordering_then (nat_cmp y.saved.0 x.saved.0) (nat_cmp x.leader y.leader)

numbers_in_order :
    (a b l m : ℕ) → is_gt (ordering_then (nat_cmp b a) (nat_cmp l m)) ≡ false → (b < a) ⊎ ((b ≡ a) × (l ≤ m))
numbers_in_order a b l m first =
    by_ranked (b < a) (b ≡ a) (a < b) (nat_cmp b a) (ranked b a (nat_cmp b a) refl) (λ is less. inl less)
    (λ is same. inr (
      same,
      by_ranked (l < m) (l ≡ m) (m < l) (nat_cmp l m) (ranked l m (nat_cmp l m) refl) (λ _ less. omega arith)
          (λ _ equal. omega arith)
          (λ more _. absurd (true≢false
          (sym (ap is_gt more) ∙ sym (ap (λ o. is_gt (ordering_then o (nat_cmp l m))) is) ∙ first))),
    ))
    (λ is more. absurd (true≢false (sym (ap (λ o. is_gt (ordering_then o (nat_cmp l m))) is) ∙ first)))

module _ {X Y : Type 0} (f : X → Y) where
  -- what a function makes of an element stands among what it makes of all
  pub mapped_there : (xs : List X) (x : X) → Contains xs x → Contains (map f xs) (f x)
  mapped_there xs x there = (there.0, rw length-map there.1, get_or-map f xs there.0 x (f x) there.1 ∙ ap f there.2)

-- the first entry, where no rank goes before its own
pub first_of_all :
    (entries : List (Rank × Candidate)) (first : Rank × Candidate) → slice_get entries 0 ≡ Some first
    → All (λ rank. is_gt (rank_order first.0 rank) ≡ false) (keys_of entries) → IsFirst entries first
first_of_all entries first at all = record {
  there = (0, slice_get_within entries 0 first at, get_or_from_slice_get entries 0 first first at);
  before = λ other there.
      numbers_in_order first.0.saved.0 other.0.saved.0 first.0.leader other.0.leader
      (All-contains (λ rank. is_gt (rank_order first.0 rank) ≡ false) (keys_of entries) other.0 all
      (mapped_there (λ (e : Rank × Candidate). e.0) entries other there));
}

-- by the clauses of `first_key_value`, `pair` being the entry of what that answers
pub first_found :
    {A : Type 0} (entries : List (Rank × Candidate)) (pair : A → Rank × Candidate) (found : Option A)
    → (IsSome found ↔ (0 < length entries)) → IfSome found (λ p. slice_get entries 0 ≡ Some (pair p))
    → IfSome found (λ p. All (λ rank. is_gt (rank_order (pair p).0 rank) ≡ false) (keys_of entries))
    → MatchOption found (entries ≡ []) (λ p. IsFirst entries (pair p))
first_found entries pair None some first all =
    nil_from_length entries (omega (arith, λ (h : 0 < length entries). true≢false (sym (some.1 h))))
first_found entries pair (Some p) some first all = first_of_all entries (pair p) first all
