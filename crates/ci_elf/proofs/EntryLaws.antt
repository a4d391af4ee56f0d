-- A walk over the entries of a symbol table, of which some are taken.
use Rattle.std.proofs.Common.{◌≡◌, ◌≢◌, ℕ, zero, suc, ◌+◌, ◌-◌, ◌*◌, ◌%◌, ◌<◌, ◌≤◌, ◌==◌, ◌||◌, nat_eq}
use Rattle.std.proofs.Common.{Bool, true, false, not, cond, List, [], ◌∷◌, ◌++◌, inl, inr, refl, sym, ◌∙◌, ap, arith}
use Rattle.std.proofs.Common.{append_assoc, add-zero, length, subst}
use Rattle.std.proofs.lemmas.Bool.{cases_eq}
use Rattle.std.proofs.lemmas.Bool.Decides.{nat_tests}
use Rattle.std.proofs.lemmas.List.{append-nil}
use Rattle.ci_reading.specs.Broken.{those_below}
use Rattle.ci_reading.proofs.BrokenLaws.{each_below_more, each_below_none}
use Rattle.ci_elf.specs.declared.taken.TakenPlaces.{TakenPlaces}
use Rattle.ci_elf.specs.Executables.{begins_entry}
use Rattle.ci_elf.specs.private.SymbolChecks.{IsRun, TakesToo, is_taken}

-- ---- where entries begin

begins_here : (start k : ℕ) → begins_entry start (start + 16 * (k + 1)) (start + 16 * k) ≡ true
begins_here start k =
    let whole : (start + 16 * k - start) % 16 ≡ 0 = omega arith in
    rw whole (grind (arith, nat_tests))

begins_else :
    (start k place : ℕ) → place ≢ start + 16 * k
    → begins_entry start (start + 16 * (k + 1)) place ≡ begins_entry start (start + 16 * k) place
begins_else start k place other = elim (cases_eq ((place - start) % 16) 0) [
  | inl whole ↦ grind (arith, nat_tests)
  | inr part ↦ grind (arith, nat_tests)
]

begins_more :
    (start k place : ℕ)
    → begins_entry start (start + 16 * (k + 1)) place ≡ (nat_eq place (start + 16 * k) || begins_entry start (start + 16 * k) place)
begins_more start k place = elim (cases_eq place (start + 16 * k)) [
  | inl same ↦ rw (same, begins_here start k) (grind (arith, nat_tests))
  | inr other ↦
      let no : nat_eq place (start + 16 * k) ≡ false = grind (arith, nat_tests) in
      rw (no, begins_else start k place other) refl
]

begins_none : (start k j : ℕ) → begins_entry start (start + 16 * k) (start + 16 * (k + j)) ≡ false
begins_none start k j = grind (arith, nat_tests)

begins_no_entry : (start place : ℕ) → begins_entry start (start + 16 * 0) place ≡ false
begins_no_entry start place = grind (arith, nat_tests)

-- ---- the walk

-- Behind `k` entries those that were free are listed, and all of them are taken: `before` and `now` tell which places
-- are taken.
pub record IsWalked
    (before now : ℕ → Bool) (value : ℕ → ℕ) (first start k : ℕ) (old items : List ℕ)
    : Type 0 where
  pub values : items ≡ old ++ those_below k (λ j. not (before (start + 16 * j))) value
  pub taken : (place : ℕ) → first ≤ place → now place ≡ (begins_entry start (start + 16 * k) place || before place)

module _ (before : ℕ → Bool) (value : ℕ → ℕ) (first start : ℕ) (old : List ℕ) where
  pub walk_begins : IsWalked before before value first start 0 old old
  walk_begins = record {
    values = rw (each_below_none, append-nil) refl;
    taken = λ place h. rw (begins_no_entry start place) refl;
  }

  module _ (now : ℕ → Bool) (k : ℕ) (items : List ℕ) (walked : IsWalked before now value first start k old items) where
    -- what is taken further on was taken before
    pub was_taken : first ≤ start → (j : ℕ) → before (start + 16 * (k + j)) ≡ now (start + 16 * (k + j))
    was_taken from j =
        let is = walked.taken (start + 16 * (k + j)) (omega arith) in
        sym (rw (begins_none start k j) at is)

    -- the same places are taken
    pub same_taken :
        (other : ℕ → Bool) → ((place : ℕ) → first ≤ place → other place ≡ now place)
        → IsWalked before other value first start k old items
    same_taken other same = record { values = walked.values; taken = λ place h. same place h ∙ walked.taken place h }

    -- one free entry more, which is taken
    pub one_free :
        (other : ℕ → Bool) → before (start + 16 * k) ≡ false
        → ((place : ℕ) → first ≤ place → other place ≡ (nat_eq place (start + 16 * k) || now place))
        → IsWalked before other value first start (k + 1) old (items ++ value k ∷ [])
    one_free other free taken = record {
      values =
          rw (each_below_more k (λ j. cond (not (before (start + 16 * j))) (value j ∷ []) []), free)
          (ap (λ l. l ++ value k ∷ []) walked.values ∙ append_assoc old _ (value k ∷ []));
      taken = λ place h. rw (taken place h, walked.taken place h, begins_more start k place) (both (nat_eq place (start + 16 * k)) _ _);
    }
      where
        both : (a b c : Bool) → (a || (b || c)) ≡ ((a || b) || c)
        both true b c = refl
        both false b c = refl

    -- one taken entry more
    pub one_taken : before (start + 16 * k) ≡ true → IsWalked before now value first start (k + 1) old items
    one_taken is = record {
      values =
          rw (each_below_more k (λ j. cond (not (before (start + 16 * j))) (value j ∷ []) []), is, append-nil) walked.values;
      taken = λ place h. rw (walked.taken place h, begins_more start k place) (elim (cases_eq place (start + 16 * k)) [
        | inl same ↦
            let taken : before place ≡ true = rw same is in
            rw taken (any (nat_eq place (start + 16 * k)) _)
        | inr other ↦
            let no : nat_eq place (start + 16 * k) ≡ false = grind (arith, nat_tests) in
            rw no refl
      ]);
    }
      where
        any : (a b : Bool) → (b || true) ≡ ((a || b) || true)
        any true true = refl
        any true false = refl
        any false b = refl

  -- so many taken entries more
  pub more_taken :
      (now : ℕ → Bool) (k : ℕ) (items : List ℕ) → IsWalked before now value first start k old items
      → (run : ℕ) → ((j : ℕ) → j < run → before (start + 16 * (k + j)) ≡ true)
      → IsWalked before now value first start (k + run) old items
  more_taken now k items walked zero taken = rw add-zero walked
  more_taken now k items walked (suc run) taken =
      let last : k + run + 1 ≡ k + suc run = omega arith in
      rw (← last) (one_taken now (k + run) items (more_taken now k items walked run (λ j h. taken j (omega arith)))
      (taken run (omega arith)))

-- ---- the walk over places

-- The places are those of the walk's begin, and the walk is behind `k` entries.
pub record IsAt (old new : TakenPlaces) (value : ℕ → ℕ) (start k : ℕ) (values items : List ℕ) : Type 0 where
  pub first : new.first ≡ old.first
  pub many : length new.runs.items ≡ length old.runs.items
  pub walked : IsWalked (is_taken old) (is_taken new) value old.first start k values items

module _ (old places after : TakenPlaces) (value : ℕ → ℕ) (start k : ℕ) (values items : List ℕ)
    (at : IsAt old places value start k values items) (from : old.first ≤ start) (same : TakesToo places after (λ _. false)) where
  walked_same : IsWalked (is_taken old) (is_taken after) value old.first start k values items
  walked_same =
      same_taken (is_taken old) value old.first start values (is_taken places) k items at.walked (is_taken after)
      (λ place h. same.taken place (omega (arith, at.first)))

  was : (j : ℕ) → is_taken old (start + 16 * (k + j)) ≡ is_taken places (start + 16 * (k + j))
  was = was_taken (is_taken old) value old.first start values (is_taken places) k items at.walked from

  -- the walk passes a run
  pub at_run : (run more : ℕ) → IsRun places (start + 16 * k) run → more ≤ run → IsAt old after value start (k + more) values items
  at_run run more is less = record {
    first = same.first ∙ at.first;
    many = same.many ∙ at.many;
    walked =
        more_taken (is_taken old) value old.first start values (is_taken after) k items walked_same more
        (λ j h.
        let place : start + 16 * k + 16 * j ≡ start + 16 * (k + j) = omega arith in
        was j ∙ subst (λ p. is_taken places p ≡ true) place (is.taken j (omega arith)));
  }

  -- the walk takes a free entry
  pub at_entry :
      (last : TakenPlaces) (run : ℕ) → IsRun places (start + 16 * k) run → run ≡ 0
      → TakesToo after last (λ place. place == (start + 16 * k))
      → IsAt old last value start (k + 1) values (items ++ value k ∷ [])
  at_entry last run is none taken =
      record {
        first = taken.first ∙ same.first ∙ at.first;
        many = taken.many ∙ same.many ∙ at.many;
        walked =
            one_free (is_taken old) value old.first start values (is_taken after) k items walked_same (is_taken last)
            (subst (λ j. is_taken old (start + 16 * j) ≡ is_taken places (start + 16 * j)) (add-zero k) (was 0) ∙ is.free none)
            (λ place h. taken.taken place (omega (arith, same.first, at.first)));
      }
