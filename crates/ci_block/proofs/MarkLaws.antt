-- Marks by places: what a flag says of a word.
use Rattle.std.proofs.Common.{Some, None, ◌≡◌, ℕ, ◌+◌, ◌<◌, ◌⊎◌, inl, inr, List, [], ◌∷◌, ◌++◌, length, take, get_or}
use Rattle.std.proofs.Common.{true, false, refl, sym, ◌∙◌, ap, subst, arith}
use Rattle.std.specs.Prelude.{slice_set}
use Rattle.std.specs.List.{Contains}
use Rattle.std.proofs.lemmas.Bool.{cases_eq}
use Rattle.std.proofs.lemmas.List.{get_or-set_same, get_or-set_other, take_more}
use Rattle.std.proofs.lemmas.List.Elements.{Contains-append_left, Contains-push, Contains-push_cases}
use Rattle.ci_elf.specs.Executables.{IsTextWord}
use Rattle.ci_elf.specs.WordPlaces.{word_place}
use Rattle.ci_elf.proofs.WordPlaceLaws.{no_text_word, one_word, word_below}
use Rattle.ci_block.specs.declared.marks.Marks.{Marks}
use Rattle.ci_block.specs.private.Marks.{Adds, IsMarked}

same_number : (a b : ℕ) → Some a ≡ Some b → a ≡ b
same_number a b is = cc

module _ (marks : Marks) (a p : ℕ) (there : word_place marks.places a ≡ Some p) where
  pub marked_by_flag : get_or marks.flags.items p false ≡ true → IsMarked marks a
  marked_by_flag set = record { place = p; there = there; set = set }

  pub flag_of_marked : IsMarked marks a → get_or marks.flags.items p false ≡ true
  flag_of_marked m = subst (λ q. get_or marks.flags.items q false ≡ true) (same_number m.place p (sym m.there ∙ there)) m.set

-- what is no word is not marked, and is not to be marked
module _ (marks : Marks) (address : ℕ) (none : word_place marks.places address ≡ None) where
  pub not_marked : ¬ IsMarked marks address
  not_marked m = let e = sym none ∙ m.there in cc

  pub nothing_marked : Adds marks marks (λ a. address ≡ a)
  nothing_marked = record {
    ranges = refl;
    kept = λ a m. m;
    added = λ a text e. absurd (no_text_word marks.places address none (subst (IsTextWord marks.places) (sym e) text));
    only = λ a m. inl m;
  }

-- ---- one word more

module _ (old new : Marks) (address place : ℕ) (same : new.places ≡ old.places) (there : word_place old.places address ≡ Some place)
    (written : new.flags.items ≡ slice_set old.flags.items place true) where
  within : place < length old.flags.items
  within = omega (arith, old.whole, word_below old.places address place there)

  pub word_marked : Adds old new (λ a. address ≡ a)
  word_marked = record {
    ranges = same;
    kept = λ a m. record {
      place = m.place;
      there = ap (λ rs. word_place rs a) same ∙ m.there;
      set = rw written (elim (cases_eq m.place place) [
        | inl e ↦ rw e (get_or-set_same old.flags.items place true false within)
        | inr e ↦ get_or-set_other old.flags.items place m.place true false e ∙ m.set
      ]);
    };
    added = λ a text e. record {
      place = place;
      there = ap (λ rs. word_place rs a) same ∙ ap (word_place old.places) (sym e) ∙ there;
      set = rw written (get_or-set_same old.flags.items place true false within);
    };
    only = λ a m.
        let before : word_place old.places a ≡ Some m.place = ap (λ rs. word_place rs a) (sym same) ∙ m.there in
        elim (cases_eq m.place place) [
          | inl e ↦ inr (one_word old.places address a place there (before ∙ ap Some e))
          | inr e ↦ inl (record {
            place = m.place;
            there = before;
            set = sym (get_or-set_other old.flags.items place m.place true false e) ∙ sym (ap (λ fs. get_or fs m.place false) written) ∙ m.set;
          })
        ];
  }

-- ---- what is added

-- the property may be another where it is equivalent
pub added_as : (old new : Marks) (P Q : ℕ → Type 0) → Adds old new P → ((a : ℕ) → P a → Q a) → ((a : ℕ) → Q a → P a) → Adds old new Q
added_as old new P Q adds to from = record {
  ranges = adds.ranges;
  kept = adds.kept;
  added = λ a text q. adds.added a text (from a q);
  only = λ a m. elim (adds.only a m) [ inl o ↦ inl o | inr p ↦ inr (to a p) ];
}

-- what the first items add, once there are no others
pub added_by_all : (old new : Marks) (P : ℕ → ℕ → Type 0) (Q : ℕ → Type 0) (i n : ℕ) → i ≡ n → Adds old new (P i) → ((a : ℕ) → P i a → Q a)
    → ((a : ℕ) → Q a → P n a) → Adds old new Q
added_by_all old new P Q i n all adds to from = added_as old new (P i) Q adds to (λ a q. subst (λ m. P m a) (sym all) (from a q))

-- one after the other
pub added_both : (first middle last : Marks) (P Q R : ℕ → Type 0) → Adds first middle P → Adds middle last Q
    → ((a : ℕ) → P a ⊎ Q a → R a) → ((a : ℕ) → R a → P a ⊎ Q a) → Adds first last R
added_both first middle last P Q R one two to from = added_as first last (λ a. P a ⊎ Q a) R (record {
  ranges = two.ranges ∙ one.ranges;
  kept = λ a m. two.kept a (one.kept a m);
  added = λ a text pq. elim pq [
    | inl p ↦ two.kept a (one.added a text p)
    | inr q ↦ two.added a (subst (λ rs. IsTextWord rs a) (sym one.ranges) text) q
  ];
  only = λ a m. elim (two.only a m) [
    | inl n ↦ elim (one.only a n) [ inl o ↦ inl o | inr p ↦ inr (inl p) ]
    | inr q ↦ inr (inr q)
  ];
}) to from

-- ---- a list of addresses

module _ (xs : List ℕ) (i x : ℕ) (below : i < length xs) (is : x ≡ get_or xs i 0) where
  more : take (i + 1) xs ≡ take i xs ++ x ∷ []
  more = take_more xs i 0 below ∙ ap (λ y. take i xs ++ y ∷ []) (sym is)

  pub contained_more : (a : ℕ) → Contains (take i xs) a ⊎ (x ≡ a) → Contains (take (i + 1) xs) a
  contained_more a h = subst (λ ys. Contains ys a) (sym more) (elim h [
    | inl c ↦ Contains-append_left (take i xs) (x ∷ []) a c
    | inr e ↦ subst (Contains (take i xs ++ x ∷ [])) e (Contains-push (take i xs) x)
  ])

  pub contained_before : (a : ℕ) → Contains (take (i + 1) xs) a → Contains (take i xs) a ⊎ (x ≡ a)
  contained_before a h = Contains-push_cases (take i xs) x a (subst (λ ys. Contains ys a) more h)
