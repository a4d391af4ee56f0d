-- The inputs of a cut, read member by member, are the sources outside that its members read, each once.
use Rattle.std.proofs.Common.{◌≡◌, ℕ, zero, suc, ◌+◌, Bool, true, false, not, ◌&&◌, ◌||◌, cond, if◌then◌else◌}
use Rattle.std.proofs.Common.{List, [], ◌∷◌, ◌++◌, filter, find, fold, slice_get, Some, None, refl, sym, ap, ◌∙◌, subst, inl, inr, add-one, append-nil}
use Rattle.std.specs.List.{list_any, flat_map}
use Rattle.std.proofs.lemmas.Bool.{cases_Bool, and_left, and_right}
use Rattle.std.proofs.lemmas.List.{append_assoc}
use Rattle.std.proofs.lemmas.List.Folds.{list_any-append}
use Rattle.std.proofs.lemmas.List.Concat.{flat_map-append}
use Rattle.std.proofs.lemmas.List.Elements.{filter_agree}
use Rattle.ci_word.specs.Numbers.{numbers_below}
use Rattle.ci_word.proofs.NumberLaws.{numbers_below-zero, numbers_below-suc}
use Rattle.ci_cut.specs.declared.graph.Source.{Source}
use Rattle.ci_cut.specs.declared.graph.Node.{Node}
use Rattle.ci_cut.specs.FlowGraph.{FlowGraph, node_at, is_source, reads}
use Rattle.ci_cut.specs.Ports.{is_outside}
use Rattle.ci_unit.specs.Units.{once}
use Rattle.ci_unit.specs.private.Reading.{with_input, with_inputs, inputs_below, is_further, sources_below}
use Rattle.ci_unit.proofs.SourceLaws.{same_source, not_source_back, is_source-itself}

-- ---- lists

filter_if : {X : Type 0} (p : X → Bool) (b : Bool) (x : X) (xs : List X) → filter p (cond b (x ∷ xs) xs) ≡ cond (b && p x) (x ∷ filter p xs) (filter p xs)
filter_if p true x xs = refl
filter_if p false x xs = refl

filter_twice : {X : Type 0} (p q : X → Bool) (xs : List X) → filter p (filter q xs) ≡ filter (λ x. q x && p x) xs
filter_twice p q [] = refl
filter_twice p q (x ∷ xs) =
    filter_if p (q x) x (filter q xs)
    ∙ ap (λ l. cond (q x && p x) (x ∷ l) l) (filter_twice p q xs)

fold_append : (f : List Source → Source → List Source) (a : List Source) (xs ys : List Source) → fold f a (xs ++ ys) ≡ fold f (fold f a xs) ys
fold_append f a [] ys = refl
fold_append f a (x ∷ xs) ys = fold_append f (f a x) xs ys

-- ---- one source after the other

abbrev is_new : List Source → Source → Bool
is_new seen s = not (list_any (is_source s) seen)

abbrev is_other : Source → Source → Bool
is_other x y = not (is_source x y)

new_besides : (seen : List Source) (x y : Source) (b : Bool) → is_source x y ≡ b → list_any (is_source x) seen ≡ true
    → (is_other x y && is_new seen y) ≡ is_new seen y
new_besides seen x y true same there =
    ap (λ c. not c && is_new seen y) same
    ∙ sym (ap (λ z. not (list_any (is_source z) seen)) (sym (same_source x y same)) ∙ ap not there)
new_besides seen x y false other there = ap (λ c. not c && is_new seen y) other

neither : (a b : Bool) → not (a || (b || false)) ≡ (not b && not a)
neither true true = refl
neither true false = refl
neither false true = refl
neither false false = refl

same_back : (x y : Source) (b : Bool) → is_source x y ≡ b → is_source y x ≡ is_source x y
same_back x y true same = ap (λ z. is_source z x) (sym (same_source x y same)) ∙ ap (is_source x) (same_source x y same)
same_back x y false other = not_source_back x y other ∙ sym other

-- what is not new was seen
seen_is : (b : Bool) → not b ≡ false → b ≡ true
seen_is true e = refl
seen_is false e = sym e

new_after : (seen : List Source) (x y : Source) → is_new (seen ++ x ∷ []) y ≡ (is_other x y && is_new seen y)
new_after seen x y =
    ap not (list_any-append (is_source y) seen (x ∷ []))
    ∙ neither (list_any (is_source y) seen) (is_source y x)
    ∙ ap (λ b. not b && is_new seen y) (same_back x y (is_source x y) refl)

module _ (cut : ℕ → Bool) where
  -- what the sources of a list add to those that were seen
  abbrev pub added : List Source → List Source → List Source
  added seen xs = filter (is_new seen) (once (filter (is_outside cut) xs))

  added_inside : (seen : List Source) (x : Source) (xs : List Source) → is_outside cut x ≡ false → added seen (x ∷ xs) ≡ added seen xs
  added_inside seen x xs inside =
      ap (λ b. filter (is_new seen) (once (cond b (x ∷ filter (is_outside cut) xs) (filter (is_outside cut) xs)))) inside

  added_outside : (seen : List Source) (x : Source) (xs : List Source) (b : Bool) → is_outside cut x ≡ true → is_new seen x ≡ b
      → added seen (x ∷ xs)
      ≡ cond b (x ∷ filter (λ y. is_other x y && is_new seen y) (once (filter (is_outside cut) xs)))
      (filter (λ y. is_other x y && is_new seen y) (once (filter (is_outside cut) xs)))
  added_outside seen x xs b outside new =
      ap (λ c. filter (is_new seen) (once (cond c (x ∷ filter (is_outside cut) xs) (filter (is_outside cut) xs)))) outside
      ∙ (λ i. cond (new i) (x ∷ twice i) (twice i))
    where
      twice : filter (is_new seen) (filter (is_other x) (once (filter (is_outside cut) xs)))
          ≡ filter (λ y. is_other x y && is_new seen y) (once (filter (is_outside cut) xs))
      twice = filter_twice (is_new seen) (is_other x) (once (filter (is_outside cut) xs))

  added_new : (seen : List Source) (x : Source) (xs : List Source) → is_outside cut x ≡ true → is_new seen x ≡ true
      → added seen (x ∷ xs) ≡ x ∷ filter (λ y. is_other x y && is_new seen y) (once (filter (is_outside cut) xs))
  added_new seen x xs outside new = added_outside seen x xs true outside new

  added_there : (seen : List Source) (x : Source) (xs : List Source) → is_outside cut x ≡ true → is_new seen x ≡ false
      → added seen (x ∷ xs) ≡ added seen xs
  added_there seen x xs outside there =
      added_outside seen x xs false outside there
      ∙ filter_agree (λ y. is_other x y && is_new seen y) (is_new seen)
      (λ y. new_besides seen x y (is_source x y) refl (seen_is (list_any (is_source x) seen) there)) (once (filter (is_outside cut) xs))

  with_input_is : (seen : List Source) (x : Source) (b : Bool) → (is_outside cut x && is_new seen x) ≡ b
      → with_input cut seen x ≡ (if b then seen ++ x ∷ [] else seen)
  with_input_is seen x b test = ap (λ c. if c then seen ++ x ∷ [] else seen) test

  pub with_inputs_is : (xs seen : List Source) → with_inputs cut seen xs ≡ seen ++ added seen xs
  with_inputs_is [] seen = sym (append-nil seen)
  with_inputs_is (x ∷ xs) seen =
      let later : List Source = once (filter (is_outside cut) xs) in
      elim (cases_Bool (is_outside cut x)) [
        | inr inside ↦
            ap (λ inputs. with_inputs cut inputs xs) (with_input_is seen x false (and_left (is_outside cut x) (is_new seen x) inside))
            ∙ with_inputs_is xs seen ∙ ap (λ l. seen ++ l) (sym (added_inside seen x xs inside))
        | inl outside ↦ elim (cases_Bool (list_any (is_source x) seen)) [
          | inl there ↦
              ap (λ inputs. with_inputs cut inputs xs)
              (with_input_is seen x false (λ i. outside i && not (there i)))
              ∙ with_inputs_is xs seen
              ∙ ap (λ l. seen ++ l)
              (filter_agree (is_new seen) (λ y. is_other x y && is_new seen y)
              (λ y. sym (new_besides seen x y (is_source x y) refl there)) later
              ∙ sym (added_outside seen x xs false outside (ap not there)))
          | inr new ↦
              ap (λ inputs. with_inputs cut inputs xs)
              (with_input_is seen x true (λ i. outside i && not (new i)))
              ∙ with_inputs_is xs (seen ++ x ∷ [])
              ∙ append_assoc seen (x ∷ []) (filter (is_new (seen ++ x ∷ [])) later)
              ∙ ap (λ l. seen ++ x ∷ l) (filter_agree (is_new (seen ++ x ∷ [])) (λ y. is_other x y && is_new seen y) (new_after seen x) later)
              ∙ ap (λ l. seen ++ l) (sym (added_outside seen x xs true outside (ap not new)))
        ]
      ]

  -- ---- one input after the other

  no_first : (xs : List Source) → slice_get xs 0 ≡ None → xs ≡ []
  no_first [] none = refl
  no_first (x ∷ xs) none = cc

  -- the first source of a list that lies outside and is none of those that were seen is the first that it adds to them
  pub further_first : (seen xs : List Source) → find (is_further cut seen) xs ≡ slice_get (added seen xs) 0
  further_first seen [] = refl
  further_first seen (x ∷ xs) =
      elim (cases_Bool (is_outside cut x)) [
        | inr inside ↦
            ap (λ b. cond b (Some x) (find (is_further cut seen) xs)) (and_left (is_outside cut x) (is_new seen x) inside)
            ∙ further_first seen xs ∙ ap (λ l. slice_get l 0) (sym (added_inside seen x xs inside))
        | inl outside ↦ elim (cases_Bool (is_new seen x)) [
          | inl new ↦
              ap (λ b. cond b (Some x) (find (is_further cut seen) xs)) (λ i. outside i && new i)
              ∙ ap (λ l. slice_get l 0) (sym (added_new seen x xs outside new))
          | inr there ↦
              ap (λ b. cond b (Some x) (find (is_further cut seen) xs)) (λ i. outside i && there i)
              ∙ further_first seen xs ∙ ap (λ l. slice_get l 0) (sym (added_there seen x xs outside there))
        ]
      ]

  pub further_none : (seen xs : List Source) → find (is_further cut seen) xs ≡ None → added seen xs ≡ []
  further_none seen xs none = no_first (added seen xs) (sym (further_first seen xs) ∙ none)

  -- and the list adds the others to those that were seen and this one
  pub further_rest : (seen xs : List Source) (s : Source) → find (is_further cut seen) xs ≡ Some s → added seen xs ≡ s ∷ added (seen ++ s ∷ []) xs
  further_rest seen [] s found = cc
  further_rest seen (x ∷ xs) s found =
      elim (cases_Bool (is_outside cut x)) [
        | inr inside ↦
            added_inside seen x xs inside
            ∙ further_rest seen xs s (sym (passed (and_left (is_outside cut x) (is_new seen x) inside)) ∙ found)
            ∙ ap (λ l. s ∷ l) (sym (added_inside (seen ++ s ∷ []) x xs inside))
        | inl outside ↦ elim (cases_Bool (is_new seen x)) [
          | inl new ↦
              let this : x ≡ s =
              let e : Some x ≡ Some s = sym (ap (λ b. cond b (Some x) (find (is_further cut seen) xs)) (λ i. outside i && new i)) ∙ found in cc in
              added_new seen x xs outside new
              ∙ subst (λ z. x ∷ filter (λ y. is_other x y && is_new seen y) (once (filter (is_outside cut) xs)) ≡ z ∷ added (seen ++ z ∷ []) (x ∷ xs))
              this (ap (λ l. x ∷ l) (sym (others outside)))
          | inr there ↦
              added_there seen x xs outside there
              ∙ further_rest seen xs s (sym (passed (λ i. outside i && there i)) ∙ found)
              ∙ ap (λ l. s ∷ l) (sym (added_there (seen ++ s ∷ []) x xs outside (new_after seen s x ∙ and_right (is_other s x) (is_new seen x) there)))
        ]
      ]
    where
      passed : is_further cut seen x ≡ false → find (is_further cut seen) (x ∷ xs) ≡ find (is_further cut seen) xs
      passed fails = ap (λ b. cond b (Some x) (find (is_further cut seen) xs)) fails

      -- what the list adds once its first source was seen
      others : is_outside cut x ≡ true
          → added (seen ++ x ∷ []) (x ∷ xs) ≡ filter (λ y. is_other x y && is_new seen y) (once (filter (is_outside cut) xs))
      others outside =
          added_there (seen ++ x ∷ []) x xs outside (new_after seen x x ∙ ap (λ b. not b && is_new seen x) (is_source-itself x))
          ∙ filter_agree (is_new (seen ++ x ∷ [])) (λ y. is_other x y && is_new seen y) (new_after seen x) (once (filter (is_outside cut) xs))

-- ---- all inputs

filter_all : (ys : List Source) → filter (is_new []) ys ≡ ys
filter_all [] = refl
filter_all (y ∷ ys) = ap (λ l. y ∷ l) (filter_all ys)

module _ (graph : FlowGraph) (cut : ℕ → Bool) where
  pub sources_more : (n : ℕ) (b : Bool) → cut n ≡ b
      → sources_below graph cut (suc n) ≡ sources_below graph cut n ++ (if b then (node_at graph n).sources else [])
  sources_more n b test =
      ap (λ l. flat_map (λ k. (node_at graph k).sources) l) (numbers_below-suc n cut ∙ ap (λ c. numbers_below n cut ++ (if c then n ∷ [] else [])) test)
      ∙ flat_map-append (λ k. (node_at graph k).sources) (numbers_below n cut) (if b then n ∷ [] else [])
      ∙ ap (λ l. sources_below graph cut n ++ l) (last b)
    where
      last : (c : Bool) → flat_map (λ k. (node_at graph k).sources) (if c then n ∷ [] else []) ≡ (if c then (node_at graph n).sources else [])
      last true = append-nil (node_at graph n).sources
      last false = refl

  read_below : (n : ℕ) → inputs_below graph cut n ≡ with_inputs cut [] (sources_below graph cut n)
  unfolding inputs_below
  read_below zero = sym (ap (λ l. with_inputs cut [] (flat_map (λ k. (node_at graph k).sources) l)) (numbers_below-zero cut))
  read_below (suc n) = elim (cases_Bool (cut n)) [
    | inl here ↦
        ap (λ b. if b then with_inputs cut (inputs_below graph cut n) (node_at graph n).sources else inputs_below graph cut n) here
        ∙ ap (λ l. with_inputs cut l (node_at graph n).sources) (read_below n)
        ∙ sym (ap (with_inputs cut []) (sources_more n true here) ∙ fold_append (with_input cut) [] (sources_below graph cut n) (node_at graph n).sources)
    | inr fails ↦
        ap (λ b. if b then with_inputs cut (inputs_below graph cut n) (node_at graph n).sources else inputs_below graph cut n) fails
        ∙ read_below n
        ∙ sym (ap (with_inputs cut []) (sources_more n false fails ∙ append-nil (sources_below graph cut n)))
  ]

  pub inputs_are : (n : ℕ) → inputs_below graph cut n ≡ once (filter (is_outside cut) (sources_below graph cut n))
  inputs_are n = read_below n ∙ with_inputs_is cut (sources_below graph cut n) [] ∙ filter_all (once (filter (is_outside cut) (sources_below graph cut n)))

  pub inputs_added : (n : ℕ) → inputs_below graph cut n ≡ added cut [] (sources_below graph cut n)
  inputs_added n = read_below n ∙ with_inputs_is cut (sources_below graph cut n) []

-- one member more, and one node that is none
pub inputs_more : (graph : FlowGraph) (cut : ℕ → Bool) (k : ℕ) → cut k ≡ true
    → with_inputs cut (inputs_below graph cut k) (node_at graph k).sources ≡ inputs_below graph cut (k + 1)
unfolding inputs_below
inputs_more graph cut k here =
    sym (ap (λ b. if b then with_inputs cut (inputs_below graph cut k) (node_at graph k).sources else inputs_below graph cut k) here)
    ∙ ap (inputs_below graph cut) (sym (add-one k))

pub inputs_kept : (graph : FlowGraph) (cut : ℕ → Bool) (k : ℕ) → cut k ≡ false → inputs_below graph cut k ≡ inputs_below graph cut (k + 1)
unfolding inputs_below
inputs_kept graph cut k fails =
    sym (ap (λ b. if b then with_inputs cut (inputs_below graph cut k) (node_at graph k).sources else inputs_below graph cut k) fails)
    ∙ ap (inputs_below graph cut) (sym (add-one k))

pub inputs_below-zero : (graph : FlowGraph) (cut : ℕ → Bool) → inputs_below graph cut 0 ≡ []
unfolding inputs_below
inputs_below-zero graph cut = refl

-- what the node that stands there reads
pub reads_there : (graph : FlowGraph) (k : ℕ) (node : Node) (sources : List Source) (s : Source) → node_at graph k ≡ node
    → sources ≡ node.sources → reads graph k s ≡ list_any (is_source s) sources
reads_there graph k node sources s there are = ap (list_any (is_source s)) (ap (λ n. n.sources) there ∙ sym are)
