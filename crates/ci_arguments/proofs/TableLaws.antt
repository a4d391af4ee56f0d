-- Laws of the rows of a table: which names their options have, and that a word has one row.
use Rattle.std.proofs.Common.{◌≡◌, ◌∙◌, ◌<◌, ◌==◌, ◌&&◌, ◌||◌, ℕ, Bool, true, false, not, List, [], ◌∷◌, length}
use Rattle.std.proofs.Common.{map, codes, refl, sym, ap, subst, arith, zero, suc, get_or, is_some}
use Rattle.std.specs.Prelude.{All, Contains, cond, count_by}
use Rattle.std.specs.List.{list_all, list_any}
use Rattle.std.specs.Str.{bytes_eq}
use Rattle.std.proofs.lemmas.Bool.{and_from, and_parts, not-true}
use Rattle.std.proofs.lemmas.List.{get_or-map, length-map}
use Rattle.std.proofs.lemmas.List.Elements.{All-map, Contains-get_or}
use Rattle.std.proofs.lemmas.List.Folds.{list_any-from_Any}
use Rattle.std.proofs.lemmas.List.Sums.{AllPass-from_list_all, sum_by-cons}
use Rattle.clap.specs.Faults.{is_free_app}
use Rattle.clap.specs.Simple.{App, built, is_buildable, is_ready, is_ready_leaf}
use Rattle.clap.specs.Walk.{Rule, is_early_multiple}
use Rattle.clap.specs.Words.{is_simple_and_free}
use Rattle.ci_arguments.specs.Tables.{CommandRow, OptionRow}
use Rattle.ci_arguments.specs.Words.{Text}
use Rattle.ci_arguments.specs.private.Parses.{Known, known_in, app_by, app_for, are_distinct, are_rows, is_option_name, is_row, names_in, option_given, repeats_in}
use Rattle.ci_arguments.proofs.Rules.{built_is, names_rule, option_rule, rules, same_text, shape}
use Rattle.ci_arguments.proofs.States.{IsOption}

-- ---- tests

-- what is true of all is true of one that is there
pub true_there : {X : Type 0} (p : X → Bool) (xs : List X) → list_all p xs ≡ true → (x : X) → Contains xs x → p x ≡ true
true_there p xs e x there = subst (λ y. p y ≡ true) there.2 (AllPass-from_list_all p xs e there.0 x there.1)

-- ---- the options of a row

-- a name that an option can have
name_fits : (name : Text) → is_option_name name ≡ true → IsOption name
name_fits [] e = cc
name_fits (c ∷ cs) e =
    let both = and_parts (not (bytes_eq (codes "names") (c ∷ cs))) _ e in
    record {
      apart = not-true _ both.0;
      first = c;
      others = cs;
      filled = refl;
      no_equals = λ i lt is.
          let bad : false ≡ true = subst (λ d. not (d == 61) ≡ true) is (AllPass-from_list_all (λ d. not (d == 61)) (c ∷ cs) both.1 i 0 lt) in
          cc;
    }

-- what each option has, a name of one has
pub named_has : (options : List OptionRow) (P : Text → Type 0) → All (λ option. P option.name) options → (name : Text)
    → Contains (names_in options) name → P name
named_has options P all name there = subst P there.2 (All-map P (λ option. option.name) options all there.0 name there.1)

-- the name of an option that may stand only once may stand only once
pub once_known : (options : List OptionRow) (option : OptionRow) → Contains options option → option.repeatable ≡ false
    → repeats_in options option.name ≡ false
once_known options option there single =
    let test : (not option.repeatable && bytes_eq option.name option.name) ≡ true = rw (single, same_text option.name) refl in
    ap not (list_any-from_Any (λ o. not o.repeatable && bytes_eq o.name option.name) options (there.0, option, there.1, there.2, test))

module _ (row : CommandRow) (good : is_row row ≡ true) where
  -- what the test says of each option
  tested : All (λ option. (is_option_name option.name ≡ true) × ((not option.repeatable || repeats_in row.options option.name) ≡ true)) row.options
  tested k d lt = and_parts _ _ (AllPass-from_list_all
      (λ option. is_option_name option.name && (not option.repeatable || repeats_in row.options option.name)) row.options good k d lt)

  -- one name says whether it may stand more than once
  pub repeats_alike : All (λ option. option.repeatable ≡ repeats_in row.options option.name) row.options
  repeats_alike k d lt = go (get_or row.options k d).repeatable refl
    where
      go : (b : Bool) → (get_or row.options k d).repeatable ≡ b
          → (get_or row.options k d).repeatable ≡ repeats_in row.options (get_or row.options k d).name
      go true e =
          let test : repeats_in row.options (get_or row.options k d).name ≡ true = rw e at (tested k d lt).1 in
          e ∙ sym test
      go false e = e ∙ sym (once_known row.options (get_or row.options k d) (Contains-get_or row.options k d lt) e)

  -- each name is one that an option can have
  pub fits : (name : Text) → Contains (names_in row.options) name → IsOption name
  fits = named_has row.options IsOption (λ k d lt. name_fits _ (tested k d lt).0)

-- ---- what is asked of `clap`

-- what is true of what is made of each text
all_made : (f : Text → Rule) (p : Rule → Bool) → ((name : Text) → p (f name) ≡ true) → (names : List Text) → list_all p (map f names) ≡ true
all_made f p each [] = refl
all_made f p each (name ∷ names) = rw (each name) (all_made f p each names)

-- what is asked for options is simple
module _ (known : Known) where
  -- of options that were built, no more is asked
  no_index : (names : List Text) → count_by (λ (rule : Rule). is_some rule.index) (map (option_rule known) names) ≡ 0
  no_index [] = refl
  no_index (name ∷ names) =
      let step = sum_by-cons (λ (rule : Rule). cond (is_some rule.index) 1 0) (option_rule known name) (map (option_rule known) names) in
      omega (arith, step, no_index names)

  none_early : (n : ℕ) (names : List Text) → list_any (is_early_multiple n) (map (option_rule known) names) ≡ false
  none_early n [] = refl
  none_early n (name ∷ names) = none_early n names

  -- the words stand alone
  in_order : not (list_any (is_early_multiple (count_by (λ (rule : Rule). is_some rule.index) (rules known))) (rules known)) ≡ true
  in_order =
      let step = sum_by-cons (λ (rule : Rule). cond (is_some rule.index) 1 0) names_rule (map (option_rule known) known.names) in
      let one : count_by (λ (rule : Rule). is_some rule.index) (rules known) ≡ 1 = omega (arith, step, no_index known.names) in
      subst (λ n. not (list_any (is_early_multiple n) (rules known)) ≡ true) (sym one)
      (ap not (none_early 1 known.names))

-- what is asked of a command with these options, once it is built
simple_built : (word : Text) (known : Known) (app : App) → app ≡ record { top = shape word known; subs = [] }
    → ((is_buildable (app_for word known) && (is_ready app.top && list_all is_ready_leaf app.subs)) && is_free_app app) ≡ true
simple_built word known app is =
    subst (λ a. ((is_buildable (app_for word known) && (is_ready a.top && list_all is_ready_leaf a.subs)) && is_free_app a) ≡ true)
    (sym is)
    (and_from _ _
    (and_from _ _ (and_from _ true (all_made (option_given known) (λ rule. rule.is_simple) (λ name. refl) known.names) refl)
    (and_from _ true (and_from _ _ (all_made (option_rule known) (λ rule. rule.is_simple) (λ name. refl) known.names) (in_order known)) refl))
    (and_from _ true (all_made (option_rule known) (λ rule. rule.is_free) (λ name. refl) known.names) refl))

-- what is asked of any command is simple
pub simple_row : (row : CommandRow) → is_simple_and_free (app_by row) ≡ true
simple_row row = simple_built row.word (known_in row.options) (built (app_by row)) (built_is row.word (known_in row.options))

-- ---- the rows of a table

module _ {X : Type 0} (name : X → Text) where
  -- the name of the first is no other's
  named_again : (x : X) (xs : List X) → are_distinct (map name (x ∷ xs)) ≡ true → (other : X) → Contains xs other → name x ≡ name other → ⊥
  named_again x xs e other there same =
      let at : get_or (map name xs) there.0 (name x) ≡ name x =
      get_or-map name xs there.0 other (name x) there.1 ∙ (ap name there.2 ∙ sym same) in
      let found = list_any-from_Any (bytes_eq (name x)) (map name xs)
      (there.0, name x, omega (arith, there.1, length-map xs name), at, same_text (name x)) in
      let bad : true ≡ false = sym found ∙ not-true _ (and_parts _ _ e).0 in
      cc

  -- no two have one name
  distinct_one : (xs : List X) → are_distinct (map name xs) ≡ true → (i j : ℕ) (one other : X) → i < length xs → j < length xs
      → get_or xs i one ≡ one → get_or xs j other ≡ other → name one ≡ name other → one ≡ other
  distinct_one [] e i j one other lt before at there same = absurd (omega arith)
  distinct_one (x ∷ xs) e zero zero one other lt before at there same = sym at ∙ there
  distinct_one (x ∷ xs) e zero (suc j) one other lt before at there same =
      absurd (named_again x xs e other (j, omega arith, there) (ap name at ∙ same))
  distinct_one (x ∷ xs) e (suc i) zero one other lt before at there same =
      absurd (named_again x xs e one (i, omega arith, at) (ap name there ∙ sym same))
  distinct_one (x ∷ xs) e (suc i) (suc j) one other lt before at there same =
      distinct_one xs (and_parts _ _ e).1 i j one other (omega arith) (omega arith) at there same

module _ (rows : List CommandRow) (good : are_rows rows ≡ true) where
  -- each row can be read by
  pub good_row : (row : CommandRow) → Contains rows row → is_row row ≡ true
  good_row row there = true_there is_row rows (and_parts (list_all is_row rows) _ good).0 row there

  -- a word has one row
  pub one_row : (one other : CommandRow) → Contains rows one → Contains rows other → one.word ≡ other.word → one ≡ other
  one_row one other a b same =
      distinct_one (λ row. row.word) rows (and_parts (list_all is_row rows) _ good).1 a.0 b.0 one other a.1 b.1 a.2 b.2 same
