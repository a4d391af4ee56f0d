-- What the matches have of an argument, after one more use.
use Rattle.std.proofs.Common.{◌≡◌, ◌∙◌, Bool, true, false, List, [], ◌∷◌, ◌++◌, codes, Option, Some, None, refl, sym, ap, subst, is_some}
use Rattle.std.specs.Prelude.{filter, map, unwrap_or}
use Rattle.std.proofs.lemmas.Bool.{false_from_ne_true, true≢false}
use Rattle.std.proofs.lemmas.List.{append-nil, map-append}
use Rattle.std.proofs.lemmas.List.Elements.{filter-append}
use Rattle.std.specs.Str.{bytes_eq}
use Rattle.std.proofs.lemmas.Slice.Eq.{bytes_eq-Decides}
use Rattle.clap.specs.Walk.{Row, Text, all_of, has_row, used, with_values, without}
use Rattle.clap.specs.declared.builder.value_parser.Reading.{Reading}
use Rattle.clap.specs.declared.builder.value_parser.Reading.TheVariants.{AsWritten}
use Rattle.clap.specs.declared.parser.matches.ValueSource.TheVariants.{CommandLine}
use Rattle.ci_arguments.specs.Words.{is_named, values_of}
use Rattle.ci_arguments.specs.private.Parses.{Known}
use Rattle.ci_arguments.proofs.Rules.{names_rule, option_rule, option_with, same_text}

-- the values of the argument, with more at their end
all_of-same : (id : Text) (how : Reading) (values : List Text) (rows : List Row) → all_of id (with_values id how CommandLine values rows)
    ≡ Some (unwrap_or (all_of id rows) [] ++ values)
all_of-same id how values [] = rw (same_text id) refl
all_of-same id how values (r ∷ rs) = go (bytes_eq r.id id) refl (all_of-same id how values rs)
  where
    go : (b : Bool) → bytes_eq r.id id ≡ b → all_of id (with_values id how CommandLine values rs) ≡ Some (unwrap_or (all_of id rs) [] ++ values)
        → all_of id (with_values id how CommandLine values (r ∷ rs)) ≡ Some (unwrap_or (all_of id (r ∷ rs)) [] ++ values)
    go true e rest = rw (e, e) refl
    go false e rest = rw (e, e) rest

-- another argument keeps its values
all_of-other : (id other : Text) (how : Reading) (values : List Text) (rows : List Row) → bytes_eq id other ≡ false
    → all_of other (with_values id how CommandLine values rows) ≡ all_of other rows
all_of-other id other how values [] apart = rw apart refl
all_of-other id other how values (r ∷ rs) apart = go (bytes_eq r.id id) (bytes_eq r.id other) refl refl (all_of-other id other how values rs apart)
  where
    go : (b c : Bool) → bytes_eq r.id id ≡ b → bytes_eq r.id other ≡ c → all_of other (with_values id how CommandLine values rs) ≡ all_of other rs
        → all_of other (with_values id how CommandLine values (r ∷ rs)) ≡ all_of other (r ∷ rs)
    go true true e f rest =
        let is : r.id ≡ id = (bytes_eq-Decides r.id id).0 e in
        let bad : true ≡ false = sym f ∙ (ap (λ t. bytes_eq t other) is ∙ apart) in
        cc
    go false false e f rest = rw (e, f) rest
    go b c e f rest = rw (e, f) refl

-- an argument has a row where it has values
pub has_row-all : (id : Text) (rows : List Row) → has_row id rows ≡ is_some (all_of id rows)
has_row-all id [] = refl
has_row-all id (r ∷ rs) = go (bytes_eq r.id id) refl (has_row-all id rs)
  where
    go : (b : Bool) → bytes_eq r.id id ≡ b → has_row id rs ≡ is_some (all_of id rs) → has_row id (r ∷ rs) ≡ is_some (all_of id (r ∷ rs))
    go true e rest = rw e refl
    go false e rest = rw e rest

-- where it has none, nothing is taken out
without_none : (id : Text) (rows : List Row) → has_row id rows ≡ false → without id rows ≡ rows
without_none id [] none = refl
without_none id (r ∷ rs) none = go (bytes_eq r.id id) refl (λ rest. without_none id rs rest)
  where
    go : (b : Bool) → bytes_eq r.id id ≡ b → (has_row id rs ≡ false → without id rs ≡ rs) → without id (r ∷ rs) ≡ r ∷ rs
    go true e rest =
        let bad : true ≡ false = rw e at none in
        cc
    go false e rest = rw e (ap (λ tail. r ∷ tail) (rest (rw e at none)))

-- ---- options that are given

-- the values in two lists of options
pub values_of-append : (name : Text) (a b : List (Text × Text)) → values_of name (a ++ b) ≡ values_of name a ++ values_of name b
values_of-append name a b = ap (map (λ o. o.1)) (filter-append (is_named name) a b)
    ∙ map-append (λ o. o.1) (filter (is_named name) a) (filter (is_named name) b)

-- one more value of the option
pub values_of-push_same : (name value : Text) (given : List (Text × Text)) → values_of name (given ++ (name, value) ∷ []) ≡ values_of name given ++ value ∷ []
values_of-push_same name value given = values_of-append name given ((name, value) ∷ []) ∙ rw (same_text name) refl

-- another option keeps its values
pub values_of-push_other : (name other value : Text) (given : List (Text × Text)) → bytes_eq name other ≡ false
    → values_of other (given ++ (name, value) ∷ []) ≡ values_of other given
values_of-push_other name other value given apart = values_of-append other given ((name, value) ∷ []) ∙ rw apart (append-nil (values_of other given))

-- ---- matches of names and options

-- no values at all, or a list of some
abbrev pub listed : List Text → Option (List Text)
listed [] = None
listed (name ∷ names) = Some (name ∷ names)

-- the matches have these names, and of each option the values that are given
pub record AreOf (rows : List Row) (names : List Text) (given : List (Text × Text)) : Type 0 where
  pub of_names : all_of (codes "names") rows ≡ listed names
  pub of_option : (name : Text) → bytes_eq (codes "names") name ≡ false → all_of name rows ≡ listed (values_of name given)

-- one more at the end of what is listed
listed-push : (names : List Text) (name : Text) → Some (unwrap_or (listed names) [] ++ name ∷ []) ≡ listed (names ++ name ∷ [])
listed-push [] name = refl
listed-push (x ∷ xs) name = refl

-- nothing is found at first
pub no_rows : AreOf [] [] []
no_rows = record { of_names = refl; of_option = λ name apart. refl }

-- one more name
pub AreOf-name : (rows : List Row) (names : List Text) (given : List (Text × Text)) (name : Text) → AreOf rows names given
    → AreOf (used names_rule (name ∷ []) rows) (names ++ name ∷ []) given
AreOf-name rows names given name are = record {
  of_names = all_of-same (codes "names") _ (name ∷ []) rows ∙ (ap (λ o. Some (unwrap_or o [] ++ name ∷ [])) are.of_names ∙ listed-push names name);
  of_option = λ other apart. all_of-other (codes "names") other _ (name ∷ []) rows apart ∙ are.of_option other apart;
}

-- an option has a row where it is given
pub has_row-given : (rows : List Row) (names : List Text) (given : List (Text × Text)) (name : Text) → AreOf rows names given → bytes_eq (codes "names") name
    ≡ false
    → has_row name rows ≡ is_some (listed (values_of name given))
has_row-given rows names given name are apart = has_row-all name rows ∙ ap is_some (are.of_option name apart)

-- a test of two texts that fails fails the other way round
pub apart_flipped : (a b : Text) → bytes_eq a b ≡ false → bytes_eq b a ≡ false
apart_flipped a b apart = false_from_ne_true (bytes_eq b a)
    (λ e. true≢false (sym (ap (bytes_eq a) ((bytes_eq-Decides b a).0 e) ∙ same_text a) ∙ apart))

-- an option of this name may be given again, or it was not given before
abbrev pub IsNew : Known → Text → List (Text × Text) → Type 0
IsNew known name given = known.repeats name ≡ false → values_of name given ≡ []

-- the values of an option are put behind those that it has, where it may stand more than once or has none
used_values : (repeatable : Bool) (name value : Text) (rows : List Row)
    → (repeatable ≡ false → has_row name rows ≡ false)
    → used (option_with repeatable name) (value ∷ []) rows ≡ with_values name AsWritten CommandLine (value ∷ []) rows
used_values true name value rows new = refl
used_values false name value rows new = ap (with_values name AsWritten CommandLine (value ∷ []))
    (without_none name rows (new refl))

-- one more option, which may be given
pub AreOf-option : (known : Known) (rows : List Row) (names : List Text) (given : List (Text × Text)) (name value : Text) → AreOf rows names given
    → bytes_eq (codes "names") name ≡ false
    → IsNew known name given → AreOf (used (option_rule known name) (value ∷ []) rows) names (given ++ (name, value) ∷ [])
AreOf-option known rows names given name value are apart new =
    let none : known.repeats name ≡ false → has_row name rows ≡ false =
    λ once. has_row-given rows names given name are apart ∙ ap (λ vs. is_some (listed vs)) (new once) in
    subst (λ rs. AreOf rs names (given ++ (name, value) ∷ []))
    (sym (used_values (known.repeats name) name value rows none)) (record {
      of_names = all_of-other name (codes "names") AsWritten (value ∷ []) rows
          (apart_flipped (codes "names") name apart) ∙ are.of_names;
      of_option = λ other far. go other far (bytes_eq name other) refl;
    })
  where
    at_name : all_of name (with_values name AsWritten CommandLine (value ∷ []) rows) ≡ listed (values_of name (given ++ (name, value) ∷ []))
    at_name = all_of-same name AsWritten (value ∷ []) rows
        ∙ (ap (λ o. Some (unwrap_or o [] ++ value ∷ [])) (are.of_option name apart)
        ∙ (listed-push (values_of name given) value ∙ ap listed (sym (values_of-push_same name value given))))

    go : (other : Text) → bytes_eq (codes "names") other ≡ false → (b : Bool) → bytes_eq name other ≡ b
        → all_of other (with_values name AsWritten CommandLine (value ∷ []) rows) ≡ listed (values_of other (given ++ (name, value) ∷ []))
    go other far true e =
        subst (λ t. all_of t (with_values name AsWritten CommandLine (value ∷ []) rows) ≡ listed (values_of t (given ++ (name, value) ∷ [])))
        ((bytes_eq-Decides name other).0 e) at_name
    go other far false e = all_of-other name other AsWritten (value ∷ []) rows e
        ∙ (are.of_option other far ∙ ap listed (sym (values_of-push_other name other value given e)))
