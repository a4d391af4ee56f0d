-- What is held between two words, and which names and options it stands for.
use Rattle.std.proofs.Common.{◌≡◌, ◌≢◌, ◌∙◌, ◌≤◌, ◌+◌, ℕ, Bool, true, false, List, [], ◌∷◌, ◌++◌, codes, Some, None}
use Rattle.std.proofs.Common.{refl, sym, ap, subst, arith, is_some, suc, length-append}
use Rattle.std.specs.Prelude.{Contains, length}
use Rattle.std.specs.Option.{option_map_or}
use Rattle.std.specs.Str.{bytes_eq}
use Rattle.std.proofs.lemmas.Bool.{false_from_ne_true}
use Rattle.std.proofs.lemmas.Slice.Eq.{bytes_eq-Decides}
use Rattle.clap.specs.Lexer.{long_of, name_and_value}
use Rattle.clap.specs.Kinds.{Kinds, or_else}
use Rattle.clap.specs.Walk.{Held, Row, Text, has_row, reacted, settled, used, used_by_id}
use Rattle.clap.specs.Faults.{react_fault, settle_fault, use_fault}
use Rattle.clap.specs.declared.error.kind.ErrorKind.TheVariants as kind
use Rattle.clap.proofs.CutLemmas.{Lacks}
use Rattle.clap.proofs.LexerLemmas.{name_and_value-at, name_and_value-without}
use Rattle.ci_arguments.specs.Words.{values_of}
use Rattle.ci_arguments.specs.private.Parses.{Known}
use Rattle.ci_arguments.proofs.Rules.{id_known, option_rule, option_with, rules, same_text}
use Rattle.ci_arguments.proofs.Rows.{AreOf, AreOf-name, AreOf-option, IsNew, has_row-given, listed, values_of-append}
use Rattle.ci_arguments.proofs.Steps.{filled, named, opened}

-- ---- faults in turn

-- the first of two has no fault where both have none
pub first_none : (a b : Kinds) → or_else a b ≡ [] → a ≡ []
first_none [] b none = refl
first_none (k ∷ ks) b none = none

-- nor has the second
pub second_none : (a b : Kinds) → or_else a b ≡ [] → b ≡ []
second_none [] b none = none
second_none (k ∷ ks) b none = cc

-- where neither has a fault, both have none
pub both_none : (a b : Kinds) → a ≡ [] → b ≡ [] → or_else a b ≡ []
both_none a b first second = ap (λ k. or_else k b) first ∙ second

-- ---- one use of an option

module _ (option value : Text) (rows : List Row) where
  -- an option that may stand more than once may be used, and one that has no row
  use_free : (repeatable : Bool) → (repeatable ≡ false → has_row option rows ≡ false)
      → use_fault false (option_with repeatable option) (value ∷ []) rows ≡ []
  use_free true free = refl
  use_free false free = rw (free refl) refl

  -- and only these
  use_taken : (repeatable : Bool) → use_fault false (option_with repeatable option) (value ∷ []) rows ≡ []
      → repeatable ≡ false → has_row option rows ≡ false
  use_taken true none once = cc
  use_taken false none once = false_from_ne_true (has_row option rows)
      (λ e. let bad : kind.ArgumentConflict ∷ [] ≡ [] = rw e at none in cc)

-- an option of a command: not the argument of the names, not empty, without `=`
pub record IsOption (option : Text) : Type 0 where
  pub apart : bytes_eq (codes "names") option ≡ false
  pub first : ℕ
  pub others : Text
  pub filled : option ≡ first ∷ others
  pub no_equals : Lacks 61 option

-- `--NAME` is an option without a value
pub long_of-opened : (option : Text) → IsOption option → (bytes_eq (codes "--" ++ option) (codes "--") ≡ false)
    × (long_of (codes "--" ++ option) ≡ Some (option, None))
long_of-opened option is = (
  ap (λ t. bytes_eq (codes "--" ++ t) (codes "--")) is.filled,
  ap (λ t. long_of (codes "--" ++ t)) is.filled ∙ ap (λ p. Some p) (sym (ap name_and_value is.filled) ∙ name_and_value-without option is.no_equals),
)

-- `--NAME=VALUE` is an option with its value
pub long_of-joined : (option value : Text) → IsOption option → (bytes_eq (codes "--" ++ (option ++ (codes "=" ++ value))) (codes "--") ≡ false)
    × (long_of (codes "--" ++ (option ++ (codes "=" ++ value))) ≡ Some (option, Some value))
long_of-joined option value is = (
  ap (λ t. bytes_eq (codes "--" ++ (t ++ (codes "=" ++ value))) (codes "--")) is.filled,
  ap (λ t. long_of (codes "--" ++ (t ++ (codes "=" ++ value)))) is.filled
      ∙ ap (λ p. Some p) (sym (ap (λ t. name_and_value (t ++ (codes "=" ++ value))) is.filled) ∙ name_and_value-at option value is.no_equals),
)

-- ---- options that are given once

-- each option that may not stand more than once has at most one value
abbrev pub AreOnce : Known → List (Text × Text) → Type 0
AreOnce known given = (name : Text) → known.repeats name ≡ false → length (values_of name given) ≤ 1

-- the values in two lists of options, counted
pub length-values_of : (name : Text) (a b : List (Text × Text)) → length (values_of name (a ++ b)) ≡ length (values_of name a) + length (values_of name b)
length-values_of name a b = ap length (values_of-append name a b) ∙ length-append (values_of name a) (values_of name b)

-- a list of length 0
empty : (texts : List Text) → length texts ≡ 0 → texts ≡ []
empty [] e = refl
empty (t ∷ ts) e = absurd (omega (arith, e))

-- one more option that may be given
pub AreOnce-push : (known : Known) (given : List (Text × Text)) (name value : Text) → AreOnce known given → IsNew known name given
    → AreOnce known (given ++ (name, value) ∷ [])
AreOnce-push known given name value are_once new other once = go (bytes_eq name other) refl
  where
    go : (b : Bool) → bytes_eq name other ≡ b → length (values_of other (given ++ (name, value) ∷ [])) ≤ 1
    go true e =
        let is : other ≡ name = sym ((bytes_eq-Decides name other).0 e) in
        let none : length (values_of other given) ≡ 0 = ap length (subst (λ n. IsNew known n given) (sym is) new once) in
        let one : length (values_of other ((name, value) ∷ [])) ≡ 1 = rw e refl in
        omega (arith, length-values_of other given ((name, value) ∷ []), none, one)
    go false e =
        let none : length (values_of other ((name, value) ∷ [])) ≡ 0 = rw e refl in
        omega (arith, length-values_of other given ((name, value) ∷ []), are_once other once, none)

-- an option that may be given
pub new_option : (known : Known) (given : List (Text × Text)) (name value : Text) (rest : List (Text × Text))
    → AreOnce known (given ++ (name, value) ∷ rest) → IsNew known name given
new_option known given name value rest are_once once =
    let here : length (values_of name ((name, value) ∷ rest)) ≡ suc (length (values_of name rest)) = rw (same_text name) refl in
    let whole = length-values_of name given ((name, value) ∷ rest) in
    empty (values_of name given) (omega (arith, whole, are_once name once, here))

-- an option without a row is not given
none_given : (values : List Text) → is_some (listed values) ≡ false → values ≡ []
none_given [] e = refl
none_given (v ∷ vs) e = cc

-- an option that may be given may be used
may_use : (known : Known) (option value : Text) (rows : List Row) (names : List Text) (given : List (Text × Text))
    → AreOf rows names given → bytes_eq (codes "names") option ≡ false → IsNew known option given
    → use_fault false (option_rule known option) (value ∷ []) rows ≡ []
may_use known option value rows names given are apart new =
    use_free option value rows (known.repeats option)
    (λ once. has_row-given rows names given option are apart ∙ ap (λ vs. is_some (listed vs)) (new once))

-- and only such a one
is_new : (known : Known) (option value : Text) (rows : List Row) (names : List Text) (given : List (Text × Text))
    → AreOf rows names given → bytes_eq (codes "names") option ≡ false
    → use_fault false (option_rule known option) (value ∷ []) rows ≡ [] → IsNew known option given
is_new known option value rows names given are apart none once =
    none_given (values_of option given) (sym (has_row-given rows names given option are apart)
    ∙ use_taken option value rows (known.repeats option) none once)

-- ---- what is held

module _ (known : Known) where
  -- nothing is amiss in what waits, and with it the matches are these names and options
  pub record Holds (h : Held) (names : List Text) (given : List (Text × Text)) : Type 0 where
    pub settles : settle_fault (rules known) false h ≡ []
    pub stands : AreOf (settled (rules known) h).rows names given
    pub skips : h.skip ≡ 0

  -- one more name
  pub Holds-named : (h : Held) (names : List Text) (given : List (Text × Text)) (word : Text) → Holds h names given
      → Holds (named (rules known) word h) (names ++ word ∷ []) given
  Holds-named h names given word holds = record {
    settles = refl;
    stands = AreOf-name (settled (rules known) h).rows names given word holds.stands;
    skips = holds.skips;
  }

  module _
      (rows : List Row) (names : List Text) (given : List (Text × Text)) (option value : Text)
      (apart : bytes_eq (codes "names") option ≡ false) (among : Contains known.names option) where
    -- the fault of an option with its value, once it is used
    filled_fault : settle_fault (rules known) false (filled rows option value) ≡ use_fault false (option_rule known option) (value ∷ []) rows
    filled_fault = ap (λ o. option_map_or (λ a. use_fault false a (value ∷ []) rows) o []) (id_known known option apart among)

    -- and its row
    filled_rows : (settled (rules known) (filled rows option value)).rows ≡ used (option_rule known option) (value ∷ []) rows
    filled_rows = ap (λ o. used_by_id o (value ∷ []) rows) (id_known known option apart among)

    -- one more option, whose value waits
    pub Holds-filled : AreOf rows names given → IsNew known option given
        → Holds (filled rows option value) names (given ++ (option, value) ∷ [])
    Holds-filled are new = record {
      settles = filled_fault ∙ may_use known option value rows names given are apart new;
      stands = subst (λ rs. AreOf rs names (given ++ (option, value) ∷ [])) (sym filled_rows)
          (AreOf-option known rows names given option value are apart new);
      skips = refl;
    }

    -- an option that is used without a fault may be given
    pub filled_new : AreOf rows names given → settle_fault (rules known) false (filled rows option value) ≡ []
        → IsNew known option given
    filled_new are none = is_new known option value rows names given are apart (sym filled_fault ∙ none)

    -- an option without a value is a fault
    pub opened_fault : settle_fault (rules known) false (opened rows option) ≢ []
    opened_fault none =
        let shown : settle_fault (rules known) false (opened rows option) ≡ use_fault false (option_rule known option) [] rows =
        ap (λ o. option_map_or (λ a. use_fault false a [] rows) o []) (id_known known option apart among) in
        let bad : kind.InvalidValue ∷ [] ≡ [] = sym shown ∙ none in
        cc

  module _ (h : Held) (names : List Text) (given : List (Text × Text)) (option value : Text) (apart : bytes_eq (codes "names") option ≡ false) where
    -- one more option, which is used at once
    pub Holds-reacted : Holds h names given → IsNew known option given
        → (react_fault (rules known) false (option_rule known option) (value ∷ []) h ≡ [])
        × Holds (reacted (rules known) (option_rule known option) (value ∷ []) h) names (given ++ (option, value) ∷ [])
    Holds-reacted holds new = (
      both_none _ _ holds.settles
          (may_use known option value (settled (rules known) h).rows names given holds.stands apart new),
      record {
        settles = refl;
        stands = AreOf-option known (settled (rules known) h).rows names given option value holds.stands apart new;
        skips = holds.skips;
      },
    )

    -- it may be given, where this is no fault
    pub reacted_new : AreOf (settled (rules known) h).rows names given
        → react_fault (rules known) false (option_rule known option) (value ∷ []) h ≡ [] → IsNew known option given
    reacted_new are none = is_new known option value (settled (rules known) h).rows names given are apart
        (second_none (settle_fault (rules known) false h) _ none)
