-- What kinds and options make of texts, at their places.
use Rattle.std.proofs.Common.{◌≡◌, ◌∙◌, ◌<◌, ◌≤◌, ℕ, Bool, true, false, List, [], ◌∷◌, ◌++◌, get_or, length, map, take}
use Rattle.std.proofs.Common.{ap, append_assoc, refl, sym, arith, zero, suc}
use Rattle.std.specs.Prelude.{Some, slice_get, zip}
use Rattle.std.specs.Borrow.{Bor}
use Rattle.std.specs.List.{AllZip}
use Rattle.std.proofs.lemmas.List.{get_or-map, length-map, append-nil}
use Rattle.std.proofs.lemmas.Slice.Zip.{get_or-zip, length-zip}
use denote.Enum.Bare.{sameb}
use Rattle.ci_arguments.specs.contracts.tables.OptionName.{the_type}
use Rattle.ci_arguments.specs.declared.tables.Access.TheVariants.{Reads}
use Rattle.ci_arguments.specs.declared.tables.Kind.{Kind}
use Rattle.ci_arguments.specs.declared.tables.Kind.TheVariants as kind
use Rattle.ci_arguments.specs.declared.tables.OptionName.{OptionName}
use Rattle.ci_arguments.specs.declared.values.Value.{Value as Held}
use Rattle.ci_arguments.specs.Tables.{OptionRow}
use Rattle.ci_arguments.specs.Words.{AreSet, Says, Sets, Text, Value, settings_in}
use Rattle.ci_arguments.specs.private.Parses.{option_row}
use Rattle.ci_arguments.specs.Read.{setting_in, value_in}
use Rattle.ci_arguments.proofs.Elements.{no_option, no_text}

-- ---- texts and their kinds

-- the texts behind the references
abbrev pub texts : List (Bor Text) → List Text
texts words = map (λ word. word.now) words

abbrev pub typed : List Kind → List (Bor Text) → List (Kind × Text)
typed kinds words = zip kinds (texts words)

abbrev pub no_typed : Kind × Text
no_typed = (kind.File Reads, [])

module _ (kinds : List Kind) (words : List (Bor Text)) (long : length words ≡ length kinds) where
  -- there are as many
  pub typed_length : length (typed kinds words) ≡ length kinds
  typed_length = omega (arith, length-zip kinds (texts words), length-map words (λ (word : Bor Text). word.now))

  -- a text with its kind
  pub typed_at : (i : ℕ) → i < length kinds
      → get_or (typed kinds words) i no_typed ≡ (get_or kinds i (kind.File Reads), (get_or words i no_text).now)
  typed_at i lt =
      get_or-zip kinds (texts words) i no_typed lt (omega (arith, length-map words (λ (word : Bor Text). word.now)))
      ∙ ap (λ text. (get_or kinds i (kind.File Reads), text)) (get_or-map (λ word. word.now) words i no_text [] (omega arith))

-- ---- values of an option

-- and the other way round
pub given_sets : (option : OptionRow) (given : List Text) (values : List Value) → 1 ≤ length given
    → Sets option given values → AllZip (Says option.kind) given values
given_sets option [] values some all = absurd (omega arith)
given_sets option (text ∷ more) values some all = all

-- ---- what is set

module _ (given : Text → List Text) where
  -- one more option
  pub set_more : (options : List OptionRow) (option : OptionRow) (set : List (OptionName × Value)) (values : List Value)
      → AreSet options given set → Sets option (given option.name) values
      → AreSet (options ++ option ∷ []) given (set ++ map (λ value. (option.option, value)) values)
  set_more [] option set values are sets = (values, [], sets, refl, ap (λ s. s ++ map (λ value. (option.option, value)) values) are ∙ sym (append-nil _))
  set_more (first ∷ options) option set values are sets =
      let rest = set_more options option are.1 values are.3 sets in (
        are.0,
        are.1 ++ map (λ value. (option.option, value)) values,
        are.2,
        rest,
        ap (λ s. s ++ map (λ value. (option.option, value)) values) are.4 ∙ append_assoc _ are.1 _,
      )

  -- what the option at a place is set to
  pub set_at : (options : List OptionRow) (set : List (OptionName × Value)) (i : ℕ) (d : OptionRow) → i < length options
      → AreSet options given set → (values : List Value) × Sets (get_or options i d) (given (get_or options i d).name) values
  set_at [] set i d lt are = absurd (omega arith)
  set_at (option ∷ options) set zero d lt are = (are.0, are.2)
  set_at (option ∷ options) set (suc i) d lt are = set_at options are.1 i d (omega arith) are.3

-- no option
abbrev pub no_option_row : OptionRow
no_option_row = option_row no_option

-- the first that an option is set to
pub first_setting : (option : OptionName) (settings : List (OptionName × Held)) (i : ℕ) (d : OptionName × Held)
    → i < length settings → settings_in (map setting_in (take i settings)) option ≡ []
    → sameb the_type (get_or settings i d).0 option ≡ true
    → slice_get (settings_in (map setting_in settings) option) 0 ≡ Some (value_in (get_or settings i d).1)
first_setting option [] i d lt none is = absurd (omega arith)
first_setting option (s ∷ ss) zero d lt none is = rw is refl
first_setting option (s ∷ ss) (suc i) d lt none is =
    go (sameb the_type s.0 option) refl (λ rest. first_setting option ss i d (omega arith) rest is)
  where
    go : (b : Bool) → sameb the_type s.0 option ≡ b
        → (settings_in (map setting_in (take i ss)) option ≡ []
        → slice_get (settings_in (map setting_in ss) option) 0 ≡ Some (value_in (get_or ss i d).1))
        → slice_get (settings_in (map setting_in (s ∷ ss)) option) 0 ≡ Some (value_in (get_or ss i d).1)
    go true e rest =
        let bad : value_in s.1 ∷ settings_in (map setting_in (take i ss)) option ≡ [] = rw e at none in
        cc
    go false e rest = rw e (rest (rw e at none))
