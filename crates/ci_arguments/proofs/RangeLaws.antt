-- The numbers among the positional words of a command, and those that its options are set to, lie in the ranges of
-- their kinds.
use Rattle.std.proofs.Common.{◌≡◌, ◌∙◌, ◌≤◌, ◌&&◌, ◌||◌, ℕ, zero, suc, Bool, true, false, not, List, [], ◌∷◌, ◌++◌, length}
use Rattle.std.proofs.Common.{map, refl, sym, ap, subst, arith}
use Rattle.std.specs.Prelude.{if◌then◌else◌, nat_le, option_map, slice_get, unwrap_or, zip}
use Rattle.std.specs.List.{AllZip, list_all, list_any}
use Rattle.std.proofs.lemmas.Bool.{and_parts}
use Rattle.std.proofs.lemmas.Bool.Decides.{nat_tests}
use Rattle.std.proofs.lemmas.List.{map-append}
use Rattle.std.proofs.lemmas.List.Elements.{filter-append}
use denote.Enum.Bare.{sameb, true_same}
use Rattle.ci_arguments.specs.contracts.tables.CommandName.{the_type as command_type}
use Rattle.ci_arguments.specs.contracts.tables.OptionName.{the_type}
use Rattle.ci_arguments.specs.declared.tables.DefaultValue.{DefaultValue}
use Rattle.ci_arguments.specs.declared.tables.DefaultValue.TheVariants as default
use Rattle.ci_arguments.specs.declared.tables.Kind.{Kind}
use Rattle.ci_arguments.specs.declared.tables.Kind.TheVariants as kind
use Rattle.ci_arguments.specs.declared.tables.OptionName.{OptionName}
use Rattle.ci_arguments.specs.Tables.{CommandRow, OptionRow, commands}
use Rattle.ci_arguments.specs.Words.{AreSet, IsDefault, Reading, ReadsAs, Says, Sets, Text, Value, is_of, number, number_in, settings_in, values_of}
use Rattle.ci_arguments.specs.Ranges.{KeepsRanges, KeepsPlaces, is_default_within, is_kind_within, is_option, is_within}
use Rattle.ci_arguments.proofs.TableLaws.{true_there}

module _ (minimum maximum : ℕ) where
  abbrev IsWithin : Value → Type 0
  IsWithin value = (minimum ≤ number_in value) × (number_in value ≤ maximum)

  -- there is a first value, which is in the range
  abbrev FirstIsWithin : List Value → Type 0
  FirstIsWithin [] = ⊥
  FirstIsWithin (value ∷ values) = IsWithin value

  abbrev is_number : OptionRow → Bool
  is_number row = is_kind_within minimum maximum row.kind && is_default_within minimum maximum row.default

  -- a number between two of the range is in it
  between : (least most n : ℕ) → (nat_le minimum least && nat_le most maximum) ≡ true → least ≤ n → n ≤ most
      → (minimum ≤ n) × (n ≤ maximum)
  between least most n e above below =
      let both = and_parts (nat_le minimum least) (nat_le most maximum) e in
      let low = both.0 in
      let high = both.1 in
      (grind (arith, nat_tests), grind (arith, nat_tests))

  -- what a text of the kind says is in the range
  said_within : (k : Kind) → is_kind_within minimum maximum k ≡ true → (text : Text) (value : Value) → Says k text value
      → IsWithin value
  said_within (kind.Number least most) e text (number n) says = between least most n e says.1 says.2
  said_within (kind.Number least most) e text value says = absurd says
  said_within k e text value says = cc

  -- so is the default
  default_within : (d : DefaultValue) → is_default_within minimum maximum d ≡ true → (values : List Value) → IsDefault d values
      → FirstIsWithin values
  default_within (default.Number n) e values is = subst FirstIsWithin (sym is) (between n n n e (omega arith) (omega arith))
  default_within default.Nothing e values is = cc
  default_within default.MustStand e values is = absurd is

  -- and the first that an option is set to
  sets_within : (row : OptionRow) → is_number row ≡ true → (given : List Text) (values : List Value) → Sets row given values
      → FirstIsWithin values
  sets_within row e [] values sets = default_within row.default (and_parts (is_kind_within minimum maximum row.kind) _ e).1 values sets
  sets_within row e (text ∷ more) [] sets = absurd sets
  sets_within row e (text ∷ more) (value ∷ values) sets =
      said_within row.kind (and_parts (is_kind_within minimum maximum row.kind) _ e).0 text value sets.0

  -- whatever follows it
  within_append : (values more : List Value) → FirstIsWithin values → FirstIsWithin (values ++ more)
  within_append [] more within = absurd within
  within_append (value ∷ values) more within = within

  -- its number
  first_number : (values : List Value) → FirstIsWithin values
      → (minimum ≤ unwrap_or (option_map number_in (slice_get values 0)) 0) × (unwrap_or (option_map number_in (slice_get values 0)) 0 ≤ maximum)
  first_number [] within = absurd within
  first_number (value ∷ values) within = within

  -- what a positional word says is in the range, where its kind is
  said_at : (place : ℕ) (kinds : List Kind) (texts : List Text) (values : List Value) → length texts ≡ length kinds
      → AllZip (λ typed value. Says typed.0 typed.1 value) (zip kinds texts) values
      → unwrap_or (option_map (is_kind_within minimum maximum) (slice_get kinds place)) false ≡ true
      → (minimum ≤ unwrap_or (option_map number_in (slice_get values place)) 0)
      × (unwrap_or (option_map number_in (slice_get values place)) 0 ≤ maximum)
  said_at place [] texts values as_many each e = cc
  said_at place (k ∷ kinds) [] values as_many each e = cc
  said_at place (k ∷ kinds) (text ∷ texts) [] as_many each e = absurd each
  said_at zero (k ∷ kinds) (text ∷ texts) (value ∷ values) as_many each e = said_within k e text value each.0
  said_at (suc place) (k ∷ kinds) (text ∷ texts) (value ∷ values) as_many each e =
      said_at place kinds texts values (omega (arith, as_many)) each.1 e

-- the values of one option among those of another
labelled : (option other : OptionName) (values : List Value) (b : Bool) → sameb the_type other option ≡ b
    → settings_in (map (λ value. (other, value)) values) option ≡ (if b then values else [])
labelled option other [] true e = refl
labelled option other [] false e = refl
labelled option other (value ∷ values) true e = rw e (ap (λ vs. value ∷ vs) (labelled option other values true e))
labelled option other (value ∷ values) false e = rw e (labelled option other values false e)

-- the first that an option of the row is set to is in the range
set_within : (option : OptionName) (minimum maximum : ℕ) (given : Text → List Text) (rows : List OptionRow) (set : List (OptionName × Value))
    → list_any (is_option option minimum maximum) rows ≡ true → list_all (is_within option minimum maximum) rows ≡ true
    → AreSet rows given set → FirstIsWithin minimum maximum (settings_in set option)
set_within option minimum maximum given [] set there e are = cc
set_within option minimum maximum given (row ∷ rows) set there e are =
    go (is_option option minimum maximum row) refl (λ rest. set_within option minimum maximum given rows are.1 rest both.1 are.3)
  where
    both : (is_within option minimum maximum row ≡ true) × (list_all (is_within option minimum maximum) rows ≡ true)
    both = and_parts (is_within option minimum maximum row) _ e

    -- those of the first option and those of the others
    split : (b : Bool) → is_option option minimum maximum row ≡ b
        → settings_in set option ≡ (if b then are.0 else []) ++ settings_in are.1 option
    split b is = ap (λ s. settings_in s option) are.4
        ∙ (ap (map (λ setting. setting.1)) (filter-append (is_of option) (map (λ value. (row.option, value)) are.0) are.1)
        ∙ (map-append (λ (setting : OptionName × Value). setting.1) _ _
        ∙ ap (λ values. values ++ settings_in are.1 option) (labelled option row.option are.0 b is)))

    go : (b : Bool) → is_option option minimum maximum row ≡ b
        → (list_any (is_option option minimum maximum) rows ≡ true → FirstIsWithin minimum maximum (settings_in are.1 option))
        → FirstIsWithin minimum maximum (settings_in set option)
    go true is rest = subst (FirstIsWithin minimum maximum) (sym (split true is))
        (within_append minimum maximum are.0 _ (sets_within minimum maximum row (rw is at both.0) (given row.name) are.0 are.2))
    go false is rest = subst (FirstIsWithin minimum maximum) (sym (split false is)) (rest (rw is at there))

-- what is tested of the rows of a reading's command is so of its row
of_command : (p : CommandRow → Bool) (words : List Text) (reading : Reading) (reads : ReadsAs words reading)
    → list_all (λ row. not (sameb command_type row.command reading.command) || p row) commands ≡ true → p reads.row ≡ true
of_command p words reading reads e =
    let test = true_there (λ row. not (sameb command_type row.command reading.command) || p row) commands e reads.row reads.in_table in
    rw (true_same command_type reads.row.command reading.command (sym reads.reads.gives.command_is)) at test

-- the numbers of a reading are in their ranges
pub number_within : (words : List Text) (reading : Reading) → ReadsAs words reading → KeepsRanges reading.command reading
number_within words reading reads option minimum maximum e =
    let gives = reads.reads.gives in
    let both = and_parts (list_any (is_option option minimum maximum) reads.row.options) _ (of_command
    (λ row. list_any (is_option option minimum maximum) row.options && list_all (is_within option minimum maximum) row.options)
    words reading reads e) in
    first_number minimum maximum (reading.settings option)
    (subst (FirstIsWithin minimum maximum) (sym (gives.settings_are option))
    (set_within option minimum maximum (λ name. values_of name reads.reads.given) reads.row.options gives.set both.0 both.1 gives.are_set))

pub places_within : (words : List Text) (reading : Reading) → ReadsAs words reading → KeepsPlaces reading.command reading
places_within words reading reads place minimum maximum e =
    let said = reads.reads.gives.said in
    said_at minimum maximum place reads.row.positional reads.reads.names reading.values said.as_many said.each (of_command
    (λ row. unwrap_or (option_map (is_kind_within minimum maximum) (slice_get row.positional place)) false) words reading reads e)
