-- For private contracts: what is asked of `clap`, and what its matches say.
use Rattle.std.specs.Prelude.{◌≡◌, ℕ, Bool, ◌==◌, ◌&&◌, ◌||◌, ◌<◌, not, List, [], ◌∷◌, map, codes, Some, true, false}
use Rattle.std.specs.Prelude.{unwrap_or, if◌then◌else◌}
use Rattle.std.specs.List.{list_all, list_any, slice_index_or}
use Rattle.std.specs.Str.{bytes_eq}
use Rattle.std.specs.Borrow.{Bor}
use Rattle.clap.specs.Words.{App, Row, Rule, new_rule, all_of, matches_of, fault_of}
use Rattle.clap.specs.Simple.{new_shape}
use Rattle.clap.specs.declared.builder.action.ArgAction.{ArgAction}
use Rattle.clap.specs.declared.builder.action.ArgAction.TheVariants.{Set, Append}
use Rattle.ci_arguments.specs.Tables.{CommandRow, OptionRow, command_of}
use Rattle.ci_arguments.specs.Words.{Text, Value, Reading, AreApart, Gives}
use Rattle.ci_arguments.specs.declared.tables.CommandName.{CommandName}
use Rattle.ci_arguments.specs.declared.tables.DefaultValue.{DefaultValue}
use Rattle.ci_arguments.specs.declared.tables.Kind.{Kind}
use Rattle.ci_arguments.specs.declared.tables.OptionShape.{OptionShape}

-- ---- rows of the code

abbrev pub option_row : (Bor Text × OptionShape) × DefaultValue → OptionRow
option_row row = record {
  name = row.0.0.now;
  option = row.0.1.option;
  kind = row.0.1.kind;
  repeatable = row.0.1.repeatable;
  default = row.1;
}

abbrev pub command_row :
    Bor Text × CommandName × Bor (List Kind) × Bor (List ((Bor Text × OptionShape) × DefaultValue)) → CommandRow
command_row row = command_of row.0.now row.1 row.2.now (map option_row row.3.now)

-- ---- the options of a row

-- the options that a parser knows: their names, and which of them may stand more than once
pub record Known : Type 0 where
  pub names : List Text
  pub repeats : Text → Bool

-- none of the options has this name and may stand only once
abbrev pub repeats_in : List OptionRow → Text → Bool
repeats_in options name = not (list_any (λ option. not option.repeatable && bytes_eq option.name name) options)

abbrev pub names_in : List OptionRow → List Text
names_in options = map (λ option. option.name) options

abbrev pub known_in : List OptionRow → Known
known_in options = record { names = names_in options; repeats = repeats_in options }

-- ---- tables that can be read by

-- a name that is not that of the positional words, is not empty, and has no `=`
abbrev pub is_option_name : Text → Bool
is_option_name [] = false
is_option_name (c ∷ cs) = not (bytes_eq (codes "names") (c ∷ cs)) && list_all (λ d. not (d == 61)) (c ∷ cs)

-- its options have such names, and one name says whether it may stand more than once
abbrev pub is_row : CommandRow → Bool
is_row row =
    list_all
    (λ option. is_option_name option.name && (not option.repeatable || repeats_in row.options option.name))
    row.options

-- no two are the same
abbrev pub are_distinct : List Text → Bool
are_distinct [] = true
are_distinct (text ∷ texts) = not (list_any (bytes_eq text) texts) && are_distinct texts

abbrev pub are_rows : List CommandRow → Bool
are_rows rows = list_all is_row rows && are_distinct (map (λ row. row.word) rows)

-- ---- what is asked of `clap`

-- the argument that takes each positional word
abbrev pub names_given : Rule
names_given = record (new_rule (codes "names")) { action = Some Append }

-- what is done with the value of an option: it is added to those before, or stands alone
abbrev pub action_for : Bool → ArgAction
action_for repeatable = if repeatable then Append else Set

-- an option with a value, which may stand more than once or not
abbrev pub option_by : Bool → Text → Rule
option_by repeatable name = record (new_rule name) { long = Some name; action = Some (action_for repeatable) }

-- the option of this name
abbrev pub option_given : Known → Text → Rule
option_given known name = option_by (known.repeats name) name

-- a command with positional words and these options, without help and version flags
abbrev pub app_for : Text → Known → App
app_for name known = record {
  top = record (new_shape name) {
    rules = names_given ∷ map (option_given known) known.names;
    disable_help_flag = true;
    disable_version_flag = true;
  };
  subs = [];
}

abbrev pub app_by : CommandRow → App
app_by row = app_for row.word (known_in row.options)

-- `clap` finds no fault in the words, and these are its matches
pub record IsParsed (app : App) (words : List Text) (rows : List Row) : Type 0 where
  pub faultless : fault_of app words ≡ []
  pub found : rows ≡ matches_of app words

-- ---- what the matches say

-- the values that the matches have for an argument
abbrev pub values_in : List Row → Text → List Text
values_in rows name = unwrap_or (all_of name rows) []

-- the value at the place is apart from each before it
abbrev pub IsApartBefore : List Value → ℕ → Type 0
IsApartBefore values i =
    (k : ℕ) → k < i → (d : Value) → AreApart (slice_index_or values k d) (slice_index_or values i d)

-- the reading that a command's matches give
abbrev pub MatchesGive : CommandRow → List Row → Reading → Type 0
MatchesGive row rows reading = Gives row (values_in rows (codes "names")) (values_in rows) reading
