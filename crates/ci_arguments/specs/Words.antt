-- For every reader: how the words of a command line are read, by a table of commands.
use Rattle.std.specs.Prelude.{◌≡◌, ◌≢◌, ◌⊎◌, ℕ, Bool, false, ◌≤◌, List, [], ◌∷◌, ◌++◌, length, map, filter, zip, All}
use Rattle.std.specs.Prelude.{AllPairs, Contains, codes, Option, slice_get, unwrap_or, option_map, ⊤}
use Rattle.std.specs.List.{AllZip}
use Rattle.std.specs.Str.{bytes_eq}
use Rattle.std.specs.Str.Parse.{IsNumeral, digits_value}
use denote.Enum.Bare.{sameb}
use Rattle.ci_arguments.specs.Tables.{CommandRow, OptionRow, commands}
use Rattle.ci_arguments.specs.contracts.tables.OptionName.{the_type}
use Rattle.ci_arguments.specs.declared.tables.Access.{Access}
use Rattle.ci_arguments.specs.declared.tables.Access.TheVariants.{Writes}
use Rattle.ci_arguments.specs.declared.tables.CommandName.{CommandName}
use Rattle.ci_arguments.specs.declared.tables.DefaultValue.{DefaultValue}
use Rattle.ci_arguments.specs.declared.tables.DefaultValue.TheVariants as default
use Rattle.ci_arguments.specs.declared.tables.Kind.{Kind}
use Rattle.ci_arguments.specs.declared.tables.Kind.TheVariants as kind
use Rattle.ci_arguments.specs.declared.tables.OptionName.{OptionName}

abbrev pub Text : Type 0
Text = List ℕ

-- ---- what the program is asked

-- what a positional word or the value of an option says
pub data Value : Type 0 where
  -- the name of a file, with what the command does with the file
  file : Access → Text → Value
  number : ℕ → Value
  -- a word of 32 bits, as an address is one
  word : ℕ → Value

-- a command, what its positional words say, and what each option is set to, which is nothing for one that it does not
-- have
pub record Reading : Type 0 where
  pub command : CommandName
  pub values : List Value
  pub settings : OptionName → List Value

-- the name of a file, the number, or the word of 32 bits, and nothing for another value
abbrev pub name_in : Value → Text
name_in (file access name) = name
name_in value = []

abbrev pub number_in : Value → ℕ
number_in (number n) = n
number_in value = 0

abbrev pub word_in : Value → ℕ
word_in (word n) = n
word_in value = 0

-- the name of the file that is the positional word at a place
abbrev pub name_at : Reading → ℕ → Text
name_at reading place = unwrap_or (option_map name_in (slice_get reading.values place)) []

-- the number, or the word of 32 bits, that is the positional word at a place
abbrev pub number_at : Reading → ℕ → ℕ
number_at reading place = unwrap_or (option_map number_in (slice_get reading.values place)) 0

abbrev pub word_at : Reading → ℕ → ℕ
word_at reading place = unwrap_or (option_map word_in (slice_get reading.values place)) 0

-- what an option is set to, that is set once
abbrev pub name_set : Reading → OptionName → Option Text
name_set reading option = option_map name_in (slice_get (reading.settings option) 0)

abbrev pub number_set : Reading → OptionName → ℕ
number_set reading option = unwrap_or (option_map number_in (slice_get (reading.settings option) 0)) 0

abbrev pub word_set : Reading → OptionName → Option ℕ
word_set reading option = option_map word_in (slice_get (reading.settings option) 0)

-- and any number of times
abbrev pub words_set : Reading → OptionName → List ℕ
words_set reading option = map word_in (reading.settings option)

-- ---- names, numbers and words of 32 bits

-- not empty, and not begun by a hyphen
abbrev pub IsName : Text → Type 0
IsName [] = ⊥
IsName (c ∷ cs) = c ≢ 45

-- one digit of the base or more, at most so many, and their number
pub record AreDigits (base most : ℕ) (text : Text) (n : ℕ) : Type 0 where
  pub numeral : IsNumeral base text
  pub few : length text ≤ most
  pub value : digits_value base text ≡ n

-- one to ten decimal digits
abbrev pub IsNumber : Text → ℕ → Type 0
IsNumber text n = AreDigits 10 10 text n

-- `0x` and one to eight hex digits
abbrev pub IsWord : Text → ℕ → Type 0
IsWord text n = (digits : Text) × (text ≡ codes "0x" ++ digits) × AreDigits 16 8 digits n

-- what a text of the kind says: a number lies in the range of its kind
abbrev pub Says : Kind → Text → Value → Type 0
Says (kind.File access) text (file other name) = IsName text × (other ≡ access) × (name ≡ text)
Says (kind.Number minimum maximum) text (number n) = IsNumber text n × (minimum ≤ n) × (n ≤ maximum)
Says kind.Word text (word n) = IsWord text n
Says kind text value = ⊥

-- what as many texts of these kinds say, one by one
pub record AreSaid (kinds : List Kind) (texts : List Text) (values : List Value) : Type 0 where
  pub as_many : length texts ≡ length kinds
  pub each : AllZip (λ typed value. Says typed.0 typed.1 value) (zip kinds texts) values

-- what an option is set to where it is not given
abbrev pub IsDefault : DefaultValue → List Value → Type 0
IsDefault (default.Number n) values = values ≡ number n ∷ []
IsDefault default.Nothing values = values ≡ []
IsDefault default.MustStand values = ⊥

-- what an option is set to by the values that are given to it
abbrev pub Sets : OptionRow → List Text → List Value → Type 0
Sets option [] values = IsDefault option.default values
Sets option (text ∷ texts) values = AllZip (Says option.kind) (text ∷ texts) values

-- what each option is set to, in the order of the options, where these values are given to an option of a name
abbrev pub AreSet : List OptionRow → (Text → List Text) → List (OptionName × Value) → Type 0
AreSet [] given set = set ≡ []
AreSet (option ∷ options) given set =
    (values : List Value) × (others : List (OptionName × Value)) × Sets option (given option.name) values
    × AreSet options given others × (set ≡ map (λ value. (option.option, value)) values ++ others)

abbrev pub is_of : OptionName → OptionName × Value → Bool
is_of option setting = sameb the_type setting.0 option

-- the values of an option among those that are set
abbrev pub settings_in : List (OptionName × Value) → OptionName → List Value
settings_in set option = map (λ setting. setting.1) (filter (is_of option) set)

-- ---- positional words and options, mixed

-- The words are these positional words and these options, each as its name and its value, mixed, up to a word `--`,
-- after which all are positional.
pub data AreMixed : List Text → List Text → List (Text × Text) → Type 0 where
  nothing : AreMixed [] [] []
  -- `--` and then positional words alone
  dashes : (names : List Text) → AreMixed (codes "--" ∷ names) names []
  -- `WORD`, `--NAME VALUE` and `--NAME=VALUE`
  positional : (name : Text) {words names : List Text} {given : List (Text × Text)} → AreMixed words names given
      → AreMixed (name ∷ words) (name ∷ names) given
  option_in_two : (name value : Text) {words names : List Text} {given : List (Text × Text)}
      → AreMixed words names given → AreMixed ((codes "--" ++ name) ∷ value ∷ words) names ((name, value) ∷ given)
  option_in_one : (name value : Text) {words names : List Text} {given : List (Text × Text)}
      → AreMixed words names given
      → AreMixed ((codes "--" ++ (name ++ (codes "=" ++ value))) ∷ words) names ((name, value) ∷ given)

abbrev pub is_named : Text → Text × Text → Bool
is_named name option = bytes_eq option.0 name

-- the values that are given to the option of this name, in order
abbrev pub values_of : Text → List (Text × Text) → List Text
values_of name given = map (λ option. option.1) (filter (is_named name) given)

-- ---- files that are read and written

-- a file that is written is no other file
abbrev pub AreApart : Value → Value → Type 0
AreApart (file first name) (file second other) = (first ≡ Writes) ⊎ (second ≡ Writes) → name ≢ other
AreApart value other = ⊤

-- ---- readings

-- The positional words and the values that are given to options give this reading of the row's command.
pub record Gives (row : CommandRow) (names : List Text) (given : Text → List Text) (reading : Reading) : Type 0 where
  pub set : List (OptionName × Value)
  pub command_is : reading.command ≡ row.command
  pub said : AreSaid row.positional names reading.values
  pub are_set : AreSet row.options given set
  pub settings_are : (option : OptionName) → reading.settings option ≡ settings_in set option
  pub apart : AllPairs AreApart (reading.values ++ map (λ setting. setting.1) set)

-- The words read as this by the row: its word, and then its positional words and its options, mixed.
pub record ReadsBy (row : CommandRow) (words : List Text) (reading : Reading) : Type 0 where
  pub rest : List Text
  pub names : List Text
  pub given : List (Text × Text)
  pub command : words ≡ row.word ∷ rest
  pub mixed : AreMixed rest names given
  pub known : All (λ option. Contains (map (λ known. known.name) row.options) option.0) given
  pub once : All (λ option. option.repeatable ≡ false → length (values_of option.name given) ≤ 1) row.options
  pub gives : Gives row names (λ name. values_of name given) reading

-- the words read as this by a row of the table
pub record ReadsIn (rows : List CommandRow) (words : List Text) (reading : Reading) : Type 0 where
  pub row : CommandRow
  pub in_table : Contains rows row
  pub reads : ReadsBy row words reading

-- the words read as this by the table of the program
abbrev pub ReadsAs : List Text → Reading → Type 0
ReadsAs words reading = ReadsIn commands words reading

abbrev pub HasNoReading : List Text → Type 0
HasNoReading words = (reading : Reading) → ReadsAs words reading → ⊥
