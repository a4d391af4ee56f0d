-- A file that `find` writes has another name than each other file of the call.
use Rattle.std.proofs.Common.{◌≡◌, ◌≢◌, ◌∙◌, ◌⊎◌, inl, inr, ◌+◌, ◌<◌, ℕ, zero, suc, Bool, true, false, not, ◌||◌, List}
use Rattle.std.proofs.Common.{[], ◌∷◌, ◌++◌, length, map, Option, Some, None, refl, sym, ap, subst, arith}
use Rattle.std.specs.Prelude.{AllPairs, get_or, option_map, slice_get, unwrap_or, zip}
use Rattle.std.specs.List.{AllZip, list_all}
use Rattle.std.proofs.lemmas.Option.{slice_get_within, get_or_from_slice_get}
use denote.Enum.Bare.{sameb, true_same}
use Rattle.ci_arguments.specs.contracts.tables.CommandName.{the_type as command_type}
use Rattle.ci_arguments.specs.declared.tables.Access.TheVariants.{Reads, Writes}
use Rattle.ci_arguments.specs.declared.tables.CommandName.TheVariants.{Find}
use Rattle.ci_arguments.specs.declared.tables.Kind.{Kind}
use Rattle.ci_arguments.specs.declared.tables.Kind.TheVariants as kind
use Rattle.ci_arguments.specs.declared.tables.OptionName.{OptionName}
use Rattle.ci_arguments.specs.Tables.{CommandRow, commands}
use Rattle.ci_arguments.specs.Words.{AreApart, IsName, Reading, ReadsAs, Says, Text, Value, file, is_of, name_at, name_in, name_set, number, settings_in, word}
use Rattle.ci_arguments.proofs.TableLaws.{true_there}

-- ---- kinds of files

abbrev is_written : Kind → Bool
is_written (kind.File Writes) = true
is_written kind = false

-- the row is another command's, or a file is written at the place
abbrev writes_at : ℕ → CommandRow → Bool
writes_at place row =
    not (sameb command_type row.command Find)
    || unwrap_or (option_map is_written (slice_get row.positional place)) false

-- `find` writes the file at this place
abbrev pub IsWritten : ℕ → Type 0
IsWritten place = list_all (writes_at place) commands ≡ true

-- NEW, UNITS, LOGS and REPORT are such files
pub new_is_written : IsWritten 1
unfolding commands
new_is_written = refl

pub units_are_written : IsWritten 2
unfolding commands
units_are_written = refl

pub logs_are_written : IsWritten 3
unfolding commands
logs_are_written = refl

pub report_is_written : IsWritten 4
unfolding commands
report_is_written = refl

-- ---- the value of a file that is written

-- a value at a place is a file that is written, and this is its name
abbrev IsFile : List Value → ℕ → Text → Type 0
IsFile values place name = IsName name × (slice_get values place ≡ Some (file Writes name))

-- what a text of such a kind says is a file that is written
file_here : (k : Kind) (text : Text) (value : Value) → is_written k ≡ true → Says k text value
    → (name : Text) × IsName name × (value ≡ file Writes name)
file_here (kind.File Writes) text (file other name) e (is, same, named) =
    (name, subst IsName (sym named) is, ap (λ access. file access name) same)
file_here (kind.File Writes) text (number n) e says = absurd says
file_here (kind.File Writes) text (word n) e says = absurd says
file_here (kind.File Reads) text value e says = cc
file_here (kind.Number minimum maximum) text value e says = cc
file_here kind.Word text value e says = cc

-- so is what one of as many texts says
file_at : (place : ℕ) (kinds : List Kind) (texts : List Text) (values : List Value) → length texts ≡ length kinds
    → AllZip (λ typed value. Says typed.0 typed.1 value) (zip kinds texts) values
    → unwrap_or (option_map is_written (slice_get kinds place)) false ≡ true
    → (name : Text) × IsFile values place name
file_at place [] texts values as_many each e = cc
file_at place (k ∷ kinds) [] values as_many each e = cc
file_at place (k ∷ kinds) (text ∷ texts) [] as_many each e = absurd each
file_at zero (k ∷ kinds) (text ∷ texts) (value ∷ values) as_many each e =
    let here = file_here k text value e each.0 in (here.0, (here.1, ap Some here.2))
file_at (suc place) (k ∷ kinds) (text ∷ texts) (value ∷ values) as_many each e =
    file_at place kinds texts values (omega (arith, as_many)) each.1 e

-- another value has another name
other_value : (value : Value) (name : Text) → IsName name
    → AreApart value (file Writes name) ⊎ AreApart (file Writes name) value → name_in value ≢ name
other_value (file access text) name is (inl apart) = apart (inr refl)
other_value (file access text) name is (inr apart) = λ e. apart (inl refl) (sym e)
other_value (number n) name is apart = λ e. subst IsName (sym e) is
other_value (word n) name is apart = λ e. subst IsName (sym e) is

-- ---- places

-- an element of a list stands in a longer one,
front_there : {X : Type 0} (xs ys : List X) (i : ℕ) (x : X) → slice_get xs i ≡ Some x → slice_get (xs ++ ys) i ≡ Some x
front_there [] ys i x e = cc
front_there (y ∷ xs) ys zero x e = e
front_there (y ∷ xs) ys (suc i) x e = front_there xs ys i x e

-- and in one that goes before
behind_there : {X : Type 0} (xs ys : List X) (n i : ℕ) (x : X) → n ≡ length xs + i → slice_get ys i ≡ Some x
    → slice_get (xs ++ ys) n ≡ Some x
behind_there [] ys n i x is e = let same : n ≡ i = omega (arith, is) in subst (λ k. slice_get ys k ≡ Some x) (sym same) e
behind_there (y ∷ xs) ys zero i x is e = absurd (omega (arith, is))
behind_there (y ∷ xs) ys (suc n) i x is e = behind_there xs ys n i x (omega (arith, is)) e

-- two values at different places are apart
apart_at : (values : List Value) (i j : ℕ) (a b : Value) → AllPairs AreApart values → slice_get values i ≡ Some a
    → slice_get values j ≡ Some b → i < j → AreApart a b
apart_at values i j a b apart first second before =
    subst (λ x. AreApart x b) (get_or_from_slice_get values i a a first)
    (subst (AreApart (get_or values i a)) (get_or_from_slice_get values j b a second)
    (apart i j a before (slice_get_within values j b second)))

-- what an option is set to is one of the values that are set
set_there : (set : List (OptionName × Value)) (option : OptionName) (i : ℕ) (value : Value)
    → slice_get (settings_in set option) i ≡ Some value
    → (j : ℕ) × (slice_get (map (λ setting. setting.1) set) j ≡ Some value)
set_there [] option i value e = cc
set_there (s ∷ set) option i value e = go (is_of option s) refl i (λ k. set_there set option k value) e
  where
    go : (b : Bool) → is_of option s ≡ b → (i : ℕ)
        → ((k : ℕ) → slice_get (settings_in set option) k ≡ Some value
        → (j : ℕ) × (slice_get (map (λ setting. setting.1) set) j ≡ Some value))
        → slice_get (settings_in (s ∷ set) option) i ≡ Some value
        → (j : ℕ) × (slice_get (map (λ setting. setting.1) (s ∷ set)) j ≡ Some value)
    go true is zero more at = (0, rw is at at)
    go true is (suc i) more at = let rest = more i (rw is at at) in (suc rest.0, rest.1)
    go false is i more at = let rest = more i (rw is at at) in (suc rest.0, rest.1)

-- ---- a reading of `find`

module _ (words : List Text) (reading : Reading) (reads : ReadsAs words reading) (finds : reading.command ≡ Find)
    (place : ℕ) (written : IsWritten place) where
  -- all values that are given
  abbrev set_values : List Value
  set_values = map (λ setting. setting.1) reads.reads.gives.set

  -- the value at the place
  here : (name : Text) × IsFile reading.values place name
  here =
      let gives = reads.reads.gives in
      let test = true_there (writes_at place) commands written reads.row reads.in_table in
      let is : sameb command_type reads.row.command Find ≡ true =
      true_same command_type reads.row.command Find (sym gives.command_is ∙ finds) in
      file_at place reads.row.positional reads.reads.names reading.values gives.said.as_many gives.said.each (rw is at test)

  -- its name is that of the reading
  named : name_at reading place ≡ here.0
  named = ap (λ found. unwrap_or (option_map name_in found) []) here.1.1

  -- another positional word has another name
  pub name_apart : (other : ℕ) → (other < place) ⊎ (place < other) → name_at reading other ≢ name_at reading place
  name_apart other far = λ e. beside (slice_get reading.values other) refl (e ∙ named)
    where
      in_all : (i : ℕ) (value : Value) → slice_get reading.values i ≡ Some value
          → slice_get (reading.values ++ set_values) i ≡ Some value
      in_all i value at = front_there reading.values set_values i value at

      apart_from : (value : Value) → slice_get reading.values other ≡ Some value → (other < place) ⊎ (place < other)
          → AreApart value (file Writes here.0) ⊎ AreApart (file Writes here.0) value
      apart_from value at (inl before) =
          inl (apart_at (reading.values ++ set_values) other place value (file Writes here.0) reads.reads.gives.apart
          (in_all other value at) (in_all place (file Writes here.0) here.1.1) before)
      apart_from value at (inr behind) =
          inr (apart_at (reading.values ++ set_values) place other (file Writes here.0) value reads.reads.gives.apart
          (in_all place (file Writes here.0) here.1.1) (in_all other value at) behind)

      beside : (found : Option Value) → slice_get reading.values other ≡ found
          → unwrap_or (option_map name_in found) [] ≢ here.0
      beside None at = λ e. subst IsName (sym e) here.1.0
      beside (Some value) at = other_value value here.0 here.1.0 (apart_from value at far)

  -- so has a file that an option names
  pub set_apart : (option : OptionName) (name : Text) → name_set reading option ≡ Some name → name ≢ name_at reading place
  set_apart option name set =
      λ e. beside (slice_get (reading.settings option) 0) refl set (e ∙ named)
    where
      beside : (found : Option Value) → slice_get (reading.settings option) 0 ≡ found
          → option_map name_in found ≡ Some name → name ≢ here.0
      beside None at is = cc
      beside (Some value) at is =
          let settings : slice_get (settings_in reads.reads.gives.set option) 0 ≡ Some value =
          subst (λ values. slice_get values 0 ≡ Some value) (reads.reads.gives.settings_are option) at in
          let there = set_there reads.reads.gives.set option 0 value settings in
          let same : name_in value ≡ name = cc in
          let within = slice_get_within reading.values place (file Writes here.0) here.1.1 in
          λ e. other_value value here.0 here.1.0
          (inr (apart_at (reading.values ++ set_values) place (length reading.values + there.0) (file Writes here.0) value
          reads.reads.gives.apart (front_there reading.values set_values place (file Writes here.0) here.1.1)
          (behind_there reading.values set_values (length reading.values + there.0) there.0 value refl there.1)
          (omega (arith, within)))) (same ∙ e)
