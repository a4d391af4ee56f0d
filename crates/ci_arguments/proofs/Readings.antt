-- The readings of words, against the matches of the command that the first word names.
use Rattle.std.proofs.Common.{◌≡◌, ◌≢◌, ◌∙◌, ◌≤◌, ◌<◌, ◌&&◌, ℕ, Bool, true, false, not, List, [], ◌∷◌, ◌++◌}
use Rattle.std.proofs.Common.{get_or, length, map, codes, Some, refl, sym, ap, ap₂, subst, arith, drop, zero, suc}
use Rattle.std.specs.Prelude.{All, AllPairs, Contains, slice_get, zip, unwrap_or}
use Rattle.std.specs.Char.{digit_value}
use Rattle.std.specs.List.{AllZip}
use Rattle.std.specs.Str.{bytes_eq}
use Rattle.std.proofs.lemmas.Bool.{and_parts, not-false, not-true}
use Rattle.std.proofs.lemmas.Option.{same_Some}
use Rattle.std.proofs.lemmas.List.Elements.{All-cons, All-head, All-map, All-nil, All-tail, Contains-get_or}
use Rattle.std.proofs.lemmas.List.Folds.{Any-from_list_any}
use Rattle.std.proofs.lemmas.Slice.Eq.{bytes_eq-Decides}
use Rattle.std.proofs.lemmas.Slice.Zip.{seconds-zip}
use Rattle.clap.specs.Walk.{Row}
use Rattle.clap.specs.Simple.{matches_of}
use Rattle.clap.specs.Faults.{fault_of}
use Rattle.ci_arguments.specs.declared.tables.DefaultValue.{DefaultValue}
use Rattle.ci_arguments.specs.declared.tables.DefaultValue.TheVariants as default
use Rattle.ci_arguments.specs.declared.tables.Kind.{Kind}
use Rattle.ci_arguments.specs.declared.tables.Kind.TheVariants as kind
use Rattle.ci_arguments.specs.declared.tables.OptionName.{OptionName}
use Rattle.ci_arguments.specs.Tables.{CommandRow, OptionRow, commands}
use Rattle.ci_arguments.specs.Words.{AreApart, AreDigits, AreSaid, AreSet, Gives, IsDefault, IsName, IsWord, Reading}
use Rattle.ci_arguments.specs.Words.{ReadsAs, ReadsBy, ReadsIn, Says, Sets, Text, Value, file, number, settings_in}
use Rattle.ci_arguments.specs.Words.{values_of, word}
use Rattle.ci_arguments.specs.private.Parses.{IsParsed, MatchesGive, app_by, are_rows, is_row, known_in, names_in, values_in}
use Rattle.ci_arguments.proofs.Complete.{AreRead, names_plain}
use Rattle.ci_arguments.proofs.Elements.{shown_there}
use Rattle.ci_arguments.proofs.Levels.{passed_reads, read_meets}
use Rattle.ci_arguments.proofs.Rows.{AreOf, listed}
use Rattle.ci_arguments.proofs.Rules.{same_text}
use Rattle.ci_arguments.proofs.States.{AreOnce}
use Rattle.ci_arguments.proofs.TableLaws.{fits, good_row, named_has, once_known, one_row}

-- ---- one value for a text

module _ {X Y : Type 0} (R : X → Y → Type 0) where
  -- lists are zipped with one list where each has one
  zipped_one : ((x : X) (y z : Y) → R x y → R x z → y ≡ z) → (xs : List X) (ys zs : List Y) → AllZip R xs ys → AllZip R xs zs → ys ≡ zs
  zipped_one one [] [] [] a b = refl
  zipped_one one (x ∷ xs) (y ∷ ys) (z ∷ zs) a b =
      ap₂ (λ v vs. v ∷ vs) (one x y z a.0 b.0) (zipped_one one xs ys zs a.1 b.1)
  zipped_one one [] [] (z ∷ zs) a b = absurd b
  zipped_one one (x ∷ xs) (y ∷ ys) [] a b = absurd b
  zipped_one one xs ys zs a b = absurd a

  -- what each pair says of the first
  zipped_first : (P : X → Type 0) → ((x : X) (y : Y) → R x y → P x) → (xs : List X) (ys : List Y) → AllZip R xs ys → All P xs
  zipped_first P of_pair [] ys all = All-nil P
  zipped_first P of_pair (x ∷ xs) [] all = absurd all
  zipped_first P of_pair (x ∷ xs) (y ∷ ys) all =
      All-cons P x xs (of_pair x y all.0) (zipped_first P of_pair xs ys all.1)

-- a text is one word
word_one : (text : Text) (n m : ℕ) → IsWord text n → IsWord text m → n ≡ m
word_one text n m a b = sym a.2.value ∙ (subst (λ digits. AreDigits 16 8 digits m) same b.2).value
  where
    same : b.0 ≡ a.0
    same = ap (drop 2) (sym b.1 ∙ a.1)

-- and says one value
says_one : (kind : Kind) (text : Text) (one other : Value) → Says kind text one → Says kind text other → one ≡ other
says_one (kind.File access) text (file first name) (file second other) a b = ap₂ file (a.1 ∙ sym b.1) (a.2 ∙ sym b.2)
says_one (kind.File access) text (file first name) other a b = absurd b
says_one (kind.Number minimum maximum) text (number n) (number m) a b = ap number (sym a.0.value ∙ b.0.value)
says_one (kind.Number minimum maximum) text (number n) other a b = absurd b
says_one kind.Word text (word n) (word m) a b = ap word (word_one text n m a b)
says_one kind.Word text (word n) other a b = absurd b
says_one kind text one other a b = absurd a

-- a default is one
default_one : (value : DefaultValue) (one other : List Value) → IsDefault value one → IsDefault value other → one ≡ other
default_one default.MustStand one other a b = absurd a
default_one value one other a b = a ∙ sym b

-- an option is set to one list
sets_one : (option : OptionRow) (given : List Text) (one other : List Value) → Sets option given one → Sets option given other → one ≡ other
sets_one option [] one other a b = default_one option.default one other a b
sets_one option (text ∷ more) one other a b = zipped_one (Says option.kind) (says_one option.kind) (text ∷ more) one other a b

-- and so are several
set_one : (given : Text → List Text) (options : List OptionRow) (one other : List (OptionName × Value)) → AreSet options given one
    → AreSet options given other → one ≡ other
set_one given [] one other a b = a ∙ sym b
set_one given (option ∷ options) one other a b =
    a.4 ∙ (ap₂ (λ values others. map (λ value. (option.option, value)) values ++ others)
    (sets_one option (given option.name) a.0 b.0 a.2 b.2) (set_one given options a.1 b.1 a.3 b.3) ∙ sym b.4)

-- what is given gives one reading
gives_one : (row : CommandRow) (names : List Text) (given : Text → List Text) (reading other : Reading) → Gives row names given reading
    → Gives row names given other → other ≡ reading
gives_one row names given reading other a b =
    let command : other.command ≡ reading.command = b.command_is ∙ sym a.command_is in
    let values : other.values ≡ reading.values =
    zipped_one (λ typed value. Says typed.0 typed.1 value) (λ typed. says_one typed.0 typed.1) (zip row.positional names)
    other.values reading.values b.said.each a.said.each in
    let set : b.set ≡ a.set = set_one given row.options b.set a.set b.are_set a.are_set in
    let settings : (option : OptionName) → other.settings option ≡ reading.settings option =
    λ option. b.settings_are option ∙ (ap (λ s. settings_in s option) set ∙ sym (a.settings_are option)) in
    λ i. record { command = command i; values = values i; settings = λ option. settings option i }

-- what the positional words say and what the options are set to is apart, where it gives a reading
pub given_apart : (row : CommandRow) (names : List Text) (given : Text → List Text) (values : List Value) (set : List (OptionName × Value))
    → AreSaid row.positional names values → AreSet row.options given set → (reading : Reading) → Gives row names given reading
    → AllPairs AreApart (values ++ map (λ setting. setting.1) set)
given_apart row names given values set said are_set reading gives =
    let same : reading.values ≡ values =
    zipped_one (λ typed value. Says typed.0 typed.1 value) (λ typed. says_one typed.0 typed.1) (zip row.positional names)
    reading.values values gives.said.each said.each in
    subst (λ vs. AllPairs AreApart (vs ++ map (λ setting. setting.1) set)) same
    (subst (λ s. AllPairs AreApart (reading.values ++ map (λ setting. setting.1) s)) (set_one given row.options gives.set set gives.are_set are_set)
    gives.apart)

-- ---- other values for options

-- where the values of each option are the same, it is set to the same
set_along : (given other : Text → List Text) (options : List OptionRow) (set : List (OptionName × Value))
    → All (λ option. given option.name ≡ other option.name) options → AreSet options given set → AreSet options other set
set_along given other [] set same are = are
set_along given other (option ∷ options) set same are = (
  are.0,
  are.1,
  subst (λ values. Sets option values are.0) (All-head (λ o. given o.name ≡ other o.name) option options same) are.2,
  set_along given other options are.1 (All-tail (λ o. given o.name ≡ other o.name) option options same) are.3,
  are.4,
)

-- and the reading is the same
gives_along : (row : CommandRow) (names others : List Text) (given other : Text → List Text) (reading : Reading) → names ≡ others
    → All (λ option. given option.name ≡ other option.name) row.options → Gives row names given reading → Gives row others other reading
gives_along row names others given other reading named same gives = record {
  set = gives.set;
  command_is = gives.command_is;
  said = subst (λ ns. AreSaid row.positional ns reading.values) named gives.said;
  are_set = set_along given other row.options gives.set same gives.are_set;
  settings_are = gives.settings_are;
  apart = gives.apart;
}

-- ---- what is given is a name

-- a digit is no hyphen
no_hyphen : (c : ℕ) → digit_value c < 10 → c ≢ 45
no_hyphen c digit is =
    let hyphen : digit_value 45 < 10 = subst (λ d. digit_value d < 10) is digit in
    absurd (omega (arith, hyphen))

no_zero : (c : ℕ) → c ≡ 48 → c ≢ 45
no_zero c is hyphen = absurd (omega (arith, is, hyphen))

-- a text that says something is a name
said_name : (kind : Kind) (text : Text) (value : Value) → Says kind text value → IsName text
said_name (kind.File access) text (file other name) is = is.0
said_name (kind.Number minimum maximum) [] (number n) is = absurd (omega (arith, is.0.numeral.0))
said_name (kind.Number minimum maximum) (c ∷ cs) (number n) is = no_hyphen c is.0.numeral.1.0
said_name kind.Word text (word n) is = subst IsName (sym is.1) (no_zero 48 refl)
said_name kind text value is = absurd is

-- as many texts that say something are names
said_names : (kinds : List Kind) (texts : List Text) (values : List Value) → AreSaid kinds texts values → All IsName texts
said_names kinds texts values said =
    subst (All IsName) (seconds-zip kinds texts said.as_many)
    (All-map IsName (λ (typed : Kind × Text). typed.1) (zip kinds texts)
    (zipped_first (λ typed value. Says typed.0 typed.1 value) (λ typed. IsName typed.1) (λ typed. said_name typed.0 typed.1) (zip kinds texts)
    values said.each))

-- so are the values of an option
sets_names : (option : OptionRow) (given : List Text) (values : List Value) → Sets option given values → All IsName given
sets_names option [] values sets = All-nil IsName
sets_names option (text ∷ more) values sets =
    zipped_first (Says option.kind) IsName (said_name option.kind) (text ∷ more) values sets

-- and those of each option that is set
set_names : (given : Text → List Text) (options : List OptionRow) (set : List (OptionName × Value)) → AreSet options given set
    → All (λ option. All IsName (given option.name)) options
set_names given [] set are = All-nil (λ (option : OptionRow). All IsName (given option.name))
set_names given (option ∷ options) set are =
    All-cons (λ (o : OptionRow). All IsName (given o.name)) option options (sets_names option (given option.name) are.0 are.2)
    (set_names given options are.1 are.3)

-- ---- options that are given

-- what is listed
unlisted : (texts : List Text) → unwrap_or (listed texts) [] ≡ texts
unlisted [] = refl
unlisted (t ∷ ts) = refl

-- a value that is given is among those of its option
value_there : (given : List (Text × Text)) (k : ℕ) (d : Text × Text) → k < length given
    → Contains (values_of (get_or given k d).0 given) (get_or given k d).1
value_there [] k d lt = absurd (omega arith)
value_there (o ∷ os) zero d lt = rw (same_text o.0) (0, omega arith, refl)
value_there (o ∷ os) (suc k) d lt = go (bytes_eq o.0 (get_or os k d).0) refl (value_there os k d (omega arith))
  where
    go : (b : Bool) → bytes_eq o.0 (get_or os k d).0 ≡ b → Contains (values_of (get_or os k d).0 os) (get_or os k d).1
        → Contains (values_of (get_or os k d).0 (o ∷ os)) (get_or os k d).1
    go true e there = rw e (suc there.0, omega (arith, there.1), there.2)
    go false e there = rw e there

module _ (options : List OptionRow) where
  -- values that are given to these options are names where those of each option are
  good_values : (given : List (Text × Text)) → All (λ o. Contains (names_in options) o.0) given
      → All (λ (option : OptionRow). All IsName (values_of option.name given)) options → All (λ o. IsName o.1) given
  good_values given among good k d lt =
      let there = value_there given k d lt in
      subst IsName there.2 (named_has options (λ name. All IsName (values_of name given)) good (get_or given k d).0 (among k d lt)
      there.0 (get_or given k d).1 there.1)

  -- options that may stand only once do so
  once_named : (given : List (Text × Text)) → All (λ (option : OptionRow). option.repeatable ≡ false → length (values_of option.name given) ≤ 1) options
      → AreOnce (known_in options) given
  once_named given once name single =
      let found = Any-from_list_any (λ option. not option.repeatable && bytes_eq option.name name) options (not-false _ single) in
      let test = and_parts (not found.1.repeatable) (bytes_eq found.1.name name) found.4 in
      subst (λ n. length (values_of n given) ≤ 1) ((bytes_eq-Decides found.1.name name).0 test.1)
      (subst (λ (option : OptionRow). option.repeatable ≡ false → length (values_of option.name given) ≤ 1) found.3 (once found.0 found.1 found.2)
      (not-true _ test.0))

  -- and the other way round
  named_once : (given : List (Text × Text)) → AreOnce (known_in options) given
      → All (λ (option : OptionRow). option.repeatable ≡ false → length (values_of option.name given) ≤ 1) options
  named_once given once k d lt single =
      once (get_or options k d).name (once_known options (get_or options k d) (Contains-get_or options k d lt) single)

-- ---- words against matches

-- the words after the first
rest_of : (words : List Text) (name : Text) → slice_get words 0 ≡ Some name → (rest : List Text) × (words ≡ name ∷ rest)
rest_of [] name first = cc
rest_of (x ∷ xs) name first = (xs, ap (λ y. y ∷ xs) (same_Some x name first))

module _ (row : CommandRow) (good : is_row row ≡ true) where
  -- what is asked of the words after the command
  asked : (words : List Text) (reading : Reading) (reads : ReadsBy row words reading)
      → AreRead row.word (known_in row.options) [] reads.rest reads.names reads.given
  asked words reading reads = record {
    mixed = reads.mixed;
    plain = names_plain row.word (known_in row.options) reads.mixed
        (said_names row.positional reads.names reading.values reads.gives.said)
        (good_values row.options reads.given reads.known
        (set_names (λ name. values_of name reads.given) row.options reads.gives.set reads.gives.are_set));
    of_command = reads.known;
    once = once_named row.options reads.given reads.once;
  }

  module _ (rows : List Row) (names : List Text) (given : List (Text × Text)) (are : AreOf rows names given) where
    -- the names that the matches have
    names_are : values_in rows (codes "names") ≡ names
    names_are = ap (λ o. unwrap_or o []) are.of_names ∙ unlisted names

    -- the values that they have for each option of the row
    values_are : All (λ (option : OptionRow). values_in rows option.name ≡ values_of option.name given) row.options
    values_are k d lt =
        let option = get_or row.options k d in
        ap (λ o. unwrap_or o []) (are.of_option option.name (fits row good option.name (shown_there (λ o. o.name) row.options k d lt)).apart)
        ∙ unlisted (values_of option.name given)

    -- the same the other way round
    are_values : All (λ (option : OptionRow). values_of option.name given ≡ values_in rows option.name) row.options
    are_values k d lt = sym (values_are k d lt)

  -- what reads as a command has no fault, and its matches give the reading
  reading_found : (words : List Text) (reading : Reading) → ReadsBy row words reading
      → (fault_of (app_by row) words ≡ []) × MatchesGive row (matches_of (app_by row) words) reading
  reading_found words reading reads =
      let known = known_in row.options in
      let meets = read_meets row.word known (fits row good) row.word reads.rest reads.names reads.given (asked words reading reads) in
      let rows = matches_of (app_by row) (row.word ∷ reads.rest) in
      subst (λ ws. (fault_of (app_by row) ws ≡ []) × MatchesGive row (matches_of (app_by row) ws) reading) (sym reads.command) (
        meets.faultless,
        gives_along row reads.names (values_in rows (codes "names")) (λ name. values_of name reads.given) (values_in rows) reading
            (sym (names_are rows reads.names reads.given meets.stands)) (are_values rows reads.names reads.given meets.stands) reads.gives,
      )

  -- matches without a fault give a reading of the words
  matches_read : (words : List Text) (reading : Reading) → slice_get words 0 ≡ Some row.word → fault_of (app_by row) words ≡ []
      → MatchesGive row (matches_of (app_by row) words) reading → ReadsBy row words reading
  matches_read words reading first none gives =
      let rest = rest_of words row.word first in
      let rows = matches_of (app_by row) (row.word ∷ rest.0) in
      let found = passed_reads row.word (known_in row.options) (fits row good) row.word rest.0 (ap (fault_of (app_by row)) (sym rest.1) ∙ none) in
      let meets = read_meets row.word (known_in row.options) (fits row good) row.word rest.0 found.names found.given found.reads in
      let here : MatchesGive row rows reading = subst (λ ws. MatchesGive row (matches_of (app_by row) ws) reading) rest.1 gives in
      record {
        rest = rest.0;
        names = found.names;
        given = found.given;
        command = rest.1;
        mixed = found.reads.mixed;
        known = found.reads.of_command;
        once = named_once row.options found.given found.reads.once;
        gives = gives_along row (values_in rows (codes "names")) found.names (values_in rows) (λ name. values_of name found.given) reading
            (names_are rows found.names found.given meets.stands) (values_are rows found.names found.given meets.stands) here;
      }

module _ (table : List CommandRow) (good : are_rows table ≡ true) (words : List Text) where
  -- a reading by a table is one by the row that the first word names
  reads_here : (row : CommandRow) → Contains table row → slice_get words 0 ≡ Some row.word → (reading : Reading) → ReadsIn table words reading
      → ReadsBy row words reading
  reads_here row there first reading reads =
      let word : reads.row.word ≡ row.word = same_Some reads.row.word row.word (sym (ap (λ ws. slice_get ws 0) reads.reads.command) ∙ first) in
      subst (λ r. ReadsBy r words reading) (one_row table good reads.row row reads.in_table there word) reads.reads

  module _ (row : CommandRow) (there : Contains table row) (first : slice_get words 0 ≡ Some row.word) where
    -- no reading, where there is a fault
    pub refused_here : fault_of (app_by row) words ≢ [] → (reading : Reading) → ReadsIn table words reading → ⊥
    refused_here fault reading reads =
        fault (reading_found row (good_row table good row there) words reading (reads_here row there first reading reads)).0

    module _ (rows : List Row) (parsed : IsParsed (app_by row) words rows) where
      -- the reading of the matches
      pub read_here : (reading : Reading) → MatchesGive row rows reading → ReadsIn table words reading
      read_here reading gives = record {
        row = row;
        in_table = there;
        reads = matches_read row (good_row table good row there) words reading first parsed.faultless
            (subst (λ rs. MatchesGive row rs reading) parsed.found gives);
      }

      -- no reading, where the matches give none
      pub unmatched_here : ((reading : Reading) → MatchesGive row rows reading → ⊥) → (reading : Reading) → ReadsIn table words reading → ⊥
      unmatched_here none reading reads = none reading
          (subst (λ rs. MatchesGive row rs reading) (sym parsed.found)
          (reading_found row (good_row table good row there) words reading (reads_here row there first reading reads)).1)

  -- words have one reading at most
  pub one_reading_in : (first second : Reading) → ReadsIn table words first → ReadsIn table words second → first ≡ second
  one_reading_in first second a b =
      let row = a.row in
      let word = ap (λ ws. slice_get ws 0) a.reads.command in
      let good_one = good_row table good row a.in_table in
      let other = reads_here row a.in_table word second b in
      gives_one row _ _ second first (reading_found row good_one words second other).1 (reading_found row good_one words first a.reads).1

-- so have they by the table of the program
pub commands_good : are_rows commands ≡ true
unfolding commands
commands_good = refl

pub one_reading : (words : List Text) (first second : Reading) → ReadsAs words first → ReadsAs words second → first ≡ second
one_reading = one_reading_in commands commands_good
