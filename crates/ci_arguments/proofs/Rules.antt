-- The arguments that `clap` makes of a command with positional words and options.
use Rattle.std.proofs.Common.{◌≡◌, ◌∙◌, ◌<◌, ◌⊎◌, ◌||◌, ◌&&◌, ℕ, Bool, true, false, not, List, [], ◌∷◌, length, map}
use Rattle.std.proofs.Common.{codes, Some, None, refl, ap, ap₂, arith, inl, inr, zero, suc}
use Rattle.std.specs.Prelude.{Contains, find, is_some}
use Rattle.std.specs.List.{slice_index_or}
use Rattle.std.specs.Str.{bytes_eq}
use Rattle.std.proofs.lemmas.Slice.Eq.{bytes_eq-Decides}
use Rattle.clap.specs.Walk.{Rule, Text, arg_by_id, arg_by_long, arg_by_short, has_long}
use Rattle.clap.specs.Simple.{Shape, built, filled, filled_from, new_rule, new_shape, with_index}
use Rattle.clap.specs.declared.builder.action.ArgAction.TheVariants.{Append}
use Rattle.clap.specs.declared.builder.range.ValueRange.{ValueRange}
use Rattle.clap.specs.declared.builder.value_parser.ValueParser.TheVariants as parser
use Rattle.ci_arguments.specs.private.Parses.{Known, app_for, option_by, option_given}

-- a use has one value
abbrev pub one_value : ValueRange
one_value = record { start_inclusive = 1; end_inclusive = 1 }

-- the argument of the positional words
abbrev pub names_rule : Rule
names_rule = record (new_rule (codes "names")) { index = Some 1; action = Some Append; range = Some one_value; parser = Some parser.String }

-- an option with one value, which may stand more than once or not
abbrev pub option_with : Bool → Text → Rule
option_with repeatable name = record (option_by repeatable name) { range = Some one_value; parser = Some parser.String }

-- an option of its name
abbrev pub option_rule : Known → Text → Rule
option_rule known name = option_with (known.repeats name) name

-- the arguments of a command, the positional words first
abbrev pub rules : Known → List Rule
rules known = names_rule ∷ map (option_rule known) known.names

-- the command, built
abbrev pub shape : Text → Known → Shape
shape name known = record (new_shape name)
    { rules = rules known; disable_help_flag = true; disable_help_subcommand = true; disable_version_flag = true; is_built = true }

-- what building makes of an option
filled_option : (i : ℕ) (repeatable : Bool) (name : Text) → with_index i (filled (option_by repeatable name))
    ≡ option_with repeatable name
filled_option i true name = refl
filled_option i false name = refl

-- and of the options
filled_options : (i : ℕ) (known : Known) (names : List Text) → filled_from i (map (option_given known) names)
    ≡ map (option_rule known) names
filled_options i known [] = refl
filled_options i known (k ∷ ks) = ap₂ (λ rule rest. rule ∷ rest) (filled_option i (known.repeats k) k) (filled_options i known ks)

-- what building makes of the command
pub built_is : (name : Text) (known : Known) → built (app_for name known) ≡ record { top = shape name known; subs = [] }
built_is name known = ap (λ given. record { top = record (shape name known) { rules = names_rule ∷ given }; subs = [] }) (filled_options 2 known known.names)

-- ---- which argument a word names

-- `false` adds nothing
or_false : (b : Bool) → (b || false) ≡ b
or_false true = refl
or_false false = refl

-- a text equals itself
pub same_text : (text : Text) → bytes_eq text text ≡ true
same_text text = (bytes_eq-Decides text text).1 refl

module _ (known : Known) (p : Rule → Bool) (name : Text) (same : (k : Text) → p (option_rule known k) ≡ bytes_eq k name) where
  -- the first option has the name
  here : (k : Text) (ks : List Text) → bytes_eq k name ≡ true → find p (map (option_rule known) (k ∷ ks)) ≡ Some (option_rule known name)
  here k ks e =
      let is : k ≡ name = (bytes_eq-Decides k name).0 e in
      rw (same k, e) (ap (λ n. Some (option_rule known n)) is)

  -- one of the options has the name
  known_found : (names : List Text) (i : ℕ) → i < length names → slice_index_or names i name ≡ name → find p (map (option_rule known) names)
      ≡ Some (option_rule known name)
  known_found [] i lt at = absurd (omega arith)
  known_found (k ∷ ks) zero lt at = here k ks (ap (λ n. bytes_eq n name) at ∙ same_text name)
  known_found (k ∷ ks) (suc i) lt at = go (bytes_eq k name) refl (known_found ks i (omega arith) at)
    where
      go : (b : Bool) → bytes_eq k name ≡ b → find p (map (option_rule known) ks) ≡ Some (option_rule known name) → find p (map (option_rule known) (k ∷ ks))
          ≡ Some (option_rule known name)
      go true e rest = here k ks e
      go false e rest = rw (same k, e) rest

  -- none of them, or one of them
  found_cases : (names : List Text) → (find p (map (option_rule known) names) ≡ None)
      ⊎ (Contains names name × (find p (map (option_rule known) names) ≡ Some (option_rule known name)))
  found_cases [] = inl refl
  found_cases (k ∷ ks) = go (bytes_eq k name) refl (found_cases ks)
    where
      go : (b : Bool) → bytes_eq k name ≡ b → (find p (map (option_rule known) ks) ≡ None)
          ⊎ (Contains ks name × (find p (map (option_rule known) ks) ≡ Some (option_rule known name)))
          → (find p (map (option_rule known) (k ∷ ks)) ≡ None)
          ⊎ (Contains (k ∷ ks) name × (find p (map (option_rule known) (k ∷ ks)) ≡ Some (option_rule known name)))
      go true e rest = inr ((0, omega arith, (bytes_eq-Decides k name).0 e), here k ks e)
      go false e (inl none) = inl (rw (same k, e) none)
      go false e (inr some) =
          let under = some.0.1 in
          inr ((suc some.0.0, omega arith, some.0.2), rw (same k, e) some.1)

-- an option of the command is found by its name
pub long_known : (known : Known) (name : Text) → Contains known.names name → arg_by_long (rules known) name ≡ Some (option_rule known name)
long_known known name c = known_found known (λ a. not (is_some a.index) && has_long a name) name (λ k. or_false (bytes_eq k name)) known.names c.0 c.1 c.2

-- a name is no option, or one of the command
pub long_cases : (known : Known) (name : Text) → (arg_by_long (rules known) name ≡ None)
    ⊎ (Contains known.names name × (arg_by_long (rules known) name ≡ Some (option_rule known name)))
long_cases known name = found_cases known (λ a. not (is_some a.index) && has_long a name) name (λ k. or_false (bytes_eq k name)) known.names

-- an option is found by its id, which is its name
pub id_known : (known : Known) (name : Text) → bytes_eq (codes "names") name ≡ false → Contains known.names name → arg_by_id (rules known) name
    ≡ Some (option_rule known name)
id_known known name apart c = rw apart (known_found known (λ a. bytes_eq a.id name) name (λ k. refl) known.names c.0 c.1 c.2)

-- no option has a short name
pub no_short : (known : Known) (x : ℕ) → arg_by_short (rules known) x ≡ None
no_short known x = none_short known.names
  where
    none_short : (names : List Text) → arg_by_short (map (option_rule known) names) x ≡ None
    none_short [] = refl
    none_short (k ∷ ks) = none_short ks
