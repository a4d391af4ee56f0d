-- The values that the matches have, and the first of the words.
use Rattle.std.proofs.Common.{◌≡◌, ◌∙◌, List, [], ◌∷◌, map, sym, ap}
use Rattle.std.specs.Prelude.{IfNone, Option, Some, None, option_map, slice_get, unwrap_or}
use Rattle.std.proofs.lemmas.Option.{same_Some}
use Rattle.clap.specs.Matches.{matched_of, raw_values}
use Rattle.clap.specs.Walk.{Text, rows_of}
use Rattle.clap.specs.declared.parser.matches.Found.{Found}
use Rattle.clap.proofs.WalkLemmas.{raw_values-rows}
use Rattle.ci_arguments.specs.private.Parses.{values_in}

-- the first of a list's texts
pub first_text : {X : Type 0} (f : X → Text) (xs : List X) (x : X) (text : Text)
    → Some x ≡ slice_get xs 0 → text ≡ f x → slice_get (map f xs) 0 ≡ Some text
first_text f [] x text first is = cc
first_text f (y ∷ ys) x text first is = ap (λ t. Some t) (ap f (sym (same_Some x y first)) ∙ sym is)

-- the values that `clap` gives for an argument
pub values_are : (f : Found) (id : Text) (values : Option (List Text)) → values ≡ option_map raw_values (matched_of f id)
    → values_in (rows_of f) id ≡ unwrap_or values []
values_are f id values is = ap (λ o. unwrap_or o []) (sym (raw_values-rows f id) ∙ sym is)

-- what follows where there is no value
pub if_none_then : {X : Type 0} (r : Option X) (P Q : Type 0) → (P → Q) → IfNone r P → IfNone r Q
if_none_then None P Q f p = f p
if_none_then (Some x) P Q f p = tt
