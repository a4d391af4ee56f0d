-- The words of a table, by the entries of its map.
use Rattle.std.proofs.Common.{◌≡◌, List, [], ◌∷◌, map, Global, string_bytes, refl, ap, ◌∙◌}
use Rattle.std.specs.Map.{keys_of}
use Rattle.std.specs.List.{list_all}
use Rattle.std.proofs.lemmas.List.Folds.{list_all-map}
use Rattle.toml.specs.View.{members_view}
use Rattle.toml.proofs.Views.{Entry}
use Rattle.ci_lat.specs.declared.keys.Key.{Key}
use Rattle.ci_lat.specs.Faults.{words, is_word_of, has_only}

words-members_view : (es : List Entry) → words (members_view es) ≡ map string_bytes (keys_of es)
words-members_view [] = refl
words-members_view (e ∷ es) = ap (λ ws. string_bytes e.0 ∷ ws) (words-members_view es)

pub has_only-members_view : (keys : List Key) (es : List Entry)
    → has_only keys (members_view es) ≡ list_all (λ w. is_word_of keys (string_bytes {Z = Global} w)) (keys_of es)
unfolding has_only
has_only-members_view keys es = ap (list_all (is_word_of keys)) (words-members_view es) ∙ list_all-map (is_word_of keys) string_bytes (keys_of es)

pub ruleset word_laws = (has_only-members_view)
