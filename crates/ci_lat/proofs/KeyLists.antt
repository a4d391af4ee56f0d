-- The lists of keys, as the code has them.
use Rattle.std.proofs.Common.{◌≡◌, Bool, [], ◌∷◌, ◌++◌, take, refl, ap, ◌∙◌}
use Rattle.std.specs.Prelude.{⊤}
use Rattle.std.specs.List.{find}
use Rattle.std.specs.Option.{option_or}
use Rattle.std.proofs.lemmas.List.Folds.{find-append}
use Rattle.ci_lat.specs.declared.keys.Key.{Key}
use Rattle.ci_lat.specs.declared.keys.Key.TheVariants.{Read, Pad, Software, Hardware}
use Rattle.ci_lat.specs.declared.keys.TheConstants.{SOFTWARE_KEYS, HARDWARE_KEYS}
use Rattle.ci_lat.specs.Latencies.{rows, delayed_rows}
use Rattle.ci_lat.specs.Keys.{software_keys, hardware_keys, keys_by_value, keys_above_pad}

-- what an answer unfolds to compute the lists of keys
unfoldable pub listed : ⊤
unfolding software_keys hardware_keys rows delayed_rows
listed = tt

pub SOFTWARE_KEYS-listed : SOFTWARE_KEYS ≡ software_keys
unfolding listed
SOFTWARE_KEYS-listed = refl

pub HARDWARE_KEYS-listed : HARDWARE_KEYS ≡ hardware_keys
unfolding listed
HARDWARE_KEYS-listed = refl

module _ (p : Key → Bool) where
  pub find-keys_by_value : find p keys_by_value
      ≡ option_or (option_or (option_or (find p (Read ∷ Pad ∷ Software ∷ [])) (find p SOFTWARE_KEYS)) (find p (Hardware ∷ []))) (find p HARDWARE_KEYS)
  unfolding keys_by_value listed
  find-keys_by_value =
      find-append p (((Read ∷ Pad ∷ Software ∷ []) ++ SOFTWARE_KEYS) ++ Hardware ∷ []) HARDWARE_KEYS
      ∙ ap (λ o. option_or o (find p HARDWARE_KEYS)) (find-append p ((Read ∷ Pad ∷ Software ∷ []) ++ SOFTWARE_KEYS) (Hardware ∷ [])
      ∙ ap (λ o. option_or o (find p (Hardware ∷ []))) (find-append p (Read ∷ Pad ∷ Software ∷ []) SOFTWARE_KEYS))

  pub find-keys_above_pad : find p keys_above_pad ≡ option_or (find p (take 8 SOFTWARE_KEYS)) (find p (Read ∷ []))
  unfolding keys_above_pad listed
  find-keys_above_pad = find-append p (take 8 SOFTWARE_KEYS) (Read ∷ [])

pub ruleset finds = (find-keys_by_value, find-keys_above_pad)
