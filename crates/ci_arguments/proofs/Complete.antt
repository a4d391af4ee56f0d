-- Words that are names and options pass `clap`'s walk, and it finds these names and options.
use Rattle.std.proofs.Common.{◌≡◌, ◌∙◌, true, false, List, [], ◌∷◌, ◌++◌, codes, refl, sym, ap, subst, fold, append_assoc}
use Rattle.std.proofs.lemmas.List.{append-nil}
use Rattle.std.proofs.lemmas.List.Elements.{All-head, All-tail}
use Rattle.std.specs.Prelude.{All, Contains, ⊤}
use Rattle.clap.specs.Kinds.{Kinds}
use Rattle.clap.specs.Walk.{Held, Text, Waiting, Walk, reacted, settled, walked}
use Rattle.clap.specs.Walk as w
use Rattle.clap.specs.Faults.{walk_fault}
use Rattle.ci_arguments.specs.Words.{AreMixed, IsName}
use Rattle.ci_arguments.specs.Words as mixed
use Rattle.ci_arguments.specs.private.Parses.{Known}
use Rattle.ci_arguments.proofs.Rules.{long_known, option_rule, rules, shape}
use Rattle.ci_arguments.proofs.Spellings.{plain_word}
use Rattle.ci_arguments.proofs.States.{AreOnce, Holds, Holds-filled, Holds-named, Holds-reacted, IsOption, both_none, long_of-joined, long_of-opened, new_option}
use Rattle.ci_arguments.proofs.Steps.{IsFree, IsPlain, at, at_dashes, at_joined, at_last, at_opened, at_plain, at_value, filled, named, opened, turn}

module _ (name : Text) (known : Known) where
  -- ---- what is read

  -- no name before `--` and no value of its own looks like a flag
  abbrev pub ArePlain : {words names : List Text} {given : List (Text × Text)} → AreMixed words names given → Type 0
  ArePlain mixed.nothing = ⊤
  ArePlain (mixed.dashes names) = ⊤
  ArePlain (mixed.positional word rest) = IsPlain name known word × ArePlain rest
  ArePlain (mixed.option_in_two option value rest) = IsPlain name known value × ArePlain rest
  ArePlain (mixed.option_in_one option value rest) = ArePlain rest

  -- after options that were given before, words are these names, and these options of the command, each option once
  pub record AreRead (before : List (Text × Text)) (words names : List Text) (given : List (Text × Text)) : Type 0 where
    pub mixed : AreMixed words names given
    pub plain : ArePlain mixed
    pub of_command : All (λ o. Contains known.names o.0) given
    pub once : AreOnce known (before ++ given)

  name_plain : (word : Text) → IsName word → IsPlain name known word
  name_plain [] good = absurd good
  name_plain (c ∷ cs) good = plain_word name known c cs good

  -- names, and values that could be names, do not look like flags
  pub names_plain : {words names : List Text} {given : List (Text × Text)} (mixed : AreMixed words names given)
      → All IsName names → All (λ o. IsName o.1) given → ArePlain mixed
  names_plain mixed.nothing good values = tt
  names_plain (mixed.dashes names) good values = tt
  names_plain (mixed.positional word rest) good values =
      (name_plain word (All-head IsName word _ good), names_plain rest (All-tail IsName word _ good) values)
  names_plain (mixed.option_in_two option value rest) good values =
      (name_plain value (All-head (λ o. IsName o.1) (option, value) _ values), names_plain rest good (All-tail (λ o. IsName o.1) (option, value) _ values))
  names_plain (mixed.option_in_one option value rest) good values = names_plain rest good (All-tail (λ o. IsName o.1) (option, value) _ values)

  -- ---- the walk

  -- the walk over the words has no fault, and at its end stands for these names and options
  pub record Passes (v : Walk) (words names : List Text) (given : List (Text × Text)) : Type 0 where
    pub faultless : walk_fault (shape name known) [] v words ≡ []
    pub ends : Holds known (fold (walked (rules known) []) v words).held names given

  -- no words
  passes_end : (waiting : Waiting) (h : Held) (names : List Text) (given : List (Text × Text)) → Holds known h names given
      → Passes (at waiting false h) [] names given
  unfolding walk_fault
  passes_end waiting h names given holds = record { faultless = refl; ends = holds }

  -- one more word
  passes_more : (v after : Walk) (word : Text) (words names : List Text) (given : List (Text × Text)) (faults : Kinds)
      → turn name known v word ≡ (faults, after) → faults ≡ [] → Passes after words names given → Passes v (word ∷ words) names given
  unfolding walk_fault
  passes_more v after word words names given faults is none rest = record {
    faultless = both_none _ _ (ap (λ t. t.0) is ∙ none) (ap (λ t. walk_fault (shape name known) [] t.1 words) is ∙ rest.faultless);
    ends = subst (λ t. Holds known (fold (walked (rules known) []) t.1 words).held names given) (sym is) rest.ends;
  }

  -- the names after `--`
  last_passes : (last : List Text) (waiting : Waiting) (h : Held) (before : List Text) (given : List (Text × Text))
      → Holds known h before given → Passes (at waiting true h) last (before ++ last) given
  unfolding walk_fault
  last_passes [] waiting h before given holds = rw (append-nil before) (record { faultless = refl; ends = holds })
  last_passes (word ∷ last) waiting h before given holds =
      subst (λ names. Passes (at waiting true h) (word ∷ last) names given) (append_assoc before (word ∷ []) last)
      (passes_more (at waiting true h) _ word last _ given _ (at_last name known waiting h word) holds.settles
      (last_passes last w.positional (named (rules known) word h) (before ++ word ∷ []) given (Holds-named known h before given word holds)))

  module _ (fits : (k : Text) → Contains known.names k → IsOption k) where
    -- names and options, mixed, and what stands after `--`
    pub mixed_passes : {words names : List Text} {given : List (Text × Text)} (mixed : AreMixed words names given) → ArePlain mixed
        → All (λ o. Contains known.names o.0) given → (waiting : Waiting) (h : Held) (before : List Text) (past : List (Text × Text))
        → IsFree name known waiting → AreOnce known (past ++ given) → Holds known h before past
        → Passes (at waiting false h) words (before ++ names) (past ++ given)
    mixed_passes mixed.nothing plain of waiting h before past free once holds =
        rw (append-nil before, append-nil past) (passes_end waiting h before past holds)
    mixed_passes (mixed.dashes names) plain of waiting h before past free once holds =
        rw (append-nil past)
        (passes_more (at waiting false h) _ (codes "--") names _ past _ (at_dashes name known waiting h) refl
        (last_passes names waiting h before past holds))
    mixed_passes (mixed.positional word {words = words} {names = names} {given = given} rest) plain of waiting h before past free once holds =
        subst (λ names. Passes (at waiting false h) (word ∷ words) names (past ++ given)) (append_assoc before (word ∷ []) names)
        (passes_more (at waiting false h) _ word words _ _ _ (at_plain name known waiting h word free holds.skips plain.0) holds.settles
        (mixed_passes rest plain.1 of w.positional (named (rules known) word h) (before ++ word ∷ []) past tt once
        (Holds-named known h before past word holds)))
    mixed_passes (mixed.option_in_two option value {words = words} {names = names} {given = given} rest) plain of waiting h before past free once holds =
        let among = All-head (λ o. Contains known.names o.0) (option, value) given of in
        let is = fits option among in
        let spelt = long_of-opened option is in
        let rows = (settled (rules known) h).rows in
        let more = sym (append_assoc past ((option, value) ∷ []) given) in
        let next = Holds-filled known rows before past option value is.apart among holds.stands (new_option known past option value given once) in
        subst (Passes (at waiting false h) ((codes "--" ++ option) ∷ value ∷ words) (before ++ names)) (sym more)
        (passes_more (at waiting false h) _ (codes "--" ++ option) (value ∷ words) _ _ _
        (at_opened name known waiting h (codes "--" ++ option) option holds.skips spelt.0 spelt.1 (long_known known option among))
        (both_none _ [] holds.settles refl)
        (passes_more (at (w.option option) false (opened rows option)) _ value words _ _ _
        (at_value name known option rows value is.apart among plain.0) refl
        (mixed_passes rest plain.1 (All-tail (λ o. Contains known.names o.0) (option, value) given of) w.idle (filled rows option value) before
        (past ++ (option, value) ∷ []) tt (subst (AreOnce known) more once) next)))
    mixed_passes (mixed.option_in_one option value {words = words} {names = names} {given = given} rest) plain of waiting h before past free once holds =
        let among = All-head (λ o. Contains known.names o.0) (option, value) given of in
        let is = fits option among in
        let word = codes "--" ++ (option ++ (codes "=" ++ value)) in
        let spelt = long_of-joined option value is in
        let more = sym (append_assoc past ((option, value) ∷ []) given) in
        let next = Holds-reacted known h before past option value is.apart holds (new_option known past option value given once) in
        subst (Passes (at waiting false h) (word ∷ words) (before ++ names)) (sym more)
        (passes_more (at waiting false h) _ word words _ _ _
        (at_joined name known waiting h word option value spelt.0 spelt.1 (long_known known option among)) (both_none _ [] next.0 refl)
        (mixed_passes rest plain (All-tail (λ o. Contains known.names o.0) (option, value) given of) w.idle
        (reacted (rules known) (option_rule known option) (value ∷ []) h) before (past ++ (option, value) ∷ []) tt
        (subst (AreOnce known) more once) next.1))
