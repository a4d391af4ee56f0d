-- Words that pass `clap`'s walk are names and options.
use Rattle.std.proofs.Common.{◌≡◌, ◌∙◌, true, false, List, [], ◌∷◌, ◌++◌, codes, Some, None, refl, sym, ap, subst, arith, fold, append_assoc}
use Rattle.std.proofs.lemmas.List.{append-nil}
use Rattle.std.specs.Prelude.{All, Contains}
use Rattle.std.proofs.lemmas.List.Elements.{All-cons, All-nil}
use Rattle.std.specs.Str.{bytes_eq}
use Rattle.clap.specs.Kinds.{Kinds}
use Rattle.clap.specs.Walk.{Held, Row, Text, Waiting, Walk, reacted, settled, walked}
use Rattle.clap.specs.Walk as w
use Rattle.clap.specs.Faults.{react_fault, settle_fault, walk_fault}
use Rattle.ci_arguments.specs.Words as mixed
use Rattle.ci_arguments.specs.private.Parses.{Known}
use Rattle.ci_arguments.proofs.Complete.{AreRead}
use Rattle.ci_arguments.proofs.Rows.{no_rows}
use Rattle.ci_arguments.proofs.Rules.{option_rule, rules, shape}
use Rattle.ci_arguments.proofs.Spellings.{Look, look}
use Rattle.ci_arguments.proofs.Spellings as seen
use Rattle.ci_arguments.proofs.States.{AreOnce, AreOnce-push, Holds, Holds-filled, Holds-named, Holds-reacted, IsOption, filled_new, first_none, opened_fault, reacted_new, second_none}
use Rattle.ci_arguments.proofs.Steps.{IsFree, IsPlain, at, at_dashes, at_joined, at_last, at_opened, at_plain, at_value, filled, named, opened, turn}

module _ (name : Text) (known : Known) where
  -- what is held after the words
  abbrev end_of : Walk → List Text → Held
  end_of v words = (fold (walked (rules known) []) v words).held

  -- the walk over the words and its end have no fault
  record IsFaultless (v : Walk) (words : List Text) : Type 0 where
    walks : walk_fault (shape name known) [] v words ≡ []
    settles : settle_fault (rules known) false (end_of v words) ≡ []

  -- where what waits has no fault, what is held stands for these names and options, each option once
  record Tracks (h : Held) (names : List Text) (given : List (Text × Text)) : Type 0 where
    skips : h.skip ≡ 0
    holds : settle_fault (rules known) false h ≡ [] → Holds known h names given × AreOnce known given

  -- neither the first word has a fault nor those after it
  turn_passed : (v after : Walk) (word : Text) (words : List Text) (faults : Kinds) → turn name known v word ≡ (faults, after)
      → IsFaultless v (word ∷ words) → (faults ≡ []) × IsFaultless after words
  unfolding walk_fault
  turn_passed v after word words faults is none = (
    sym (ap (λ t. t.0) is) ∙ first_none _ _ none.walks,
    record {
      walks = ap (λ t. walk_fault (shape name known) [] t.1 words) (sym is) ∙ second_none _ _ none.walks;
      settles = ap (λ t. settle_fault (rules known) false (end_of t.1 words)) (sym is) ∙ none.settles;
    },
  )

  -- what waits at `--` has no fault
  last_settles : (words : List Text) (waiting : Waiting) (h : Held) → IsFaultless (at waiting true h) words → settle_fault (rules known) false h ≡ []
  last_settles [] waiting h none = none.settles
  last_settles (word ∷ words) waiting h none = (turn_passed _ _ word words _ (at_last name known waiting h word) none).0

  -- what is read, whatever its names and its options are
  pub record Found (before : List (Text × Text)) (words : List Text) : Type 0 where
    pub names : List Text
    pub given : List (Text × Text)
    pub reads : AreRead name known before words names given

  -- no option
  found_none : (before : List (Text × Text)) → AreOnce known before → AreOnce known (before ++ [])
  found_none before once = subst (AreOnce known) (sym (append-nil before)) once

  -- one more name
  found_name : (before : List (Text × Text)) (word : Text) (words : List Text) → IsPlain name known word → Found before words
      → Found before (word ∷ words)
  found_name before word words plain found = record {
    names = word ∷ found.names;
    given = found.given;
    reads = record {
      mixed = mixed.positional word found.reads.mixed;
      plain = (plain, found.reads.plain);
      of_command = found.reads.of_command;
      once = found.reads.once;
    };
  }

  module _ (before : List (Text × Text)) (option value : Text) (words : List Text) (among : Contains known.names option)
      (found : Found (before ++ (option, value) ∷ []) words) where
    -- one more option is one of the command, and given once
    more_of_command : All (λ (o : Text × Text). Contains known.names o.0) ((option, value) ∷ found.given)
    more_of_command = All-cons (λ (o : Text × Text). Contains known.names o.0) (option, value) found.given among found.reads.of_command

    more_once : AreOnce known (before ++ (option, value) ∷ found.given)
    more_once = subst (AreOnce known) (append_assoc before ((option, value) ∷ []) found.given) found.reads.once

    -- in one word
    found_one : Found before ((codes "--" ++ (option ++ (codes "=" ++ value))) ∷ words)
    found_one = record {
      names = found.names;
      given = (option, value) ∷ found.given;
      reads = record {
        mixed = mixed.option_in_one option value found.reads.mixed;
        plain = found.reads.plain;
        of_command = more_of_command;
        once = more_once;
      };
    }

    -- in two words
    found_two : IsPlain name known value → Found before ((codes "--" ++ option) ∷ value ∷ words)
    found_two plain = record {
      names = found.names;
      given = (option, value) ∷ found.given;
      reads = record {
        mixed = mixed.option_in_two option value found.reads.mixed;
        plain = (plain, found.reads.plain);
        of_command = more_of_command;
        once = more_once;
      };
    }

  -- ---- from word to word

  -- where no option waits, the words are names and options
  abbrev FreeSound : List Text → Type 0
  FreeSound words = (waiting : Waiting) (h : Held) (names : List Text) (given : List (Text × Text)) → IsFree name known waiting → Tracks h names given
      → IsFaultless (at waiting false h) words → Found given words

  -- where one waits, they are its value and then names and options
  abbrev OpenSound : List Text → Type 0
  OpenSound words = (rows : List Row) (option : Text) (names : List Text) (given : List (Text × Text)) → Contains known.names option
      → Holds known (record { rows = rows; pending = None; skip = 0 }) names given → AreOnce known given
      → IsFaultless (at (w.option option) false (opened rows option)) words → Found given ((codes "--" ++ option) ∷ words)

  module _ (fits : (k : Text) → Contains known.names k → IsOption k) where
    -- any word where no option waits
    free_step : (word : Text) (words : List Text) → FreeSound words → OpenSound words → FreeSound (word ∷ words)
    free_step word words rest waited waiting h names given free tracks none = go (look name known word)
      where
        go : Look name known word → Found given (word ∷ words)
        go (seen.refused fails) = absurd (fails waiting h tracks.skips (turn_passed _ _ word words _ refl none).0)
        go (seen.dashes is) =
            let step = turn_passed _ (at waiting true h) word words [] (ap (turn name known (at waiting false h)) is ∙ at_dashes name known waiting h) none in
            subst (λ dashes. Found given (dashes ∷ words)) (sym is) (record {
              names = words;
              given = [];
              reads = record {
                mixed = mixed.dashes words;
                plain = tt;
                of_command = All-nil (λ (o : Text × Text). Contains known.names o.0);
                once = found_none given (tracks.holds (last_settles words waiting h step.1)).1;
              };
            })
        go (seen.plain plain) =
            let step = turn_passed _ _ word words _ (at_plain name known waiting h word free tracks.skips plain) none in
            let held = tracks.holds step.0 in
            found_name given word words plain (rest w.positional (named (rules known) word h) (names ++ word ∷ []) given tt
            (record { skips = tracks.skips; holds = λ _. (Holds-named known h names given word held.0, held.1) }) step.1)
        go (seen.long option None among spells no_dashes is_long found) =
            let step = turn_passed _ _ word words _ (at_opened name known waiting h word option tracks.skips no_dashes is_long found) none in
            let held = tracks.holds (first_none _ [] step.0) in
            subst (λ word. Found given (word ∷ words)) (sym spells)
            (waited (settled (rules known) h).rows option names given among (record { settles = refl; stands = held.0.stands; skips = refl }) held.1 step.1)
        go (seen.long option (Some value) among spells no_dashes is_long found) =
            let step = turn_passed _ _ word words _ (at_joined name known waiting h word option value no_dashes is_long found) none in
            let react = first_none (react_fault (rules known) false (option_rule known option) (value ∷ []) h) [] step.0 in
            let held = tracks.holds (first_none _ _ react) in
            let apart = (fits option among).apart in
            let new = reacted_new known h names given option value apart held.0.stands react in
            subst (λ word. Found given (word ∷ words)) (sym spells)
            (found_one given option value words among
            (rest w.idle (reacted (rules known) (option_rule known option) (value ∷ []) h) names (given ++ (option, value) ∷ []) tt (record {
              skips = tracks.skips;
              holds = λ _. ((Holds-reacted known h names given option value apart held.0 new).1, AreOnce-push known given option value held.1 new);
            }) step.1))

    -- any word where an option waits
    open_step : (word : Text) (words : List Text) → FreeSound words → OpenSound (word ∷ words)
    open_step word words rest rows option names given among held once none = go (look name known word)
      where
        apart : bytes_eq (codes "names") option ≡ false
        apart = (fits option among).apart

        waits : settle_fault (rules known) false (opened rows option) ≡ [] → ⊥
        waits = opened_fault known rows names given option word apart among

        go : Look name known word → Found given ((codes "--" ++ option) ∷ word ∷ words)
        go (seen.refused fails) = absurd (fails (w.option option) (opened rows option) refl (turn_passed _ _ word words _ refl none).0)
        go (seen.dashes is) = absurd (waits (last_settles words (w.option option) (opened rows option)
            (turn_passed _ _ word words _ (ap (turn name known (at (w.option option) false (opened rows option))) is
            ∙ at_dashes name known (w.option option) (opened rows option)) none).1))
        go (seen.long other None there spells no_dashes is_long found) = absurd (waits (first_none _ [] (turn_passed _ _ word words _
            (at_opened name known (w.option option) (opened rows option) word other refl no_dashes is_long found) none).0))
        go (seen.long other (Some value) there spells no_dashes is_long found) = absurd (waits (first_none _ _ (first_none _ [] (turn_passed _ _ word words _
            (at_joined name known (w.option option) (opened rows option) word other value no_dashes is_long found) none).0)))
        go (seen.plain plain) =
            let step = turn_passed _ _ word words _ (at_value name known option rows word apart among plain) none in
            let new = filled_new known rows names given option word apart among held.stands in
            found_two given option word words among (rest w.idle (filled rows option word) names (given ++ (option, word) ∷ []) tt (record {
              skips = refl;
              holds = λ e. (
                Holds-filled known rows names given option word apart among held.stands (new e),
                AreOnce-push known given option word once (new e),
              );
            }) step.1) plain

    -- both, from the last word on
    both_sound : (words : List Text) → FreeSound words × OpenSound words
    both_sound [] = (
      λ waiting h names given free tracks none. record {
        names = [];
        given = [];
        reads = record {
          mixed = mixed.nothing;
          plain = tt;
          of_command = All-nil (λ (o : Text × Text). Contains known.names o.0);
          once = found_none given (tracks.holds none.settles).1;
        };
      },
      λ rows option names given among held once none. absurd
          (opened_fault known rows names given option [] (fits option among).apart among none.settles),
    )
    both_sound (word ∷ words) =
        let rest = both_sound words in
        (free_step word words rest.0 rest.1, open_step word words rest.0)

    -- words that pass the walk from its start
    pub words_found : (words : List Text) → walk_fault (shape name known) [] (at w.idle false w.nothing_held) words ≡ []
        → settle_fault (rules known) false (end_of (at w.idle false w.nothing_held) words) ≡ [] → Found [] words
    words_found words walks settles = (both_sound words).0 w.idle w.nothing_held [] [] tt (record {
      skips = refl;
      holds = λ none. (record { settles = none; stands = no_rows; skips = refl }, λ option _. omega arith);
    }) (record { walks = walks; settles = settles })
