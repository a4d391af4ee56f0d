-- The faults and the matches of `clap`, against the reading of the words after the command.
use Rattle.std.proofs.Common.{◌≡◌, ◌∙◌, ◌||◌, ◌&&◌, Bool, true, false, not, List, [], ◌∷◌, map, codes, refl, sym, ap, subst, fold}
use Rattle.std.specs.Prelude.{Contains, if◌then◌else◌}
use Rattle.std.specs.List.{list_any}
use Rattle.clap.specs.Kinds.{Kinds, check_kinds, or_else}
use Rattle.clap.specs.Walk.{Held, Row, Rule, Text, finished, has_row, settled, walked, with_default}
use Rattle.clap.specs.Walk as w
use Rattle.clap.specs.Takes.{is_given}
use Rattle.clap.specs.Simple.{App, matches_of, rows_at}
use Rattle.clap.specs.Faults.{built_fault, check_fault, defaults_fault, fault_of, settle_fault, walk_fault}
use Rattle.clap.proofs.FaultLemmas.{leaf_fault}
use Rattle.ci_arguments.specs.private.Parses.{Known, app_for}
use Rattle.ci_arguments.proofs.Rows.{AreOf, no_rows}
use Rattle.ci_arguments.proofs.Rules.{built_is, names_rule, option_rule, rules, shape}
use Rattle.ci_arguments.proofs.States.{Holds, IsOption, both_none, first_none, second_none}
use Rattle.ci_arguments.proofs.Steps.{at}
use Rattle.ci_arguments.proofs.Complete.{AreRead, mixed_passes}
use Rattle.ci_arguments.proofs.Sound.{Found, words_found}

-- ---- no argument has a default value, and none is required

-- a row is there, or there is no default
no_default : (b : Bool) (kinds : Kinds) → (if b || true then [] else kinds) ≡ []
no_default true kinds = refl
no_default false kinds = refl

-- the rows stay either way
same_rows : (b : Bool) (rows : List Row) → (if b then rows else rows) ≡ rows
same_rows true rows = refl
same_rows false rows = refl

-- options without defaults have no fault
no_defaults : (known : Known) (rows : List Row) (names : List Text)
    → defaults_fault rows (map (option_rule known) names) ≡ []
unfolding defaults_fault
no_defaults known rows [] = refl
no_defaults known rows (k ∷ ks) = both_none _ _ (no_default (has_row k rows) _) (no_defaults known (with_default rows (option_rule known k)) ks)

-- no argument has a default that could fail
pub defaults_none : (rows : List Row) (known : Known) → defaults_fault rows (rules known) ≡ []
unfolding defaults_fault
defaults_none rows known = both_none _ _ (no_default (has_row (codes "names") rows) _) (no_defaults known (with_default rows names_rule) known.names)

-- options without defaults leave the rows
options_kept : (known : Known) (rows : List Row) (names : List Text)
    → fold with_default rows (map (option_rule known) names) ≡ rows
options_kept known rows [] = refl
options_kept known rows (k ∷ ks) = ap (λ rs. fold with_default rs (map (option_rule known) ks)) (same_rows (has_row k rows) rows)
    ∙ options_kept known rows ks

-- defaults add nothing to the matches
pub finished_is : (known : Known) (h : Held) → finished (rules known) h ≡ (settled (rules known) h).rows
finished_is known h =
    ap (λ rs. fold with_default rs (map (option_rule known) known.names))
    (same_rows (has_row (codes "names") (settled (rules known) h).rows) (settled (rules known) h).rows)
    ∙ options_kept known (settled (rules known) h).rows known.names

-- no option is required
none_required : (known : Known) (rows : List Row) (names : List Text)
    → list_any (λ (a : Rule). a.required && not (is_given a.id rows)) (map (option_rule known) names) ≡ false
none_required known rows [] = refl
none_required known rows (k ∷ ks) = none_required known rows ks

-- no argument is required
checks_none : (name : Text) (known : Known) (rows : List Row) → check_fault (shape name known) rows false ≡ []
checks_none name known rows = ap (check_kinds false false) (none_required known rows known.names)

-- ---- the faults and the matches

module _ (name : Text) (known : Known) (first : Text) (words : List Text) where
  -- what is held after the words
  abbrev pub end : Held
  end = (fold (walked (rules known) []) (at w.idle false w.nothing_held) words).held

  -- the faults of the command are those of the walk and of its end
  pub faults_are : fault_of (app_for name known) (first ∷ words)
      ≡ or_else (walk_fault (shape name known) [] (at w.idle false w.nothing_held) words) (or_else (settle_fault (rules known) false end)
      (or_else (defaults_fault (settled (rules known) end).rows (rules known)) (check_fault (shape name known) (finished (rules known) end) false)))
  faults_are = ap (λ b. built_fault b w.nothing_held words) (built_is name known)
      ∙ leaf_fault (record { top = shape name known; subs = [] }) w.nothing_held words refl

  -- its matches are those held at the end
  pub matches_are : matches_of (app_for name known) (first ∷ words) ≡ (settled (rules known) end).rows
  matches_are = ap (λ (b : App). (rows_at b.top words).1) (built_is name known) ∙ finished_is known end

  -- without a fault in the walk and at its end there is none
  pub no_faults : walk_fault (shape name known) [] (at w.idle false w.nothing_held) words ≡ [] → settle_fault (rules known) false end ≡ []
      → fault_of (app_for name known) (first ∷ words) ≡ []
  no_faults walks settles = faults_are
      ∙ both_none _ _ walks
      (both_none _ _ settles (both_none _ _ (defaults_none (settled (rules known) end).rows known) (checks_none name known (finished (rules known) end))))

-- ---- what is read

-- what the command's matches are, where they have no fault
pub record Meets (name : Text) (known : Known) (words names : List Text) (given : List (Text × Text)) : Type 0 where
  pub faultless : fault_of (app_for name known) words ≡ []
  pub stands : AreOf (matches_of (app_for name known) words) names given

module _ (name : Text) (known : Known) (fits : (k : Text) → Contains known.names k → IsOption k) (first : Text) where
  -- what is read has no fault, and the matches have it
  pub read_meets : (words names : List Text) (given : List (Text × Text)) → AreRead name known [] words names given
      → Meets name known (first ∷ words) names given
  read_meets words names given read =
      let start : Holds known w.nothing_held [] [] = record { settles = refl; stands = no_rows; skips = refl } in
      let passes = mixed_passes name known fits read.mixed read.plain read.of_command w.idle w.nothing_held [] [] tt read.once start in
      record {
        faultless = no_faults name known first words passes.faultless passes.ends.settles;
        stands = subst (λ rs. AreOf rs names given) (sym (matches_are name known first words)) passes.ends.stands;
      }

  -- and what has no fault is read
  pub passed_reads : (words : List Text) → fault_of (app_for name known) (first ∷ words) ≡ [] → Found name known [] words
  passed_reads words none =
      let faults = sym (faults_are name known first words) ∙ none in
      words_found name known fits words (first_none _ _ faults)
      (first_none _ _ (second_none (walk_fault (shape name known) [] (at w.idle false w.nothing_held) words) _ faults))
