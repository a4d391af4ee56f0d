-- What `clap`'s walk does at one word, between a first word and the last.
use Rattle.std.proofs.Common.{◌≡◌, ◌≢◌, ◌∙◌, ◌<◌, ◌⊎◌, ◌&&◌, ℕ, Bool, true, false, List, [], ◌∷◌, length, codes, Option}
use Rattle.std.proofs.Common.{Some, None, refl, sym, ap, ap₂, arith, inl, inr, zero, suc}
use Rattle.std.specs.Prelude.{Contains, ⊤, slice_get, if◌then◌else◌, drop, encode_utf8, nat_lt}
use Rattle.std.specs.Option.{option_map_or}
use Rattle.std.specs.Str.{bytes_eq, chars}
use Rattle.clap.specs.Lexer.{long_of, short_of}
use Rattle.clap.specs.Kinds.{Kinds, or_else}
use Rattle.clap.specs.Walk.{Held, Row, Rule, option_word, Step, Text, Waiting, Walk, after_flag, after_step}
use Rattle.clap.specs.Walk.{arg_by_long, long_met, long_or_other, plain_word, pushed}
use Rattle.clap.specs.Walk.{reacted, settled, short_or_plain, walked, word_met, is_pending, positional_held}
use Rattle.clap.specs.Walk as w
use Rattle.clap.specs.Faults.{bundle_fault, short_fault, bundle_step_fault, flag_word_fault, flags_fault, long_fault}
use Rattle.clap.specs.Faults.{positional_fault, settle_fault, step_fault, turn_fault, word_fault, react_fault}
use Rattle.clap.specs.declared.error.kind.ErrorKind.TheVariants as kind
use Rattle.clap.proofs.FaultLemmas.{fault_ends}
use Rattle.clap.proofs.WalkLemmas.{bundle_ends}
use Rattle.ci_arguments.specs.private.Parses.{Known}
use Rattle.ci_arguments.proofs.Rules.{id_known, names_rule, no_short, same_text, option_rule, rules, shape}

-- between two words
abbrev pub at : Waiting → Bool → Held → Walk
at waiting is_trailing h = record { held = h; waiting = waiting; position = 1; is_trailing = is_trailing; stopped = None }

-- the word waits to be used as a name, and what waited before is used
abbrev pub named : List Rule → Text → Held → Held
named c word h = record { rows = (settled c h).rows; pending = Some (codes "names", word ∷ []); skip = h.skip }

-- an option that waits for its value
abbrev pub opened : List Row → Text → Held
opened rows option = record { rows = rows; pending = Some (option, []); skip = 0 }

-- an option with its value that is not used yet
abbrev pub filled : List Row → Text → Text → Held
filled rows option value = record { rows = rows; pending = Some (option, value ∷ []); skip = 0 }

module _ (name : Text) (known : Known) where
  -- the faults of a word by itself, and what it comes to
  abbrev pub faced : Waiting → Bool → Held → Text → Kinds × (Held × Step)
  faced waiting is_trailing h word = (
    word_fault (shape name known) [] is_trailing waiting word h,
    word_met (rules known) [] is_trailing waiting 1 word h,
  )

  -- its faults where it stands, and the walk after it
  abbrev pub turn : Walk → Text → Kinds × Walk
  turn v word = (turn_fault (shape name known) [] v word, walked (rules known) [] v word)

  -- the latter by the former
  abbrev turn_of : Waiting → Bool → Held → Text → Kinds × (Held × Step) → Kinds × Walk
  turn_of waiting is_trailing h word f =
      (or_else f.0 (step_fault (shape name known) 1 f.1.0 f.1.1), after_step (rules known) word (at waiting is_trailing h) f.1.0 f.1.1)

  turn_by : (waiting : Waiting) (is_trailing : Bool) (h : Held) (word : Text) (f : Kinds × (Held × Step))
      → faced waiting is_trailing h word ≡ f → turn (at waiting is_trailing h) word ≡ turn_of waiting is_trailing h word f
  unfolding walked
  turn_by waiting is_trailing h word f is = ap (turn_of waiting is_trailing h word) is

  -- a word before `--`, by whether it is `--`, and by its option
  abbrev faced_by : Waiting → Held → Text → Bool → Option (Text × Option Text) → Kinds × (Held × Step)
  faced_by waiting h word dashed long = (
    if dashed then [] else flag_word_fault (rules known) false long word h,
    if dashed then (h, w.trailing 1) else long_or_other (rules known) waiting word long h,
  )

  faced_is : (waiting : Waiting) (h : Held) (word : Text)
      → faced waiting false h word ≡ faced_by waiting h word (bytes_eq word (codes "--")) (long_of word)
  faced_is w.idle h word = refl
  faced_is waiting h word = refl

  -- what waits before a name is used at the name, which waits to be used
  abbrev pub as_name : Bool → Held → Text → Kinds × Walk
  as_name is_trailing h word = (settle_fault (rules known) false h, at w.positional is_trailing (named (rules known) word h))

  name_is : (is_trailing : Bool) (h : Held) (word : Text) → as_name is_trailing h word
      ≡ (positional_fault (rules known) false names_rule h, at w.positional is_trailing (positional_held (rules known) names_rule word h))
  name_is is_trailing h word = go (is_pending names_rule h.pending)
    where
      go : (b : Bool) → as_name is_trailing h word ≡ (
        if b && false then [] else settle_fault (rules known) false h,
        at w.positional is_trailing (pushed (codes "names") word (if b && false then h else settled (rules known) h)),
      )
      go true = refl
      go false = refl

  -- `--` has no fault, and only names follow
  pub at_dashes : (waiting : Waiting) (h : Held) → turn (at waiting false h) (codes "--") ≡ ([], at waiting true h)
  at_dashes waiting h = turn_by waiting false h (codes "--") ([], (h, w.trailing 1)) (faced_is waiting h (codes "--"))

  -- a word after `--` is a name
  pub at_last : (waiting : Waiting) (h : Held) (word : Text) → turn (at waiting true h) word ≡ as_name true h word
  at_last waiting h word = turn_by waiting true h word ([], (h, w.value)) refl ∙ sym (name_is true h word)

  -- a word that is refused is a fault
  pub at_refused : (waiting : Waiting) (h : Held) (word : Text) → (faced waiting false h word).0 ≡ kind.UnknownArgument ∷ []
      → turn_fault (shape name known) [] (at waiting false h) word ≢ []
  at_refused waiting h word refused none =
      let shown : turn_fault (shape name known) [] (at waiting false h) word ≡ kind.UnknownArgument ∷ [] =
      ap (λ f. f.0) (turn_by waiting false h word (_, (faced waiting false h word).1) (ap (λ k. (k, (faced waiting false h word).1)) refused)) in
      let bad : kind.UnknownArgument ∷ [] ≡ [] = sym shown ∙ none in
      cc

  -- ---- `--NAME` and `--NAME=VALUE`

  module _
      (waiting : Waiting) (h : Held) (word option : Text) (v : Option Text) (no_dashes : bytes_eq word (codes "--") ≡ false)
      (is_long : long_of word ≡ Some (option, v)) where
    long_faced : (a : Option Rule) → arg_by_long (rules known) option ≡ a → faced waiting false h word
        ≡ (long_fault (rules known) false a v h, after_flag (rules known) waiting word (long_met (rules known) a v h).0 (long_met (rules known) a v h).1)
    long_faced a found = faced_is waiting h word ∙ (ap₂ (faced_by waiting h word) no_dashes is_long
        ∙ ap (λ o. (long_fault (rules known) false o v h, after_flag (rules known) waiting word (long_met (rules known) o v h).0 (long_met (rules known) o v h).1))
        found)

    -- an option that the command does not have
    pub at_unknown : arg_by_long (rules known) option ≡ None → turn_fault (shape name known) [] (at waiting false h) word ≢ []
    at_unknown unknown = at_refused waiting h word (ap (λ f. f.0) (long_faced None unknown))

  -- an option with its value in the word is used at once
  pub at_joined : (waiting : Waiting) (h : Held) (word option value : Text) → bytes_eq word (codes "--") ≡ false
      → long_of word ≡ Some (option, Some value) → arg_by_long (rules known) option ≡ Some (option_rule known option)
      → turn (at waiting false h) word ≡ (
        or_else (react_fault (rules known) false (option_rule known option) (value ∷ []) h) [],
        at w.idle false (reacted (rules known) (option_rule known option) (value ∷ []) h),
      )
  at_joined waiting h word option value no_dashes is_long found =
      turn_by waiting false h word _ (long_faced waiting h word option (Some value) no_dashes is_long _ found)

  -- one whose value is the next word waits
  pub at_opened : (waiting : Waiting) (h : Held) (word option : Text) → h.skip ≡ 0 → bytes_eq word (codes "--") ≡ false
      → long_of word ≡ Some (option, None) → arg_by_long (rules known) option ≡ Some (option_rule known option)
      → turn (at waiting false h) word
      ≡ (or_else (settle_fault (rules known) false h) [], at (w.option option) false (opened (settled (rules known) h).rows option))
  at_opened waiting h word option skip no_dashes is_long found =
      turn_by waiting false h word _ (long_faced waiting h word option None no_dashes is_long _ found)
      ∙ ap (λ k. (
        or_else (settle_fault (rules known) false h) [],
        at (w.option option) false (record (opened (settled (rules known) h).rows option) { skip = k }),
      )) skip

  -- ---- a word that is no flag

  -- the word goes where a plain word goes
  abbrev pub IsPlain : Text → Type 0
  IsPlain word = (waiting : Waiting) (h : Held) → h.skip ≡ 0
      → faced waiting false h word ≡ ([], plain_word (rules known) waiting word h)

  module _ (word : Text) (no_dashes : bytes_eq word (codes "--") ≡ false) (no_long : long_of word ≡ None) where
    -- a word that may begin with one hyphen
    short_faced : (waiting : Waiting) (h : Held) (flags : Option Text) → short_of word ≡ flags → faced waiting false h word
        ≡ (option_map_or (λ f. bundle_fault (rules known) false f h) flags [], short_or_plain (rules known) waiting word flags h)
    short_faced waiting h flags is_short = faced_is waiting h word ∙ (ap₂ (faced_by waiting h word) no_dashes no_long
        ∙ ap (λ s. (option_map_or (λ f. bundle_fault (rules known) false f h) s [], short_or_plain (rules known) waiting word s h)) is_short)

    -- a word that does not begin with a hyphen
    pub other_plain : short_of word ≡ None → IsPlain word
    other_plain none waiting h skip = short_faced waiting h None none

    -- no character is a flag
    flag_refused : (k : ℕ) (flags : Text) (x : ℕ) (h : Held) → 0 < k → slice_get (chars flags) 0 ≡ Some x
        → flags_fault (rules known) false k flags 0 h ≡ kind.UnknownArgument ∷ []
    unfolding flags_fault
    flag_refused zero flags x h lt first = absurd (omega arith)
    flag_refused (suc k) flags x h lt first = ap (λ o. bundle_step_fault (rules known) false o flags 0 h (flags_fault (rules known) false k)) first
        ∙ ap (λ o. short_fault (rules known) false o (drop (length (encode_utf8 x)) flags) h
        (flags_fault (rules known) false k (drop (length (encode_utf8 x)) flags) 0)) (no_short known x)

    -- a hyphen and more is refused, or goes where a plain word goes
    pub short_cases : (y : ℕ) (ys : Text) → short_of word ≡ Some (y ∷ ys)
        → ((waiting : Waiting) (h : Held) → h.skip ≡ 0 → (faced waiting false h word).0 ≡ kind.UnknownArgument ∷ []) ⊎ IsPlain word
    short_cases y ys is_short = go (slice_get (chars (y ∷ ys)) 0) refl
      where
        start : Held → Held
        start h = record h { skip = 0 }

        faults : (waiting : Waiting) (h : Held) → h.skip ≡ 0
            → (faced waiting false h word).0 ≡ flags_fault (rules known) false (length (y ∷ ys)) (y ∷ ys) 0 (start h)
        faults waiting h skip = ap (λ f. f.0) (short_faced waiting h (Some (y ∷ ys)) is_short)
            ∙ ap (λ n. flags_fault (rules known) false (length (y ∷ ys)) (y ∷ ys) n (start h)) skip

        met : (waiting : Waiting) (h : Held) → h.skip ≡ 0 → slice_get (chars (y ∷ ys)) 0 ≡ None
            → (faced waiting false h word).1 ≡ plain_word (rules known) waiting word h
        met waiting h skip none = ap (λ f. f.1) (short_faced waiting h (Some (y ∷ ys)) is_short)
            ∙ (ap (λ p. after_flag (rules known) waiting word p.0 p.1)
            (sym (bundle_ends (rules known) (length (y ∷ ys)) (y ∷ ys) h.skip w.plain (start h) (sym none)))
            ∙ ap (λ n. plain_word (rules known) waiting word (record h { skip = n })) (sym skip))

        go : (o : Option ℕ) → slice_get (chars (y ∷ ys)) 0 ≡ o
            → ((waiting : Waiting) (h : Held) → h.skip ≡ 0 → (faced waiting false h word).0 ≡ kind.UnknownArgument ∷ []) ⊎ IsPlain word
        go None first = inr (λ waiting h skip. ap₂ (λ faults met. (faults, met))
            (faults waiting h skip ∙ sym (fault_ends (rules known) false (length (y ∷ ys)) (y ∷ ys) 0 (start h) (sym first)))
            (met waiting h skip first))
        go (Some x) first = inl (λ waiting h skip. faults waiting h skip
            ∙ flag_refused (length (y ∷ ys)) (y ∷ ys) x (start h) (omega arith) first)

  -- where no option waits
  abbrev pub IsFree : Waiting → Type 0
  IsFree (w.option id) = ⊥
  IsFree waiting = ⊤

  -- the word is a name
  pub at_plain : (waiting : Waiting) (h : Held) (word : Text) → IsFree waiting → h.skip ≡ 0 → IsPlain word
      → turn (at waiting false h) word ≡ as_name false h word
  at_plain (w.option id) h word free skip plain = absurd free
  at_plain waiting h word free skip plain =
      turn_by waiting false h word ([], (h, w.value)) (plain waiting h skip) ∙ sym (name_is false h word)

  -- where an option waits, the word is its value, which waits to be used
  pub at_value : (option : Text) (rows : List Row) (word : Text) → bytes_eq (codes "names") option ≡ false → Contains known.names option
      → IsPlain word → turn (at (w.option option) false (opened rows option)) word ≡ ([], at w.idle false (filled rows option word))
  at_value option rows word apart among plain =
      turn_by (w.option option) false (opened rows option) word _ (plain (w.option option) (opened rows option) refl)
      ∙ (ap (λ a. ([], at (option_word a option word (opened rows option)).1 false (option_word a option word (opened rows option)).0))
      (id_known known option apart among)
      ∙ ap (λ b. ([], at (if nat_lt (if b then 1 else 0) 1 then w.option option else w.idle) false (filled rows option word))) (same_text option))
