-- What a word looks like to `clap`.
use Rattle.std.proofs.Common.{◌≡◌, ◌≢◌, ◌∙◌, ◌⊎◌, ◌==◌, ℕ, true, false, [], ◌∷◌, ◌++◌, codes, Option, Some, None, refl}
use Rattle.std.proofs.Common.{sym, ap, subst, arith, inl, inr, zero, suc}
use Rattle.std.specs.Prelude.{Contains}
use Rattle.std.specs.Str.{bytes_eq}
use Rattle.std.proofs.lemmas.Bool.Decides.{eqb_tells}
use Rattle.clap.specs.Faults.{turn_fault}
use Rattle.clap.specs.Lexer.{long_of, name_and_value, short_of}
use Rattle.clap.specs.Walk.{Held, Text, Waiting, arg_by_long}
use Rattle.clap.proofs.CutLemmas.{Lacks}
use Rattle.clap.proofs.LexerLemmas.{name_and_value-at, name_and_value-without}
use Rattle.ci_arguments.specs.private.Parses.{Known}
use Rattle.ci_arguments.proofs.Rules.{long_cases, option_rule, rules, shape}
use Rattle.ci_arguments.proofs.Steps.{IsPlain, at, at_refused, at_unknown, other_plain, short_cases}

-- the word is `--NAME` or `--NAME=VALUE`
abbrev pub Spells : Text → Option Text → Text → Type 0
Spells name None word = word ≡ codes "--" ++ name
Spells name (Some value) word = word ≡ codes "--" ++ (name ++ (codes "=" ++ value))

-- a text has no `=` (61), or is cut at the first
cut : (text : Text) → Lacks 61 text ⊎ ((name : Text) × (value : Text) × Lacks 61 name × (text ≡ name ++ 61 ∷ value))
cut [] = inl (λ i lt. absurd (omega arith))
cut (x ∷ xs) = go (eqb_tells x 61) (cut xs)
  where
    more : (ys : Text) → x ≢ 61 → Lacks 61 ys → Lacks 61 (x ∷ ys)
    more ys ne rest zero lt = ne
    more ys ne rest (suc i) lt = rest i (omega arith)

    go : ((x == 61) ≡ true) × (x ≡ 61) ⊎ (((x == 61) ≡ false) × (x ≢ 61)) → Lacks 61 xs
        ⊎ ((name : Text) × (value : Text) × Lacks 61 name × (xs ≡ name ++ 61 ∷ value))
        → Lacks 61 (x ∷ xs) ⊎ ((name : Text) × (value : Text) × Lacks 61 name × (x ∷ xs ≡ name ++ 61 ∷ value))
    go (inl is) rest = inr ([], xs, (λ i lt. absurd (omega arith)), ap (λ y. y ∷ xs) is.1)
    go (inr not) (inl none) = inl (more xs not.1 none)
    go (inr not) (inr at) = inr (x ∷ at.0, at.1, more at.0 not.1 at.2, ap (λ rest. x ∷ rest) at.3)

module _ (name : Text) (known : Known) where
  -- the word is `--`, an option of the command with its value or without, refused, or a plain word
  pub data Look (word : Text) : Type 0 where
    dashes : word ≡ codes "--" → Look word
    long : (option : Text) (v : Option Text) → Contains known.names option → Spells option v word
        → bytes_eq word (codes "--") ≡ false → long_of word ≡ Some (option, v)
        → arg_by_long (rules known) option ≡ Some (option_rule known option) → Look word
    refused : ((waiting : Waiting) (h : Held) → h.skip ≡ 0 → turn_fault (shape name known) [] (at waiting false h) word ≢ []) → Look word
    plain : IsPlain name known word → Look word

  -- what does not begin with a hyphen is plain
  pub plain_word : (x : ℕ) (xs : Text) → x ≢ 45 → IsPlain name known (x ∷ xs)
  plain_word x xs no_hyphen = elim (eqb_tells x 45) [
    | inl is ↦ absurd (no_hyphen is.1)
    | inr not ↦ other_plain name known (x ∷ xs) (rw not.0 refl) (rw not.0 refl) (rw not.0 refl)
  ]

  -- an option is one of the command or is refused
  long_look : (word option : Text) (v : Option Text) → Spells option v word → bytes_eq word (codes "--") ≡ false
      → long_of word ≡ Some (option, v) → Look word
  long_look word option v spells no_dashes is_long = elim (long_cases known option) [
    | inl unknown ↦ refused (λ waiting h skip. at_unknown name known waiting h word option v no_dashes is_long unknown)
    | inr found ↦ long option v found.0 spells no_dashes is_long found.1
  ]

  -- `--` and more
  cut_look : (z : ℕ) (zs : Text) → Look (45 ∷ 45 ∷ z ∷ zs)
  cut_look z zs = elim (cut (z ∷ zs)) [
    | inl none ↦ long_look (45 ∷ 45 ∷ z ∷ zs) (z ∷ zs) None refl refl (ap (λ p. Some p) (name_and_value-without (z ∷ zs) none))
    | inr at ↦ long_look (45 ∷ 45 ∷ z ∷ zs) at.0 (Some at.1) (ap (λ t. 45 ∷ 45 ∷ t) at.3) refl
        (ap (λ p. Some p) (ap name_and_value at.3 ∙ name_and_value-at at.0 at.1 at.2))
  ]

  -- a hyphen and more
  short_look : (word : Text) (y : ℕ) (ys : Text) → bytes_eq word (codes "--") ≡ false → long_of word ≡ None
      → short_of word ≡ Some (y ∷ ys) → Look word
  short_look word y ys no_dashes no_long is_short = elim (short_cases name known word no_dashes no_long y ys is_short) [
    | inl unknown ↦ refused (λ waiting h skip. at_refused name known waiting h word (unknown waiting h skip))
    | inr is ↦ plain is
  ]

  -- each word is one of these
  pub look : (word : Text) → Look word
  look [] = plain (other_plain name known [] refl refl refl)
  look (x ∷ xs) = first (eqb_tells x 45)
    where
      second : (y : ℕ) (ys : Text) → ((y == 45) ≡ true) × (y ≡ 45) ⊎ (((y == 45) ≡ false) × (y ≢ 45)) → Look (45 ∷ y ∷ ys)
      second y ys (inr not) = short_look (45 ∷ y ∷ ys) y ys (rw not.0 refl) (rw not.0 refl) (rw not.0 refl)
      second y [] (inl is) = subst (λ b. Look (45 ∷ b ∷ [])) (sym is.1) (dashes refl)
      second y (z ∷ zs) (inl is) = subst (λ b. Look (45 ∷ b ∷ z ∷ zs)) (sym is.1) (cut_look z zs)

      hyphen : (ys : Text) → Look (45 ∷ ys)
      hyphen [] = plain (other_plain name known (45 ∷ []) refl refl refl)
      hyphen (y ∷ ys) = second y ys (eqb_tells y 45)

      first : ((x == 45) ≡ true) × (x ≡ 45) ⊎ (((x == 45) ≡ false) × (x ≢ 45)) → Look (x ∷ xs)
      first (inl is) = subst (λ b. Look (b ∷ xs)) (sym is.1) (hyphen xs)
      first (inr not) = plain (plain_word x xs not.1)
