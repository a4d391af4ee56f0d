-- Steps of the scan in a text: over blanks, and over a token.
use Rattle.std.proofs.Common.{◌≡◌, ℕ, suc, ◌+◌, ◌-◌, ◌<◌, ◌≤◌, ◌⊎◌, inl, inr, min, false, List, [], ◌∷◌, length, take, drop, get_or, refl}
use Rattle.std.proofs.Common.{sym, ap, ◌∙◌, subst, arith, Option, Some, None}
use Rattle.std.specs.Prelude.{option_map, slice_range}
use Rattle.std.proofs.lemmas.Bool.{cases_Bool}
use Rattle.std.proofs.lemmas.List.{drop_all, drop-drop, get_or-drop, length-drop, length-take-le}
use Rattle.ci_reading.specs.Tokens.{token, stray_byte, text_end, at}
use Rattle.ci_reading.specs.Lexers.{symbols_behind}
use Rattle.ci_reading.proofs.TokenLaws.{found_first}
use Rattle.ci_vread.specs.declared.bytes.ByteClass.{ByteClass}
use Rattle.ci_vread.specs.declared.bytes.ByteClass.TheVariants.{Blank}
use Rattle.ci_vread.specs.declared.tokens.Kind.{Kind}
use Rattle.ci_vread.specs.Lexicon.{Token, never, Spells, unit_format}
use Rattle.ci_vread.specs.private.Scanned.{symbol_by}
use Rattle.ci_vread.specs.private.Scanning.{belongs, run, byte_at, scan, behind_first, unit_lexer, symbols_from, IsSolid, kind_of, kind_and_size, ends}
use Rattle.ci_vread.proofs.FoundTokens.{IsFoundBy, scan_found}
use Rattle.ci_vread.proofs.LongestTokens.{IsFoundBehind, found_behind, is_lexer}
use Rattle.ci_vread.proofs.TokenMeanings.{kind_means, small_or_never, token_goes_on}

same_pair : (p q : Kind × ℕ) → Some p ≡ Some q → p ≡ q
same_pair p q e = cc

-- ---- blanks

-- blanks make no difference
blanks_pass : (text : List ℕ) (n : ℕ) → symbols_behind unit_lexer 0 (n + run Blank text) (drop (run Blank text) text) ≡ symbols_behind unit_lexer 0 n text
unfolding symbols_behind
blanks_pass [] n = let same : n + 0 ≡ n = omega arith in ap (λ k. at k text_end ∷ []) same
blanks_pass (c ∷ text) n = elim (cases_Bool (belongs Blank c)) [
  | inl blank ↦
      let one : 1 + run Blank text ≡ suc (run Blank text) = omega arith in
      let place : n + suc (run Blank text) ≡ n + 1 + run Blank text = omega arith in
      rw (blank, one) (ap (λ k. symbols_behind unit_lexer 0 k (drop (run Blank text) text)) place ∙ blanks_pass text (n + 1))
  | inr solid ↦
      let same : n + 0 ≡ n = omega arith in
      let size : run Blank (c ∷ text) ≡ 0 = rw solid refl in
      (λ i. symbols_behind unit_lexer 0 (n + size i) (drop (size i) (c ∷ text))) ∙ ap (λ k. symbols_behind unit_lexer 0 k (c ∷ text)) same
]

pub blanks_pass_from : (text : List ℕ) (place : ℕ)
    → symbols_from text (place + run Blank (drop place text)) ≡ symbols_from text place
blanks_pass_from text place =
    let size = run Blank (drop place text) in
    ap (λ t. symbols_behind unit_lexer 0 (place + size) t) (sym (drop-drop size place text)) ∙ blanks_pass (drop place text) place

run_stops : (class : ByteClass) (text : List ℕ) → belongs class 0 ≡ false → belongs class (byte_at text (run class text)) ≡ false
run_stops class [] none = none
run_stops class (c ∷ text) none = elim (cases_Bool (belongs class c)) [
  | inl e ↦ let one : 1 + run class text ≡ suc (run class text) = omega arith in rw (e, one) (run_stops class text none)
  | inr e ↦ rw e e
]

pub solid_behind : (text : List ℕ) (place : ℕ) → IsSolid text (place + run Blank (drop place text))
solid_behind text place =
    subst (λ c. belongs Blank c ≡ false) (get_or-drop place text (run Blank (drop place text)) 0)
    (run_stops Blank (drop place text) refl)

-- ---- the end

pub end_from : (text : List ℕ) (place : ℕ) → length text ≤ place → symbols_from text place ≡ at place text_end ∷ []
unfolding symbols_behind
end_from text place past = ap (symbols_behind unit_lexer 0 place) (drop_all place text past)

-- ---- a token

none_first : (n c : ℕ) (more : List ℕ) → belongs Blank c ≡ false → scan (c ∷ more) ≡ None
    → symbols_behind unit_lexer 0 n (c ∷ more) ≡ at n stray_byte ∷ []
unfolding symbols_behind
none_first n c more solid none = rw (solid, none) refl

-- what the scan of a text tells of its symbols, where no blank stands first
abbrev pub GoesOn : List ℕ → ℕ → Option (Token × ℕ) → Type 0
GoesOn text n None = symbols_behind unit_lexer 0 n text ≡ at n stray_byte ∷ []
GoesOn text n (Some (t, size)) =
    (0 < size) × (size ≤ length text)
    × (symbols_behind unit_lexer 0 n text ≡ at n (token t) ∷ symbols_behind unit_lexer 0 (n + size) (drop size text)) × Spells (take size text) t

some_first : (n c : ℕ) (more : List ℕ) (t : Token) (size : ℕ) → belongs Blank c ≡ false → scan (c ∷ more) ≡ Some (t, size)
    → IsFoundBehind c more t size → GoesOn (c ∷ more) n (Some (t, size))
some_first n c more t size solid is f =
    let law = found_first unit_format unit_lexer is_lexer n c more t (size - 1) solid refl (ap behind_first is) in
    let one : suc (size - 1) ≡ size = omega (arith, f.some) in
    let near : size - 1 ≤ length more = omega (arith, f.within) in
    let place : n + length (c ∷ take (size - 1) more) ≡ n + size = omega (arith, length-take-le (size - 1) more near, one) in (
      f.some,
      f.within,
      law ∙ (λ i. at n (token t) ∷ symbols_behind unit_lexer 0 (place i) (drop (one i) (c ∷ more))),
      subst (λ k. Spells (take k (c ∷ more)) t) one f.spells,
    )

scan_goes : (text : List ℕ) (n : ℕ) → 0 < length text → belongs Blank (byte_at text 0) ≡ false → GoesOn text n (scan text)
scan_goes [] n some solid = absurd (omega (arith, some))
scan_goes (c ∷ more) n some solid = by (scan (c ∷ more)) refl (scan_found (c ∷ more))
  where
    by : (o : Option (Token × ℕ)) → scan (c ∷ more) ≡ o → IsFoundBy (c ∷ more) o → GoesOn (c ∷ more) n o
    by None is f = none_first n c more solid is
    by (Some (t, size)) is f = some_first n c more t size solid is (found_behind c more t size f)

-- ---- the code's token

-- the bytes of a token that may stand somewhere are all there
means : (rest : List ℕ) (t : Token) (size least : ℕ) → Spells (take size rest) t → size ≤ length rest → least ≡ min size 255
    → symbol_by (kind_of t) (take least rest) ≡ token t
means rest t size least spells near e = by (small_or_never spells)
  where
    by : (length (take size rest) ≤ 255) ⊎ (t ≡ never) → symbol_by (kind_of t) (take least rest) ≡ token t
    by (inl small) =
        let same : least ≡ size = omega (arith, length-take-le size rest near) in
        ap (λ k. symbol_by (kind_of t) (take k rest)) same ∙ kind_means spells
    by (inr is_never) = subst (λ k. symbol_by (kind_of k) (take least rest) ≡ token k) (sym is_never) refl

-- the bytes of the code's token
abbrev pub text_at : List ℕ → ℕ → ℕ → List ℕ
text_at text place size = slice_range text place (place + min size 255)

-- a token of the code, its whole size, and where it stands
pub record IsToken (text : List ℕ) (place : ℕ) (k : Kind) (size : ℕ) : Type 0 where
  pub some : 0 < size
  pub within : place + size ≤ length text
  pub goes_on : ends k ≡ false
  pub symbols : symbols_from text place ≡ at place (symbol_by k (text_at text place size)) ∷ symbols_from text (place + size)

solid_first : (text : List ℕ) (place : ℕ) → IsSolid text place → belongs Blank (byte_at (drop place text) 0) ≡ false
solid_first text place solid =
    let here : place ≡ place + 0 = omega arith in
    subst (λ c. belongs Blank c ≡ false) (ap (λ k. get_or text k 0) here ∙ sym (get_or-drop place text 0 0)) solid

pub token_is : (text : List ℕ) (place : ℕ) (k : Kind) (size : ℕ) → place < length text → IsSolid text place
    → Some (k, size) ≡ option_map kind_and_size (scan (drop place text)) → IsToken text place k size
token_is text place k size below solid e =
    let rest = drop place text in
    by (scan rest) e (scan_goes rest place (omega (arith, length-drop place text)) (solid_first text place solid))
  where
    by : (o : Option (Token × ℕ)) → Some (k, size) ≡ option_map kind_and_size o → GoesOn (drop place text) place o → IsToken text place k size
    by None e goes = absurd (cc)
    by (Some (t, n)) e goes =
        let pair = same_pair (k, size) (kind_of t, n) e in
        let k_is = ap (λ p. p.0) pair in
        let n_is = ap (λ p. p.1) pair in
        let fits : place + min size 255 - place ≡ min n 255 = omega (arith, n_is) in
        let here : symbol_by k (text_at text place size) ≡ token t =
        ap (λ v. symbol_by v (text_at text place size)) k_is ∙ means (drop place text) t n (place + min size 255 - place) goes.3 goes.1 fits in
        record {
          some = omega (arith, goes.0, n_is);
          within = omega (arith, goes.1, n_is, length-drop place text);
          goes_on = ap ends k_is ∙ token_goes_on t;
          symbols = goes.2
              ∙ ((λ i. at place (sym here i) ∷ symbols_behind unit_lexer 0 (place + sym n_is i) (drop (sym n_is i) (drop place text)))
              ∙ ap (λ later. at place (symbol_by k (text_at text place size)) ∷ symbols_behind unit_lexer 0 (place + size) later)
              (drop-drop size place text));
        }

pub stray_is : (text : List ℕ) (place : ℕ) → place < length text → IsSolid text place
    → None ≡ option_map kind_and_size (scan (drop place text)) → symbols_from text place ≡ at place stray_byte ∷ []
stray_is text place below solid e =
    let rest = drop place text in
    by (scan rest) e (scan_goes rest place (omega (arith, length-drop place text)) (solid_first text place solid))
  where
    by : (o : Option (Token × ℕ)) → ◌≡◌ {A = Option (Kind × ℕ)} None (option_map kind_and_size o) → GoesOn (drop place text) place o
        → symbols_from text place ≡ at place stray_byte ∷ []
    by None e goes = goes
    by (Some (t, n)) e goes = absurd (cc)
