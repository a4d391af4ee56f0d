-- What spells modules goes on to the end and keeps every rule: steps, and simples.
use Rattle.std.proofs.Common.{◌≡◌, ℕ, ◌+◌, ◌-◌, ◌*◌, ◌≤◌, List, [], ◌∷◌, ◌++◌, refl, sym, arith, subst, true, ◌&&◌, nat_le}
use Rattle.std.specs.List.{Contains}
use Rattle.std.proofs.lemmas.Bool.{lt-ltb, le-leb}
use Rattle.ci_verilog.specs.declared.expressions.Simple.{Simple}
use Rattle.ci_verilog.specs.Modules.{vector, IsSimple, whole as of_whole, bits as of_bits, number as of_number}
use Rattle.ci_reading.specs.Tokens.{token, text_end, at}
use Rattle.ci_reading.proofs.BrokenLaws.{kept_append}
use Rattle.ci_vread.specs.Lexicon.{Token}
use Rattle.ci_vread.specs.Grammar.{Symbol, Placed, Role, its_use, Fits, that_token, a_use, input_a, input_b, input_c, an_index, a_low, a_constant}
use Rattle.ci_vread.specs.Grammar.{End, of_simple, Phrase, simple, bits, range, Part, reads, ends, made, parts_of, NeedsNext}
use Rattle.ci_vread.specs.Grammar.{Event, read, ended, whole, Goes, by_parts, by_end, by_token}
use Rattle.ci_vread.specs.Rules.{Seen, bytes_of, behind, rules_of, rules_from}
use Rattle.ci_vread.specs.Spelling.{SpellsSimple, whole_name, one_bit, some_bits, some_constant}
use Rattle.ci_vread.proofs.NameLaws.{known_if, IsTable}
use Rattle.ci_vread.proofs.ReadSteps.{IsKept, AreKept, Begins, none, more}
use Rattle.ci_vread.proofs.ReadSimples.{behind_simple}

-- behind a token at `last`
pub record GoesWell (last : ℕ) (seen : Seen) (due : List Part) (symbols : List Placed) : Type 0 where
  pub events : List Event
  pub goes : Goes last due symbols events whole
  pub kept : AreKept (rules_from seen events)

-- and behind any token
abbrev pub Good : Seen → List Part → List Placed → Type 0
Good seen due symbols = (last : ℕ) → GoesWell last seen due symbols

module _ {seen : Seen} {due : List Part} where
  pub good_token :
      {symbols : List Placed} {place : ℕ} {role : Role} {t : Token} → Fits role t → AreKept (rules_of seen (read role t place))
      → Good (behind seen (read role t place)) due symbols → Good seen (reads role ∷ due) (at place (token t) ∷ symbols)
  good_token {place = p} {role = r} {t = t} fit h g last =
      let o = g p in
      record { events = read r t p ∷ o.events; goes = by_token fit o.goes; kept = kept_append IsKept (rules_of seen (read r t p)) _ h o.kept }

  pub good_end :
      {symbols : List Placed} (what : End) → ((last : ℕ) → AreKept (rules_of seen (ended what last)))
      → ((last : ℕ) → GoesWell last (behind seen (ended what last)) due symbols) → Good seen (ends what ∷ due) symbols
  good_end what h g last =
      let o = g last in
      record { events = ended what last ∷ o.events; goes = by_end o.goes; kept = kept_append IsKept (rules_of seen (ended what last)) _ (h last) o.kept }

  pub good_phrase :
      {symbols : List Placed} {place : ℕ} {x : Symbol} (p : Phrase) → (x ≡ text_end → ¬ NeedsNext p)
      → Good seen (parts_of p x ++ due) (at place x ∷ symbols) → Good seen (made p ∷ due) (at place x ∷ symbols)
  good_phrase p h g last = let o = g last in record { events = o.events; goes = by_parts h o.goes; kept = o.kept }

  -- before a token
  pub good_made : {symbols : List Placed} {place : ℕ} {t : Token} (p : Phrase) → Good seen (parts_of p (token t) ++ due) (at place (token t) ∷ symbols)
      → Good seen (made p ∷ due) (at place (token t) ∷ symbols)
  good_made p g = good_phrase p (λ e. absurd (cc)) g

-- the token goes on with no name, so that it shows the end of one
abbrev pub Shows : Token → Type 0
Shows t = parts_of bits (token t) ≡ []

module _ (seen : Seen) (due : List Part) (table : IsTable seen.known) where
  -- a simple begins with the token of its name
  begins_with_use :
      {t : Token} {place : ℕ} {symbols : List Placed} → Fits its_use t → Good seen (reads its_use ∷ made bits ∷ ends of_simple ∷ due)
      (at place (token t) ∷ symbols)
      → Good seen (made simple ∷ due) (at place (token t) ∷ symbols)
  begins_with_use (a_use bytes) g = good_made simple g
  begins_with_use input_a g = good_made simple g
  begins_with_use input_b g = good_made simple g
  begins_with_use input_c g = good_made simple g

  used_well :
      {t : Token} {w place : ℕ} {symbols : List Placed} → Fits its_use t → Contains seen.known (vector (bytes_of t) w)
      → Good (record seen { width = w }) (made bits ∷ ends of_simple ∷ due) symbols → Good seen (made simple ∷ due) (at place (token t) ∷ symbols)
  used_well {t} {w} {place} {symbols} fit c g =
      begins_with_use fit (good_token fit (known_if seen.known (bytes_of t) w c, tt)
      (subst (λ v. Good (record seen { width = v }) (made bits ∷ ends of_simple ∷ due) symbols) (sym (table (bytes_of t) w c).once) g))

  simple_ended : {w v : ℕ} {symbols : List Placed} → seen.sum + seen.times * w ≤ 64 → Good (behind_simple seen w) due symbols
      → Good (record seen { width = w; index = v }) (ends of_simple ∷ due) symbols
  simple_ended small g = good_end of_simple (λ last. (le-leb _ _ small, tt)) g

  pub simple_goes_well :
      {symbols rest : List Placed} {tokens : List Token} {value : Simple} {width place : ℕ} {t : Token}
      → SpellsSimple tokens value → IsSimple seen.known value width → Begins symbols tokens (at place (token t) ∷ rest) → Shows t
      → seen.sum + seen.times * width ≤ 64 → Good (behind_simple seen width) due (at place (token t) ∷ rest) → Good seen (made simple ∷ due) symbols
  simple_goes_well {rest = rest} {width = w} {place = p} {t = t} (whole_name fit) (of_whole c) (more none) shows small g =
      let alone = subst (λ ps. Good (record seen { width = w }) (ps ++ (ends of_simple ∷ due)) (at p (token t) ∷ rest)) (sym shows) (simple_ended small g) in
      used_well fit c (good_made bits alone)
  simple_goes_well {rest = rest} {place = p} {t = t} (one_bit {n = n} fit) (of_bits c in_width ordered) (more (more (more (more none)))) shows small g =
      let one_wide : n + 1 - n ≡ 1 = omega arith in
      let fits = subst (λ v. seen.sum + seen.times * v ≤ 64) one_wide small in
      let good = subst (λ v. Good (behind_simple seen v) due (at p (token t) ∷ rest)) one_wide g in
      used_well fit c (good_made bits (good_token (that_token _) tt (good_token (an_index n) (lt-ltb _ _ in_width, tt)
      (good_made range (good_token (that_token _) tt (simple_ended fits good))))))
  simple_goes_well (some_bits {high = n} {low = l} fit) (of_bits c in_width ordered) (more (more (more (more (more (more none)))))) shows small g =
      used_well fit c (good_made bits (good_token (that_token _) tt (good_token (an_index n) (lt-ltb _ _ in_width, tt)
      (good_made range (good_token (that_token _) tt (good_token (a_low l) (le-leb _ _ ordered, tt) (good_token (that_token _) tt (simple_ended small g))))))))
  simple_goes_well {width = w} some_constant (of_number least most room) (more none) shows small g =
      let bounds : (nat_le 1 w && nat_le w 64) ≡ true = rw (le-leb _ _ least, le-leb _ _ most) refl in
      good_made simple (good_token (a_constant _ _) (lt-ltb _ _ room, (bounds, tt)) (simple_ended small g))
