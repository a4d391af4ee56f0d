-- Steps of a text that keeps its rules: tokens, the end of a part, a phrase.
use Rattle.std.proofs.Common.{◌≡◌, ℕ, ◌≤◌, ◌<◌, List, [], ◌∷◌, ◌++◌, length, map, true, arith}
use Rattle.std.specs.List.{AllByRecursion}
use Rattle.ci_reading.specs.Tokens.{token, at}
use Rattle.ci_reading.proofs.BrokenLaws.{kept_front, kept_back}
use Rattle.ci_vread.specs.declared.tokens.Sign.{Sign}
use Rattle.ci_vread.specs.Lexicon.{Token, sign}
use Rattle.ci_vread.specs.Grammar.{Symbol, Placed, is, that_token, End, Phrase, Part, reads, ends, made, the, parts_of, Event, ended, whole, Goes, by_parts}
use Rattle.ci_vread.specs.Grammar.{by_end, by_token}
use Rattle.ci_vread.specs.Rules.{Seen, Rule, behind, rules_of, rules_from}

abbrev pub IsKept : Rule → Type 0
IsKept r = r.is_kept ≡ true

abbrev pub AreKept : List Rule → Type 0
AreKept rules = AllByRecursion IsKept rules

-- behind what is seen, with these parts due, the symbols go on to the end and keep every rule
pub record IsGood (seen : Seen) (due : List Part) (symbols : List Placed) : Type 0 where
  pub last : ℕ
  pub events : List Event
  pub goes : Goes last due symbols events whole
  pub kept : AreKept (rules_from seen events)

-- the symbols begin with these tokens, wherever they stand, and the rest stands behind them
pub data Begins : List Placed → List Token → List Placed → Type 0 where
  none : {rest : List Placed} → Begins rest [] rest
  more : {place : ℕ} {t : Token} {symbols rest : List Placed} {tokens : List Token} → Begins symbols tokens rest
      → Begins (at place (token t) ∷ symbols) (t ∷ tokens) rest

pub joined : {one two three : List Placed} {ts us : List Token} → Begins one ts two → Begins two us three → Begins one (ts ++ us) three
joined none b = b
joined (more a) b = more (joined a b)

pub no_longer : {symbols rest : List Placed} {tokens : List Token} → Begins symbols tokens rest → length rest ≤ length symbols
no_longer none = omega arith
no_longer (more b) = let h = no_longer b in omega (arith, h)

pub shorter : {symbols rest : List Placed} {t : Token} {tokens : List Token} → Begins symbols (t ∷ tokens) rest → length rest < length symbols
shorter (more b) = let h = no_longer b in omega (arith, h)

-- ---- steps

-- these tokens, whatever names, widths and bounds are seen
pub record AreThere (tokens : List Token) (seen : Seen) (due : List Part) (symbols : List Placed) : Type 0 where
  pub rest : List Placed
  pub begins : Begins symbols tokens rest
  pub good : IsGood seen due rest

pub tokens_read : (tokens : List Token) (seen : Seen) (due : List Part) (symbols : List Placed)
    → IsGood seen (map (λ t. reads (is t)) tokens ++ due) symbols → AreThere tokens seen due symbols
tokens_read [] seen due symbols g = record { rest = symbols; begins = none; good = g }
tokens_read (t ∷ tokens) seen due symbols g = by symbols g.events g.goes g.kept (tokens_read tokens seen due)
  where
    by : (symbols : List Placed) (events : List Event) → Goes g.last (reads (is t) ∷ map (λ t. reads (is t)) tokens ++ due) symbols events whole
        → AreKept (rules_from seen events)
        → ((symbols : List Placed) → IsGood seen (map (λ t. reads (is t)) tokens ++ due) symbols → AreThere tokens seen due symbols)
        → AreThere (t ∷ tokens) seen due symbols
    by _ _ (by_token {place = p} (that_token _) goes) kept again =
        let o = again _ (record { last = p; events = _; goes = goes; kept = kept }) in
        record { rest = o.rest; begins = more o.begins; good = o.good }

pub sign_read : (s : Sign) (seen : Seen) (due : List Part) (symbols : List Placed) → IsGood seen (the s ∷ due) symbols
    → AreThere (sign s ∷ []) seen due symbols
sign_read s seen due symbols g = tokens_read (sign s ∷ []) seen due symbols g

pub record IsEnded (what : End) (seen : Seen) (due : List Part) (symbols : List Placed) : Type 0 where
  pub place : ℕ
  pub kept : AreKept (rules_of seen (ended what place))
  pub good : IsGood (behind seen (ended what place)) due symbols

pub end_read : (what : End) (seen : Seen) (due : List Part) (symbols : List Placed) → IsGood seen (ends what ∷ due) symbols
    → IsEnded what seen due symbols
end_read what seen due symbols g = by g.events g.goes g.kept
  where
    by : (events : List Event) → Goes g.last (ends what ∷ due) symbols events whole → AreKept (rules_from seen events) → IsEnded what seen due symbols
    by _ (by_end {events = events} goes) kept =
        let rules = rules_of seen (ended what g.last) in
        let others = rules_from (behind seen (ended what g.last)) events in
        record {
          place = g.last;
          kept = kept_front IsKept rules others kept;
          good = record { last = g.last; events = events; goes = goes; kept = kept_back IsKept rules others kept };
        }

-- a phrase is what it consists of before the next symbol
pub phrase_read :
    (p : Phrase) (seen : Seen) (due : List Part) (symbols : List Placed) (Q : List Placed → Type 0) → IsGood seen (made p ∷ due) symbols
    → ((place : ℕ) (x : Symbol) (others : List Placed) → IsGood seen (parts_of p x ++ due) (at place x ∷ others) → Q (at place x ∷ others))
    → Q symbols
phrase_read p seen due symbols Q g step = by symbols g.events g.goes g.kept
  where
    by : (symbols : List Placed) (events : List Event) → Goes g.last (made p ∷ due) symbols events whole → AreKept (rules_from seen events) → Q symbols
    by _ _ (by_parts {place = n} {next = x} h goes) kept = step n x _ (record { last = g.last; events = _; goes = goes; kept = kept })

-- a part that was read: tokens that are what P says, with a size, in front of the rest
pub record IsRead (P : List Token → ℕ → Type 0) (next : ℕ → Seen) (due : List Part) (symbols : List Placed) : Type 0 where
  pub tokens : List Token
  pub size : ℕ
  pub rest : List Placed
  pub begins : Begins symbols tokens rest
  pub is_part : P tokens size
  pub good : IsGood (next size) due rest
