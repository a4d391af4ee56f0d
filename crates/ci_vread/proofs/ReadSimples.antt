-- Where a simple is due in a text that keeps its rules, one of its width stands.
use Rattle.std.proofs.Common.{◌≡◌, ℕ, ◌+◌, ◌-◌, ◌*◌, ◌≤◌, ◌<◌, List, [], ◌∷◌, ◌++◌, arith, subst, true}
use Rattle.std.proofs.lemmas.Bool.{and_parts, ltb-true, leb-true}
use Rattle.ci_verilog.specs.declared.expressions.Simple.{Simple}
use Rattle.ci_verilog.specs.declared.expressions.Simple.TheVariants.{Whole, Bits, Number}
use Rattle.ci_verilog.specs.Modules.{IsSimple, whole as of_whole, bits as of_bits, number as of_number}
use Rattle.ci_reading.specs.Tokens.{token, at}
use Rattle.ci_vread.specs.declared.tokens.Sign.TheVariants.{LeftBracket, RightBracket, Colon}
use Rattle.ci_vread.specs.Lexicon.{Token, sign, number, constant}
use Rattle.ci_vread.specs.Grammar.{Symbol, Placed, its_use, its_index, its_low, its_constant, Fits, that_token, an_index, a_low, a_constant, of_simple, simple}
use Rattle.ci_vread.specs.Grammar.{bits, range}
use Rattle.ci_vread.specs.Grammar.{Part, reads, ends, made, the, parts_of, Event, whole, Goes, by_end, by_token}
use Rattle.ci_vread.specs.Rules.{is_known, width_of, Seen, bytes_of, rules_from}
use Rattle.ci_vread.specs.Spelling.{SpellsSimple, whole_name, one_bit, some_bits, some_constant}
use Rattle.ci_vread.proofs.NameLaws.{known_is}
use Rattle.ci_vread.proofs.ReadSteps.{AreKept, IsGood, none, more, sign_read, end_read, phrase_read, IsRead}

abbrev pub behind_simple : Seen → ℕ → Seen
behind_simple seen size = record seen { sum = seen.sum + seen.times * size; times = 1; width = 0; index = 0 }

-- a simple of this width, which keeps the term's width at 64 or below
pub record IsPlain (seen : Seen) (tokens : List Token) (width : ℕ) : Type 0 where
  pub value : Simple
  pub spelled : SpellsSimple tokens value
  pub is_simple : IsSimple seen.known value width
  pub fits : seen.sum + seen.times * width ≤ 64

module _ (seen : Seen) (due : List Part) where
  abbrev IsPlainRead : List Placed → Type 0
  IsPlainRead symbols = IsRead (IsPlain seen) (behind_simple seen) due symbols

  -- a name of this width was read, and the index n behind one
  abbrev named : ℕ → Seen
  named width = record seen { width = width }

  abbrev indexed : ℕ → Seen
  indexed n = record seen { width = 1; index = n }

  constant_read : (symbols : List Placed) → IsGood seen (reads its_constant ∷ ends of_simple ∷ due) symbols → IsPlainRead symbols
  constant_read symbols g = by symbols g.events g.goes g.kept
    where
      by : (symbols : List Placed) (events : List Event) → Goes g.last (reads its_constant ∷ ends of_simple ∷ due) symbols events whole
          → AreKept (rules_from seen events) → IsPlainRead symbols
      by _ _ (by_token {place = p} (a_constant w v) (by_end goes)) kept =
          let bounds = and_parts _ _ kept.1.0 in
          record {
            tokens = constant w v ∷ [];
            size = w;
            rest = _;
            begins = more none;
            is_part = record {
              value = Number w v;
              spelled = some_constant;
              is_simple = of_number (leb-true _ _ bounds.0) (leb-true _ _ bounds.1) (ltb-true _ _ kept.0);
              fits = leb-true _ _ kept.1.1.0;
            };
            good = record { last = p; events = _; goes = goes; kept = kept.1.1.1 };
          }

  -- behind the name t
  module _ (t : Token) (place : ℕ) (fit : Fits its_use t) (known : is_known seen.known (bytes_of t) ≡ true) where
    abbrev its_width : ℕ
    its_width = width_of seen.known (bytes_of t)

    alone : (symbols : List Placed) → IsGood (named its_width) (ends of_simple ∷ due) symbols → IsPlainRead (at place (token t) ∷ symbols)
    alone symbols g =
        let o = end_read of_simple (named its_width) due symbols g in
        record {
          tokens = t ∷ [];
          size = its_width;
          rest = symbols;
          begins = more none;
          is_part = record {
            value = Whole (bytes_of t);
            spelled = whole_name fit;
            is_simple = of_whole (known_is seen.known (bytes_of t) known);
            fits = leb-true _ _ o.kept.0;
          };
          good = o.good;
        }

    -- and behind `[` and the index n
    module _ (one two n : ℕ) (small : n < its_width) where
      abbrev IsReadBehind : List Placed → Type 0
      IsReadBehind symbols = IsPlainRead (at place (token t) ∷ at one (token (sign LeftBracket)) ∷ at two (token (number n)) ∷ symbols)

      closed : (symbols : List Placed) → IsGood (indexed n) (the RightBracket ∷ ends of_simple ∷ due) symbols → IsReadBehind symbols
      closed symbols g =
          let h = sign_read RightBracket (indexed n) (ends of_simple ∷ due) symbols g in
          let o = end_read of_simple (indexed n) due h.rest h.good in
          let one_wide : n + 1 - n ≡ 1 = omega arith in
          let its_bit = of_bits (known_is seen.known (bytes_of t) known) small (omega arith) in
          record {
            tokens = t ∷ sign LeftBracket ∷ number n ∷ sign RightBracket ∷ [];
            size = 1;
            rest = h.rest;
            begins = more (more (more h.begins));
            is_part = record {
              value = Bits (bytes_of t) n n;
              spelled = one_bit fit;
              is_simple = subst (IsSimple seen.known (Bits (bytes_of t) n n)) one_wide its_bit;
              fits = leb-true _ _ o.kept.0;
            };
            good = o.good;
          }

      low_read : (symbols : List Placed) → IsGood (indexed n) (the Colon ∷ reads its_low ∷ the RightBracket ∷ ends of_simple ∷ due) symbols
          → IsReadBehind symbols
      low_read symbols g = by symbols g.events g.goes g.kept
        where
          by : (symbols : List Placed) (events : List Event)
              → Goes g.last (the Colon ∷ reads its_low ∷ the RightBracket ∷ ends of_simple ∷ due) symbols events whole
              → AreKept (rules_from (indexed n) events) → IsReadBehind symbols
          by _ _ (by_token (that_token _) (by_token (a_low low) (by_token {place = p} (that_token _) (by_end goes)))) kept =
              record {
                tokens = t ∷ sign LeftBracket ∷ number n ∷ sign Colon ∷ number low ∷ sign RightBracket ∷ [];
                size = n + 1 - low;
                rest = _;
                begins = more (more (more (more (more (more none)))));
                is_part = record {
                  value = Bits (bytes_of t) n low;
                  spelled = some_bits fit;
                  is_simple = of_bits (known_is seen.known (bytes_of t) known) small (leb-true _ _ kept.0);
                  fits = leb-true _ _ kept.1.0;
                };
                good = record { last = p; events = _; goes = goes; kept = kept.1.1 };
              }

      range_read : (place : ℕ) (x : Symbol) (others : List Placed)
          → IsGood (indexed n) (parts_of range x ++ (the RightBracket ∷ ends of_simple ∷ due)) (at place x ∷ others) → IsReadBehind (at place x ∷ others)
      range_read place (token (sign Colon)) others good = low_read (at place (token (sign Colon)) ∷ others) good
      range_read place x others good = closed (at place x ∷ others) good

    index_read : (symbols : List Placed)
        → IsGood (named its_width) (the LeftBracket ∷ reads its_index ∷ made range ∷ the RightBracket ∷ ends of_simple ∷ due) symbols
        → IsPlainRead (at place (token t) ∷ symbols)
    index_read symbols g = by symbols g.events g.goes g.kept
      where
        by : (symbols : List Placed) (events : List Event)
            → Goes g.last (the LeftBracket ∷ reads its_index ∷ made range ∷ the RightBracket ∷ ends of_simple ∷ due) symbols events whole
            → AreKept (rules_from (named its_width) events) → IsPlainRead (at place (token t) ∷ symbols)
        by _ _ (by_token {place = one} (that_token _) (by_token {place = two} {symbols = symbols} (an_index n) goes)) kept =
            let small = ltb-true _ _ kept.0 in
            phrase_read range (indexed n) (the RightBracket ∷ ends of_simple ∷ due) symbols (IsReadBehind one two n small)
            (record { last = two; events = _; goes = goes; kept = kept.1 }) (range_read one two n small)

    bits_read : (q : ℕ) (x : Symbol) (others : List Placed) → IsGood (named its_width) (parts_of bits x ++ (ends of_simple ∷ due)) (at q x ∷ others)
        → IsPlainRead (at place (token t) ∷ at q x ∷ others)
    bits_read q (token (sign LeftBracket)) others good = index_read (at q (token (sign LeftBracket)) ∷ others) good
    bits_read q x others good = alone (at q x ∷ others) good

  name_read : (symbols : List Placed) → IsGood seen (reads its_use ∷ made bits ∷ ends of_simple ∷ due) symbols → IsPlainRead symbols
  name_read symbols g = by symbols g.events g.goes g.kept
    where
      by : (symbols : List Placed) (events : List Event) → Goes g.last (reads its_use ∷ made bits ∷ ends of_simple ∷ due) symbols events whole
          → AreKept (rules_from seen events) → IsPlainRead symbols
      by _ _ (by_token {place = p} {t = t} {symbols = symbols} fit goes) kept =
          phrase_read bits (named (width_of seen.known (bytes_of t))) (ends of_simple ∷ due) symbols
          (λ symbols. IsPlainRead (at p (token t) ∷ symbols))
          (record { last = p; events = _; goes = goes; kept = kept.1 }) (bits_read t p fit kept.0)

  opens : (place : ℕ) (x : Symbol) (others : List Placed) → IsGood seen (parts_of simple x ++ due) (at place x ∷ others)
      → IsPlainRead (at place x ∷ others)
  opens place (token (constant w v)) others good = constant_read (at place (token (constant w v)) ∷ others) good
  opens place x others good = name_read (at place x ∷ others) good

  -- where a simple is due, one stands
  pub simple_read : (symbols : List Placed) → IsGood seen (made simple ∷ due) symbols → IsRead (IsPlain seen) (behind_simple seen) due symbols
  simple_read symbols g = phrase_read simple seen due symbols IsPlainRead g opens
