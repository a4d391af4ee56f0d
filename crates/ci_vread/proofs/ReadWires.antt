-- Where wires are due in a text that keeps its rules, wires stand.
use Rattle.std.proofs.Common.{◌≡◌, ℕ, zero, suc, ◌+◌, ◌<◌, ◌≤◌, List, [], ◌∷◌, ◌++◌, length, length-append, append_assoc, append-nil, map, refl, sym, ◌∙◌}
use Rattle.std.proofs.Common.{arith, subst}
use Rattle.std.proofs.lemmas.Bool.{ltb-true}
use Rattle.ci_verilog.specs.declared.expressions.Wire.{Wire}
use Rattle.ci_verilog.specs.Modules.{declared_by, IsWire, AreWires}
use Rattle.ci_reading.specs.Tokens.{token, at}
use Rattle.ci_vread.specs.declared.tokens.Sign.TheVariants.{WireWord, AssignWord, LeftBracket, RightBracket, Semicolon, Colon, Equals}
use Rattle.ci_vread.specs.Lexicon.{Token, sign, name, number}
use Rattle.ci_vread.specs.Grammar.{Symbol, Placed, that_token, a_high, a_name, a_target, of_wire, wires, Part, ends, made, the, declaration, parts_of, Event}
use Rattle.ci_vread.specs.Grammar.{whole, Goes, by_token}
use Rattle.ci_vread.specs.Rules.{Seen, rules_from, most_names}
use Rattle.ci_vread.specs.Spelling.{SpellsWire, some_wire, SpellsWires, no_wires, more_wires}
use Rattle.ci_vread.proofs.NameLaws.{same_is, is_new, not_true}
use Rattle.ci_vread.proofs.ReadSteps.{AreKept, IsGood, Begins, none, more, joined, shorter, sign_read, end_read, phrase_read}
use Rattle.ci_vread.proofs.ReadSides.{clean, side_read}

abbrev pub behind_wire : Seen → Wire → Seen
behind_wire base w = record (clean base) { known = base.known ++ declared_by w ∷ []; declared = w.name; due = w.width }

module _ (base : Seen) where
  pub record IsWireRead (due : List Part) (symbols : List Placed) : Type 0 where
    pub value : Wire
    pub tokens : List Token
    pub rest : List Placed
    pub begins : Begins symbols tokens rest
    pub is_shorter : length rest < length symbols
    pub spelled : SpellsWire base.wide tokens value
    pub is_wire : IsWire base.known value
    pub few : length base.known < most_names base.wide
    pub good : IsGood (behind_wire base value) due rest

  wire_read : (due : List Part) (symbols : List Placed) → IsGood (clean base) (declaration ++ due) symbols → IsWireRead due symbols
  wire_read due symbols g = by symbols g.events g.goes g.kept
    where
      by : (symbols : List Placed) (events : List Event) → Goes g.last (declaration ++ due) symbols events whole
          → AreKept (rules_from (clean base) events) → IsWireRead due symbols
      by _ _ (by_token (that_token _) (by_token (that_token _) (by_token (a_high n) (by_token (that_token _) (by_token (that_token _)
          (by_token (that_token _) (by_token (a_name bytes) (by_token (that_token _) (by_token (that_token _) (by_token (a_target target)
          (by_token {place = p} {symbols = symbols} (that_token _) goes))))))))))) kept =
          let seen : Seen = record base { due = n + 1; declared = bytes } in
          let o = side_read seen (the Semicolon ∷ ends of_wire ∷ due) symbols (record { last = p; events = _; goes = goes; kept = kept.1.1.1.1.1 }) in
          let h = sign_read Semicolon (clean seen) (ends of_wire ∷ due) o.rest o.good in
          let e = end_read of_wire (clean seen) due h.rest h.good in
          let wire : Wire = record { name = bytes; width = n + 1; value = o.is_part.value } in
          let begins = more (more (more (more (more (more (more (more (more (more (more (joined o.begins h.begins))))))))))) in
          record {
            value = wire;
            tokens = sign WireWord ∷ sign LeftBracket ∷ number n ∷ sign Colon ∷ number 0 ∷ sign RightBracket ∷ name bytes
                ∷ sign Semicolon ∷ sign AssignWord ∷ name target ∷ sign Equals ∷ o.tokens ++ (sign Semicolon ∷ []);
            rest = h.rest;
            begins = begins;
            is_shorter = shorter begins;
            spelled = subst (λ t. SpellsWire base.wide (sign WireWord ∷ sign LeftBracket ∷ number n ∷ sign Colon ∷ number 0 ∷ sign RightBracket ∷ name bytes
                ∷ sign Semicolon ∷ sign AssignWord ∷ name t ∷ sign Equals ∷ o.tokens ++ (sign Semicolon ∷ [])) wire)
                (sym (same_is target bytes kept.1.1.1.1.0)) (some_wire n refl (not_true _ kept.1.0) o.is_part.spelled);
            is_wire = record {
              is_new = is_new base.known bytes kept.1.1.0;
              least = omega arith;
              most = (let b = ltb-true n 64 kept.0 in omega (arith, b));
              value = o.is_part.is_expr;
            };
            few = ltb-true _ _ kept.1.1.1.0;
            good = e.good;
          }

-- ---- all wires of a module

pub record AreWiresRead (base : Seen) (due : List Part) (symbols : List Placed) : Type 0 where
  pub value : List Wire
  pub tokens : List Token
  pub rest : List Placed
  pub begins : Begins symbols tokens rest
  pub spelled : SpellsWires base.wide tokens value
  pub are_wires : AreWires base.known value
  pub after : Seen
  pub known_is : after.known ≡ base.known ++ map declared_by value
  pub wide_is : after.wide ≡ base.wide
  pub modules_is : after.modules ≡ base.modules
  pub few : length after.known ≤ most_names base.wide
  pub good : IsGood (clean after) due rest

no_more : (base : Seen) (due : List Part) (symbols : List Placed) → length base.known ≤ most_names base.wide → IsGood (clean base) due symbols
    → AreWiresRead base due symbols
no_more base due symbols few good = record {
  value = [];
  tokens = [];
  rest = symbols;
  begins = none;
  spelled = no_wires;
  are_wires = tt;
  after = base;
  known_is = sym (append-nil base.known);
  wide_is = refl;
  modules_is = refl;
  few = few;
  good = good;
}

one_more : (base : Seen) (due : List Part) (symbols : List Placed) (o : IsWireRead base (made wires ∷ due) symbols)
    → AreWiresRead (behind_wire base o.value) due o.rest → AreWiresRead base due symbols
one_more base due symbols o r = record {
  value = o.value ∷ r.value;
  tokens = o.tokens ++ r.tokens;
  rest = r.rest;
  begins = joined o.begins r.begins;
  spelled = more_wires o.spelled r.spelled;
  are_wires = (o.is_wire, r.are_wires);
  after = r.after;
  known_is = r.known_is ∙ append_assoc base.known (declared_by o.value ∷ []) (map declared_by r.value);
  wide_is = r.wide_is;
  modules_is = r.modules_is;
  few = r.few;
  good = r.good;
}

pub wires_read :
    (k : ℕ) (base : Seen) (due : List Part) (symbols : List Placed) → length symbols < k → length base.known ≤ most_names base.wide
    → IsGood (clean base) (made wires ∷ due) symbols → AreWiresRead base due symbols
wires_read zero base due symbols short few g = absurd (omega (arith, short))
wires_read (suc k) base due symbols short few g =
    phrase_read wires (clean base) due symbols (λ symbols. length symbols < suc k → AreWiresRead base due symbols) g (opens (wires_read k)) short
  where
    opens : ((base : Seen) (due : List Part) (symbols : List Placed) → length symbols < k → length base.known ≤ most_names base.wide
        → IsGood (clean base) (made wires ∷ due) symbols → AreWiresRead base due symbols)
        → (place : ℕ) (x : Symbol) (others : List Placed) → IsGood (clean base) (parts_of wires x ++ due) (at place x ∷ others)
        → length (at place x ∷ others) < suc k → AreWiresRead base due (at place x ∷ others)
    opens again place (token (sign WireWord)) others good short =
        let o = wire_read base (made wires ∷ due) (at place (token (sign WireWord)) ∷ others) good in
        let longer = length-append base.known (declared_by o.value ∷ []) in
        one_more base due (at place (token (sign WireWord)) ∷ others) o
        (again (behind_wire base o.value) due o.rest (omega (arith, short, o.is_shorter)) (omega (arith, longer, o.few)) o.good)
    opens again place x others good short = no_more base due (at place x ∷ others) few good
