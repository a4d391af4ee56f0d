-- A text that keeps its rules spells modules.
use Rattle.std.proofs.Common.{◌≡◌, ◌≤◌, Bool, ℕ, zero, suc, ◌+◌, ◌<◌, List, [], ◌∷◌, ◌++◌, length, length-append, map, add-one, refl, ap, sym, ◌∙◌, arith, subst, true}
use Rattle.std.proofs.Common.{false, nat_lt, true≢false}
use Rattle.std.proofs.lemmas.Bool.{and_parts, ltb-true}
use Rattle.std.proofs.lemmas.List.{length-map}
use Rattle.ci_verilog.specs.declared.expressions.Expr.{Expr}
use Rattle.ci_verilog.specs.declared.expressions.Wire.{Wire}
use Rattle.ci_verilog.specs.Modules.{Module, inputs, declared_by, IsSimple, IsTerm, IsExpr, AreWires, IsFree, AreFree, IsModule}
use Rattle.ci_verilog.specs.Modules.{nothing as zero_x}
use Rattle.ci_reading.specs.Tokens.{token, text_end, at}
use Rattle.ci_reading.proofs.BrokenLaws.{kept_front, kept_back}
use Rattle.ci_vread.specs.declared.tokens.Sign.TheVariants.{ModuleWord, InputWord, AssignWord, EndModuleWord, NameY, NameZ, Semicolon, Equals}
use Rattle.ci_vread.specs.Lexicon.{Token, sign, name, cycles}
use Rattle.ci_vread.specs.Grammar.{Symbol, Placed, is, wires, that_token, some_cycles, a_module, of_wires, of_three, units, body, side, Part, reads, ends, made, the}
use Rattle.ci_vread.specs.Grammar.{name_x, first_ports, other_ports, third, body_of, unit, parts_of}
use Rattle.ci_vread.specs.Grammar.{Event, Finish, whole, stops, Goes, all_read, by_token}
use Rattle.ci_vread.specs.Rules.{same, is_word, Seen, nothing, rules_from, rules_at, KeepsRules}
use Rattle.ci_vread.specs.Spelling.{module_name, result, SpellsExpr, some_wire, SpellsWires, no_wires, more_wires, SpellsThird, no_third, some_third, SpellsModule, some_module, SpellsModules, no_modules, more_modules, AreTokens, at_end, more_tokens}
use Rattle.ci_vread.specs.Spelling.{Spell}
use Rattle.ci_vread.proofs.NameLaws.{same_is}
use Rattle.ci_vread.proofs.ReadSteps.{AreThere, IsKept, AreKept, IsGood, Begins, none, more, joined, shorter, tokens_read, sign_read, end_read, phrase_read}
use Rattle.ci_vread.proofs.ReadSides.{clean, IsSide, side_read}
use Rattle.ci_vread.proofs.ReadWires.{wires_read}

-- ---- modules

-- `assign`, a result, `=`, its side and `;`
record IsResultRead (t : Token) (base : Seen) (due : List Part) (symbols : List Placed) : Type 0 where
  tokens : List Token
  rest : List Placed
  begins : Begins symbols (result t tokens) rest
  is_side : IsSide base tokens 0
  good : IsGood (clean base) due rest

result_read : (t : Token) (base : Seen) (due : List Part) (symbols : List Placed)
    → IsGood (clean base) (the AssignWord ∷ reads (is t) ∷ the Equals ∷ made side ∷ the Semicolon ∷ due) symbols → IsResultRead t base due symbols
result_read t base due symbols g =
    let o = tokens_read (sign AssignWord ∷ t ∷ sign Equals ∷ []) (clean base) (made side ∷ the Semicolon ∷ due) symbols g in
    let r = side_read base (the Semicolon ∷ due) o.rest o.good in
    let h = sign_read Semicolon (clean base) due r.rest r.good in
    record {
      tokens = r.tokens;
      rest = h.rest;
      begins = joined o.begins (joined r.begins h.begins);
      is_side = record { value = r.is_part.value; spelled = r.is_part.spelled; is_expr = r.is_part.is_expr };
      good = h.good;
    }

-- the result x, and the module's end
record IsThirdRead (wide : Bool) (base : Seen) (due : List Part) (symbols : List Placed) : Type 0 where
  value : Expr
  tokens : List Token
  rest : List Placed
  begins : Begins symbols tokens rest
  spelled : SpellsThird wide tokens value
  is_expr : IsExpr base.known value 32
  narrow : wide ≡ false → value ≡ zero_x
  good : IsGood (clean base) due rest

third_read : (wide : Bool) (base : Seen) (due : List Part) (symbols : List Placed) → base.due ≡ 32 → IsGood (clean base) (third wide ++ due) symbols
    → IsThirdRead wide base due symbols
third_read false base due symbols is_due g = record {
  value = zero_x;
  tokens = [];
  rest = symbols;
  begins = none;
  spelled = no_third;
  is_expr = IsExpr.one (IsTerm.plain (IsSimple.number (omega arith) (omega arith) (omega arith)));
  narrow = λ e. refl;
  good = g;
}
third_read true base due symbols is_due g =
    let o = result_read name_x base due symbols g in
    record {
      value = o.is_side.value;
      tokens = result name_x o.tokens;
      rest = o.rest;
      begins = o.begins;
      spelled = some_third o.is_side.spelled;
      is_expr = subst (λ n. IsExpr base.known o.is_side.value n) is_due o.is_side.is_expr;
      narrow = λ e. absurd (cc);
      good = o.good;
    }

-- no wire is named by a word
free_name : (wide : Bool) (bytes : List ℕ) → is_word wide bytes ≡ false → IsFree wide bytes
free_name false bytes e f = absurd (true≢false (sym f))
free_name true bytes e f = λ is_x. true≢false (subst (λ b. is_word true b ≡ false) is_x e)

free_wires : {wide : Bool} {tokens : List Token} {list : List Wire} → SpellsWires wide tokens list → AreFree wide list
free_wires no_wires = tt
free_wires (more_wires (some_wire high is_width free spelled) others) = (free_name _ _ free, free_wires others)

-- behind a module's name, or its first three inputs in a wide one, and behind its wires
abbrev named : Bool → Seen → Seen
named wide base = record base { modules = base.modules + 1; wide = wide; known = inputs wide }

abbrev with_words : Seen → Seen
with_words seen = record seen { due = 32 }

-- what is due behind the ports
abbrev pub behind_ports : Bool → List Part → List Part
behind_ports wide due =
    made wires ∷ ends of_wires ∷ the AssignWord ∷ the NameY ∷ the Equals ∷ made side ∷ the Semicolon
    ∷ the AssignWord ∷ the NameZ ∷ the Equals ∷ made side ∷ the Semicolon ∷ (third wide ++ (the EndModuleWord ∷ due))

-- a module behind its first three inputs
record IsBodyRead (base : Seen) (due : List Part) (symbols : List Placed) : Type 0 where
  wide : Bool
  list : List Wire
  y : Expr
  z : Expr
  x : Expr
  listed : List Token
  first : List Token
  second : List Token
  last : List Token
  rest : List Placed
  begins : Begins symbols (other_ports wide ++ (listed ++ (result (sign NameY) first ++ (result (sign NameZ) second
      ++ (last ++ (sign EndModuleWord ∷ [])))))) rest
  list_spelled : SpellsWires wide listed list
  y_spelled : SpellsExpr first y
  z_spelled : SpellsExpr second z
  x_spelled : SpellsThird wide last x
  are_wires : AreWires (inputs wide) list
  few : length list ≤ 2048
  y_is : IsExpr (inputs wide ++ map declared_by list) y 32
  z_is : IsExpr (inputs wide ++ map declared_by list) z 32
  x_is : IsExpr (inputs wide ++ map declared_by list) x 32
  narrow : wide ≡ false → x ≡ zero_x
  after : Seen
  modules_is : after.modules ≡ suc base.modules
  good : IsGood (clean after) due rest

body_behind : (wide : Bool) (base : Seen) (due : List Part) (symbols : List Placed)
    → AreThere (other_ports wide) (clean (named wide base)) (behind_ports wide due) symbols → IsBodyRead base due symbols
body_behind wide base due symbols o =
    let w = wires_read (suc (length o.rest)) (named wide base) _ o.rest (omega arith) (omega arith) o.good in
    let e = end_read of_wires (clean w.after) _ w.rest w.good in
    let y = result_read (sign NameY) (with_words w.after) _ w.rest e.good in
    let z = result_read (sign NameZ) (with_words w.after) (third wide ++ (the EndModuleWord ∷ due)) y.rest y.good in
    let x = third_read wide (with_words w.after) (the EndModuleWord ∷ due) z.rest refl z.good in
    let h = sign_read EndModuleWord (clean (with_words w.after)) due x.rest x.good in
    let counted : length w.after.known ≡ length (inputs wide) + length w.value =
    ap length w.known_is ∙ (length-append (inputs wide) (map declared_by w.value) ∙ ap (λ m. length (inputs wide) + m) (length-map w.value declared_by)) in
    record {
      wide = wide;
      list = w.value;
      y = y.is_side.value;
      z = z.is_side.value;
      x = x.value;
      listed = w.tokens;
      first = y.tokens;
      second = z.tokens;
      last = x.tokens;
      rest = h.rest;
      begins = joined {three = h.rest} o.begins (joined {three = h.rest} w.begins (joined {three = h.rest} y.begins
          (joined {three = h.rest} z.begins (joined {three = h.rest} x.begins h.begins))));
      list_spelled = w.spelled;
      y_spelled = y.is_side.spelled;
      z_spelled = z.is_side.spelled;
      x_spelled = x.spelled;
      are_wires = w.are_wires;
      few = omega (arith, counted, w.few);
      y_is = subst (λ known. IsExpr known y.is_side.value 32) w.known_is y.is_side.is_expr;
      z_is = subst (λ known. IsExpr known z.is_side.value 32) w.known_is z.is_side.is_expr;
      x_is = subst (λ known. IsExpr known x.value 32) w.known_is x.is_expr;
      narrow = x.narrow;
      after = with_words w.after;
      modules_is = w.modules_is ∙ add-one base.modules;
      good = h.good;
    }

body_read : (base : Seen) (due : List Part) (symbols : List Placed) → IsGood (clean (named false base)) (made body ∷ due) symbols
    → IsBodyRead base due symbols
body_read base due symbols g = phrase_read body (clean (named false base)) due symbols (λ symbols. IsBodyRead base due symbols) g opens
  where
    opens : (place : ℕ) (x : Symbol) (others : List Placed) → IsGood (clean (named false base)) (parts_of body x ++ due) (at place x ∷ others)
        → IsBodyRead base due (at place x ∷ others)
    opens place (token (sign InputWord)) others good =
        let symbols = at place (token (sign InputWord)) ∷ others in
        let e = end_read of_three (clean (named false base)) (body_of true ++ due) symbols good in
        body_behind true base due symbols (tokens_read (other_ports true) (clean (named true base)) (behind_ports true due) symbols e.good)
    opens place x others good =
        body_behind false base due (at place x ∷ others)
        (tokens_read (other_ports false) (clean (named false base)) (behind_ports false due) (at place x ∷ others) good)

record IsModuleRead (base : Seen) (due : List Part) (symbols : List Placed) : Type 0 where
  value : Module
  tokens : List Token
  rest : List Placed
  begins : Begins symbols tokens rest
  is_shorter : length rest < length symbols
  spelled : SpellsModule tokens value
  is_module : IsModule value
  number_is : value.number ≡ base.modules
  below : base.modules < 32
  after : Seen
  modules_is : after.modules ≡ suc base.modules
  good : IsGood (clean after) due rest

-- the module whose name, first ports and body were read
made_of :
    {p q r : ℕ} {symbols : List Placed} (base : Seen) (due : List Part) (n : ℕ) (bytes : List ℕ)
    → bytes ≡ module_name base.modules → base.modules < 32 → (o : AreThere first_ports (clean (named false base)) (made body ∷ due) symbols)
    → IsBodyRead base due o.rest
    → IsModuleRead base due (at p (token (cycles n)) ∷ at q (token (sign ModuleWord)) ∷ at r (token (name bytes)) ∷ symbols)
made_of base due n bytes is_named below o b =
    let inside = other_ports b.wide ++ (b.listed ++ (result (sign NameY) b.first ++ (result (sign NameZ) b.second
    ++ (b.last ++ (sign EndModuleWord ∷ []))))) in
    let value : Module = record {
      number = base.modules;
      cycles = n;
      wires = record { wide = b.wide; list = b.list };
      y = b.y;
      z = b.z;
      x = b.x;
    } in
    let begins = more (more (more (joined o.begins b.begins))) in
    record {
      value = value;
      tokens = cycles n ∷ sign ModuleWord ∷ name bytes ∷ first_ports ++ inside;
      rest = b.rest;
      begins = begins;
      is_shorter = shorter begins;
      spelled = subst (λ c. SpellsModule (cycles n ∷ sign ModuleWord ∷ name c ∷ first_ports ++ inside) value) (sym is_named)
          (some_module b.list_spelled b.y_spelled b.z_spelled b.x_spelled);
      is_module = record {
        are_wires = b.are_wires;
        are_free = free_wires b.list_spelled;
        few = b.few;
        y = b.y_is;
        z = b.z_is;
        x = b.x_is;
        narrow = b.narrow;
      };
      number_is = refl;
      below = below;
      after = b.after;
      modules_is = b.modules_is;
      good = b.good;
    }

module_read : (base : Seen) (due : List Part) (symbols : List Placed) → IsGood (clean base) (unit ++ due) symbols → IsModuleRead base due symbols
module_read base due symbols g = by symbols g.events g.goes g.kept
  where
    by : (symbols : List Placed) (events : List Event) → Goes g.last (unit ++ due) symbols events whole → AreKept (rules_from (clean base) events)
        → IsModuleRead base due symbols
    by _ _ (by_token (some_cycles n) (by_token (that_token _) (by_token {place = p} {symbols = symbols} (a_module bytes) goes))) kept =
        let b = and_parts (same bytes (module_name base.modules)) (nat_lt base.modules 32) kept.0 in
        let o = tokens_read first_ports (clean (named false base)) _ symbols (record { last = p; events = _; goes = goes; kept = kept.1 }) in
        made_of base due n bytes (same_is bytes (module_name base.modules) b.0) (ltb-true _ _ b.1) o (body_read base due o.rest o.good)

-- ---- texts

record AreModulesRead (k : ℕ) (symbols : List Placed) : Type 0 where
  value : List Module
  tokens : List Token
  are_tokens : AreTokens symbols tokens
  spelled : SpellsModules k tokens value

tokens_behind : {symbols rest : List Placed} {tokens others : List Token} → Begins symbols tokens rest → AreTokens rest others
    → AreTokens symbols (tokens ++ others)
tokens_behind none o = o
tokens_behind (more b) o = more_tokens (tokens_behind b o)

nothing_left : (k : ℕ) (seen : Seen) (symbols : List Placed) → IsGood seen [] symbols → AreModulesRead k symbols
nothing_left k seen symbols g = by symbols g.events g.goes
  where
    by : (symbols : List Placed) (events : List Event) → Goes g.last [] symbols events whole → AreModulesRead k symbols
    by _ _ all_read = record { value = []; tokens = []; are_tokens = at_end; spelled = no_modules }

modules_read : (k : ℕ) (base : Seen) (symbols : List Placed) → length symbols < k → IsGood (clean base) (made units ∷ []) symbols
    → AreModulesRead base.modules symbols
modules_read zero base symbols short g = absurd (omega (arith, short))
modules_read (suc k) base symbols short g =
    phrase_read units (clean base) [] symbols (λ symbols. length symbols < suc k → AreModulesRead base.modules symbols) g (opens (modules_read k)) short
  where
    one_more : ((base : Seen) (symbols : List Placed) → length symbols < k → IsGood (clean base) (made units ∷ []) symbols
        → AreModulesRead base.modules symbols)
        → (symbols : List Placed) → IsGood (clean base) (unit ++ made units ∷ []) symbols → length symbols < suc k → AreModulesRead base.modules symbols
    one_more again symbols good short =
        let o = module_read base (made units ∷ []) symbols good in
        let r = again o.after o.rest (omega (arith, short, o.is_shorter)) o.good in
        record {
          value = o.value ∷ r.value;
          tokens = o.tokens ++ r.tokens;
          are_tokens = tokens_behind o.begins r.are_tokens;
          spelled = more_modules o.number_is o.below o.is_module o.spelled (subst (λ m. SpellsModules m r.tokens r.value) o.modules_is r.spelled);
        }

    opens : ((base : Seen) (symbols : List Placed) → length symbols < k → IsGood (clean base) (made units ∷ []) symbols → AreModulesRead base.modules symbols)
        → (place : ℕ) (x : Symbol) (others : List Placed) → IsGood (clean base) (parts_of units x ++ []) (at place x ∷ others)
        → length (at place x ∷ others) < suc k → AreModulesRead base.modules (at place x ∷ others)
    opens again place text_end others good short = nothing_left base.modules (clean base) (at place text_end ∷ others) good
    opens again place x others good short = one_more again (at place x ∷ others) good short

-- ---- the law: a text that keeps its rules spells modules

pub kept_spells : (text : List ℕ) → KeepsRules text → (modules : List Module) × Spell text modules
kept_spells text (rules, are, all) =
    let kept = subst AreKept are.rules_are all in
    let o = by are.finish are.goes kept in
    (o.value, record { symbols = are.symbols; tokens = o.tokens; are_symbols = are.are_symbols; are_tokens = o.are_tokens; spelled = o.spelled })
  where
    by : (f : Finish) → Goes 0 (made units ∷ []) are.symbols are.events f → AreKept (rules_from nothing are.events ++ rules_at f)
        → AreModulesRead 0 are.symbols
    by whole goes kept =
        modules_read (suc (length are.symbols)) nothing are.symbols (omega arith)
        (record { last = 0; events = are.events; goes = goes; kept = kept_front IsKept (rules_from nothing are.events) [] kept })
    by (stops kind place) goes kept =
        let e : false ≡ true = (kept_back IsKept (rules_from nothing are.events) (rules_at (stops kind place)) kept).0 in absurd (cc)
