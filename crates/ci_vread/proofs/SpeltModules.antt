-- A text that spells modules keeps its rules.
use Rattle.std.proofs.Common.{◌≡◌, Bool, false, ℕ, suc, ◌+◌, ◌<◌, ◌≤◌, List, [], ◌∷◌, ◌++◌, length, length-append, append_assoc, append-nil, map, add-one, refl, sym, ap}
use Rattle.std.proofs.Common.{◌∙◌, arith, subst, true}
use Rattle.std.proofs.lemmas.Bool.{lt-ltb}
use Rattle.ci_verilog.specs.declared.expressions.Expr.{Expr}
use Rattle.ci_verilog.specs.declared.expressions.Wire.{Wire}
use Rattle.ci_verilog.specs.Modules.{Module, inputs, vector, declared_by, IsExpr, IsWire, AreWires, IsModule}
use Rattle.ci_reading.specs.Tokens.{token, at}
use Rattle.ci_vread.specs.declared.tokens.Sign.TheVariants.{AssignWord, EndModuleWord, NameY, NameZ, Semicolon, Equals}
use Rattle.ci_vread.specs.Lexicon.{Token, sign}
use Rattle.ci_vread.specs.Grammar.{Placed, that_token, some_cycles, a_module, a_high, a_name, a_target, of_wire, of_wires, of_three, units, body, wires, side}
use Rattle.ci_vread.specs.Grammar.{Part, reads, ends, made, the, name_x, first_ports, other_ports, third, unit, whole, all_read}
use Rattle.ci_vread.specs.Grammar.{is as this_token}
use Rattle.ci_vread.specs.Rules.{same, Seen, nothing, most_names, rules_from, KeepsRules}
use Rattle.ci_vread.specs.Spelling.{SpellsExpr, SpellsWire, some_wire, SpellsWires, no_wires, more_wires, module_name, result, SpellsThird, no_third, some_third}
use Rattle.ci_vread.specs.Spelling.{SpellsModule, some_module}
use Rattle.ci_vread.specs.Spelling.{SpellsModules, no_modules, more_modules, AreTokens, at_end, more_tokens, Spell}
use Rattle.ci_vread.proofs.NameLaws.{same_itself, not_false, unknown_if, IsTable, inputs_are, one_more_name, all_names}
use Rattle.ci_vread.proofs.ReadSteps.{AreKept, Begins, none, more}
use Rattle.ci_vread.proofs.ReadSides.{clean}
use Rattle.ci_vread.proofs.ReadWires.{behind_wire}
use Rattle.ci_vread.proofs.ReadModules.{behind_ports}
use Rattle.ci_vread.proofs.SpeltSimples.{Good, good_token, good_end, good_phrase, good_made}
use Rattle.ci_vread.proofs.SpeltTerms.{cut}
use Rattle.ci_vread.proofs.SpeltSides.{side_goes_well}

-- fixed tokens
tokens_go_well : {symbols rest : List Placed} {tokens : List Token} {seen : Seen} {due : List Part} → Begins symbols tokens rest → Good seen due rest
    → Good seen (map (λ t. reads (this_token t)) tokens ++ due) symbols
tokens_go_well none g = g
tokens_go_well (more a) g = good_token (that_token _) tt (tokens_go_well a g)

-- a right side and the `;` behind it
closed_side_goes_well :
    {symbols rest : List Placed} {tokens : List Token} {value : Expr} (base : Seen) (due : List Part) → IsTable base.known
    → SpellsExpr tokens value → IsExpr base.known value base.due → Begins symbols (tokens ++ (sign Semicolon ∷ [])) rest → Good (clean base) due rest
    → Good (clean base) (made side ∷ the Semicolon ∷ due) symbols
closed_side_goes_well {rest = rest} {tokens = tokens} base due table spelled is_expr a g =
    let s = cut tokens a in
    by s.middle s.first s.second
  where
    by : {symbols : List Placed} (middle : List Placed) → Begins symbols tokens middle → Begins middle (sign Semicolon ∷ []) rest
        → Good (clean base) (made side ∷ the Semicolon ∷ due) symbols
    by _ first (more none) = side_goes_well base table (the Semicolon ∷ due) spelled is_expr first (good_token (that_token _) tt g)

-- ---- wires

wire_goes_well :
    {symbols rest : List Placed} {tokens : List Token} (base : Seen) (w : Wire) (due : List Part) → IsTable base.known
    → SpellsWire base.wide tokens w → IsWire base.known w → length base.known < most_names base.wide → Begins symbols tokens rest
    → Good (behind_wire base w) (made wires ∷ due) rest → Good (clean base) (made wires ∷ due) symbols
wire_goes_well {rest = rest} base w due table (some_wire high is_width free spelled) is few
    (more (more (more (more (more (more (more (more (more (more (more a))))))))))) g =
    let new = unknown_if base.known w.name is.is_new in
    let declared : Seen = record base { due = high + 1; declared = w.name } in
    good_made wires (good_token (that_token _) tt (good_token (that_token _) tt
    (good_token (a_high high) (lt-ltb _ _ (let m = is.most in omega (arith, is_width, m)), tt)
    (good_token (that_token _) tt (good_token (that_token _) tt (good_token (that_token _) tt
    (good_token (a_name w.name) (not_false _ free, (rw new refl, (lt-ltb _ _ few, tt))) (good_token (that_token _) tt (good_token (that_token _) tt
    (good_token (a_target w.name) (same_itself w.name, tt) (good_token (that_token _) tt
    (closed_side_goes_well declared (ends of_wire ∷ made wires ∷ due) table spelled (subst (IsExpr base.known w.value) is_width is.value) a
    (good_end of_wire (λ last. tt)
    (subst (λ n. Good (record (clean base) { known = base.known ++ vector w.name n ∷ []; declared = w.name; due = n })
    (made wires ∷ due) rest) is_width g))))))))))))))

wires_go_well :
    {symbols rest : List Placed} {tokens : List Token} {place : ℕ} (base : Seen) (ws : List Wire) (due : List Part) → IsTable base.known
    → SpellsWires base.wide tokens ws → AreWires base.known ws → length base.known + length ws ≤ most_names base.wide
    → Begins symbols tokens (at place (token (sign AssignWord)) ∷ rest)
    → ((declared : List ℕ) (n : ℕ)
    → Good (clean (record base { known = base.known ++ map declared_by ws; declared = declared; due = n })) due (at place (token (sign AssignWord)) ∷ rest))
    → Good (clean base) (made wires ∷ due) symbols
wires_go_well {rest = rest} {place = p} base _ due table no_wires are few none g =
    good_made wires
    (subst (λ known. Good (clean (record base { known = known })) due (at p (token (sign AssignWord)) ∷ rest)) (append-nil base.known)
    (g base.declared base.due))
wires_go_well {symbols = symbols} {rest = rest} {place = p} base _ due table
    (more_wires {tokens = tokens} {others = later} {w = w} {wires = ws} spelled others) are few a g =
    let s = cut tokens a in
    let grown : length (base.known ++ declared_by w ∷ []) ≡ length base.known + 1 = length-append base.known (declared_by w ∷ []) in
    let longer = append_assoc base.known (declared_by w ∷ []) (map declared_by ws) in
    wire_goes_well base w due table spelled are.0 (omega (arith, few)) s.first
    (wires_go_well {symbols = s.middle} {tokens = later} (behind_wire base w) ws due (one_more_name base.known w table are.0) others are.1
    (omega (arith, grown, few)) s.second
    (λ d n. subst (λ known. Good (clean (record base { known = known; declared = d; due = n })) due (at p (token (sign AssignWord)) ∷ rest)) (sym longer)
    (g d n)))

-- ---- modules

result_goes_well :
    {symbols rest : List Placed} {tokens : List Token} {value : Expr} (t : Token) (base : Seen) (due : List Part) → IsTable base.known
    → SpellsExpr tokens value → IsExpr base.known value base.due → Begins symbols (result t tokens) rest → Good (clean base) due rest
    → Good (clean base) (the AssignWord ∷ reads (this_token t) ∷ the Equals ∷ made side ∷ the Semicolon ∷ due) symbols
result_goes_well t base due table spelled is_expr (more (more (more a))) g =
    good_token (that_token _) tt (good_token (that_token _) tt (good_token (that_token _) tt (closed_side_goes_well base due table spelled is_expr a g)))

-- the result x, where a module has it
third_goes_well :
    {wide : Bool} {symbols rest : List Placed} {tokens : List Token} {value : Expr} (base : Seen) (due : List Part) → IsTable base.known
    → SpellsThird wide tokens value → IsExpr base.known value base.due → Begins symbols tokens rest → Good (clean base) due rest
    → Good (clean base) (third wide ++ due) symbols
third_goes_well base due table no_third is_expr none g = g
third_goes_well base due table (some_third spelled) is_expr a g = result_goes_well name_x base due table spelled is_expr a g

-- behind a module's name, or its first three inputs in a wide one
abbrev named : Bool → Seen → Seen
named wide base = record base { modules = base.modules + 1; wide = wide; known = inputs wide }

-- the ports behind the first three inputs
ports_go_well :
    (wide : Bool) {symbols rest : List Placed} (base : Seen) (due : List Part) → Begins symbols (other_ports wide) rest
    → Good (clean (named wide base)) (behind_ports wide due) rest → Good (clean (named false base)) (made body ∷ due) symbols
ports_go_well true base due (more b) g = good_made body (good_end of_three (λ last. tt) (tokens_go_well {tokens = other_ports true} (more b) g))
ports_go_well false base due (more b) g = good_made body (tokens_go_well {tokens = other_ports false} (more b) g)

-- a module goes on well behind any that were before, whatever else is seen
module_goes_well :
    {symbols rest : List Placed} {tokens : List Token} (base : Seen) (m : Module) (due : List Part)
    → SpellsModule tokens m → IsModule m → m.number ≡ base.modules → base.modules < 32 → Begins symbols tokens rest
    → ((after : Seen) → after.modules ≡ suc base.modules → Good (clean after) due rest) → Good (clean base) (unit ++ due) symbols
module_goes_well {rest = rest} base m due
    (some_module {wires = ws} {first = first} {second = second} {third = last} ws_spelled y_spelled z_spelled x_spelled) is_module number_is below
    (more (more (more a))) g =
    let named_so : same (module_name m.number) (module_name base.modules) ≡ true =
    subst (λ k. same (module_name m.number) (module_name k) ≡ true) number_is (same_itself (module_name m.number)) in
    let header = cut first_ports a in
    let others = cut (other_ports m.wires.wide) header.second in
    let inside = cut ws others.second in
    good_token (some_cycles m.cycles) tt (good_token (that_token _) tt
    (good_token (a_module (module_name m.number)) (rw (named_so, lt-ltb _ _ below) refl, tt)
    (tokens_go_well {tokens = first_ports} header.first
    (ports_go_well m.wires.wide base due others.first (by inside.middle inside.first inside.second)))))
  where
    seen : Seen
    seen = named m.wires.wide base

    behind : List Token
    behind = result (sign NameY) first ++ (result (sign NameZ) second ++ (last ++ (sign EndModuleWord ∷ [])))

    known_is : IsTable (inputs m.wires.wide ++ map declared_by m.wires.list)
    known_is = all_names (inputs m.wires.wide) m.wires.list (inputs_are m.wires.wide) is_module.are_wires

    results : {symbols : List Placed} (d : List ℕ) → Begins symbols behind rest
        → Good (clean (record seen { known = inputs m.wires.wide ++ map declared_by m.wires.list; declared = d; due = 32 }))
        (the AssignWord ∷ the NameY ∷ the Equals ∷ made side ∷ the Semicolon
        ∷ the AssignWord ∷ the NameZ ∷ the Equals ∷ made side ∷ the Semicolon ∷ (third m.wires.wide ++ (the EndModuleWord ∷ due))) symbols
    results d b =
        let after : Seen = record seen { known = inputs m.wires.wide ++ map declared_by m.wires.list; declared = d; due = 32 } in
        let y = cut (result (sign NameY) first) b in
        let z = cut (result (sign NameZ) second) y.second in
        let x = cut last z.second in
        result_goes_well (sign NameY) after _ known_is y_spelled is_module.y y.first
        (result_goes_well (sign NameZ) after (third m.wires.wide ++ (the EndModuleWord ∷ due)) known_is z_spelled is_module.z z.first
        (third_goes_well after (the EndModuleWord ∷ due) known_is x_spelled is_module.x x.first
        (tokens_go_well {tokens = sign EndModuleWord ∷ []} x.second (g after (add-one base.modules)))))

    by : {symbols : List Placed} (middle : List Placed) → Begins symbols ws middle
        → Begins middle behind rest → Good (clean seen) (behind_ports m.wires.wide due) symbols
    by _ f (more b) =
        wires_go_well seen m.wires.list _ (inputs_are m.wires.wide) ws_spelled is_module.are_wires (let w = is_module.few in omega (arith, w)) f
        (λ d n. good_end of_wires (λ last. tt) (results d (more b)))

-- ---- texts

-- the symbols of the first tokens, and those behind them
record AreCutTokens (symbols : List Placed) (left right : List Token) : Type 0 where
  rest : List Placed
  begins : Begins symbols left rest
  rest_are : AreTokens rest right

cut_tokens : (left right : List Token) (symbols : List Placed) → AreTokens symbols (left ++ right) → AreCutTokens symbols left right
cut_tokens [] right symbols a = record { rest = symbols; begins = none; rest_are = a }
cut_tokens (t ∷ left) right _ (more_tokens {symbols = symbols} a) =
    let o = cut_tokens left right symbols a in record { rest = o.rest; begins = more o.begins; rest_are = o.rest_are }

modules_go_well :
    {k : ℕ} {tokens : List Token} {modules : List Module} {symbols : List Placed} (base : Seen) → base.modules ≡ k → SpellsModules k tokens modules
    → AreTokens symbols tokens → Good (clean base) (made units ∷ []) symbols
modules_go_well base is_k no_modules at_end =
    good_phrase units (λ e n. elim n [ ]) (λ last. record { events = []; goes = all_read; kept = tt })
modules_go_well {symbols = symbols} base is_k (more_modules {tokens = tokens} {others = others} {m = m} number_is below is_module spelled later) a =
    let c = cut_tokens tokens others symbols a in
    opens c.begins spelled (λ after e. modules_go_well after (e ∙ ap (λ n. suc n) is_k) later c.rest_are)
  where
    opens : {symbols rest : List Placed} {tokens : List Token} → Begins symbols tokens rest → SpellsModule tokens m
        → ((after : Seen) → after.modules ≡ suc base.modules → Good (clean after) (made units ∷ []) rest) → Good (clean base) (made units ∷ []) symbols
    opens none nothing_ g = elim nothing_ [ ]
    opens (more a) (some_module ws first second last) g =
        good_made units
        (module_goes_well base m (made units ∷ []) (some_module ws first second last) is_module (number_is ∙ sym is_k) (subst (λ n. n < 32) (sym is_k) below)
        (more a) g)

-- ---- the law: a text that spells modules keeps its rules

pub spelled_keeps : (text : List ℕ) (modules : List Module) → Spell text modules → KeepsRules text
spelled_keeps text modules s =
    let g = modules_go_well nothing refl s.spelled s.are_tokens 0 in (
      rules_from nothing g.events ++ [],
      record {
        symbols = s.symbols;
        events = g.events;
        finish = whole;
        are_symbols = s.are_symbols;
        goes = g.goes;
        rules_are = refl;
      },
      subst AreKept (sym (append-nil (rules_from nothing g.events))) g.kept,
    )
