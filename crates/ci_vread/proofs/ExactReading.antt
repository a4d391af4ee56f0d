-- Where tokens spell something, just that is read off them, whatever follows.
use Rattle.std.proofs.Common.{◌≡◌, ℕ, zero, suc, ◌+◌, ◌<◌, ◌≤◌, ◌%◌, true, false, List, [], ◌∷◌, ◌++◌, drop, length, refl, sym, ap, ◌∙◌, append_assoc, add-one}
use Rattle.std.proofs.Common.{arith, Bool}
use Rattle.std.specs.List.{AllByRecursion}
use Rattle.std.proofs.lemmas.Bool.{cond-false}
use Rattle.ci_verilog.specs.declared.expressions.Simple.{Simple}
use Rattle.ci_verilog.specs.declared.expressions.Simple.TheVariants.{Bits, Number}
use Rattle.ci_verilog.specs.declared.expressions.Item.{Item}
use Rattle.ci_verilog.specs.declared.expressions.Item.TheVariants as of_item
use Rattle.ci_verilog.specs.declared.expressions.Term.{Term}
use Rattle.ci_verilog.specs.declared.expressions.Term.TheVariants as of_term
use Rattle.ci_verilog.specs.declared.expressions.Expr.{Expr}
use Rattle.ci_verilog.specs.declared.expressions.Expr.TheVariants.{Two, Choose}
use Rattle.ci_verilog.specs.declared.expressions.Wire.{Wire}
use Rattle.ci_verilog.specs.Modules.{Module}
use Rattle.ci_vread.specs.declared.tokens.Sign.TheVariants.{NameY, NameZ, EndModuleWord, LeftBracket, RightBracket, LeftBrace, RightBrace, Comma, Semicolon}
use Rattle.ci_vread.specs.declared.tokens.Sign.TheVariants.{Colon, Question}
use Rattle.ci_vread.specs.Lexicon.{Token, sign, operator, number}
use Rattle.ci_vread.specs.Grammar.{Fits, its_use, a_use, input_a, input_b, input_c, name_x, other_ports}
use Rattle.ci_vread.specs.Rules.{bytes_of}
use Rattle.ci_vread.specs.Spelling as spelling
use Rattle.ci_vread.specs.Spelling.{SpellsSimple, whole_name, one_bit, some_bits, some_constant, SpellsItem, SpellsItems, last, more, SpellsTerm}
use Rattle.ci_vread.specs.Spelling.{SpellsExpr, SpellsWire, some_wire, SpellsWires, no_wires, more_wires, SpellsModule, some_module, SpellsModules, no_modules}
use Rattle.ci_vread.specs.Spelling.{more_modules, result, SpellsThird, no_third, some_third}
use Rattle.ci_vread.specs.private.Building.{front, is_sign, is_number, is_cycles, number_in, cycles_in, operator_in, constant_in, name_in, begins_item, begins_wire}
use Rattle.ci_vread.specs.private.Building.{begins_module, low_of, bits_of, named_by, simple_of, repeated_of, item_of, many, items_of, inside_of}
use Rattle.ci_vread.specs.private.Building.{term_of, others_of, expr_of, wire_of, wires_of, result_of, third_of, is_wide}
use Rattle.ci_vread.specs.private.Building.{ports_behind, module_by, module_of, modules_of}
use Rattle.ci_vread.proofs.ManyTokens.{one_more, no_more}
use Rattle.ci_vread.proofs.SmallNumbers.{SmallSimple, SmallItem, SmallTerm, SmallExpr, SmallWire, SmallModule, small_module}

small_number : (n : ℕ) → n < 128 → n % 128 ≡ n
small_number n h = omega arith

-- ---- simples

named_first : (t : Token) (rest : List Token) → Fits its_use t
    → simple_of (t ∷ rest) ≡ named_by (is_sign LeftBracket (front rest)) (bytes_of t) rest
unfolding simple_of constant_in name_in
named_first _ rest (a_use bytes) = refl
named_first _ rest input_a = refl
named_first _ rest input_b = refl
named_first _ rest input_c = refl

simple_exact : {tokens : List Token} {s : Simple} (rest : List Token) → SpellsSimple tokens s → SmallSimple s
    → is_sign LeftBracket (front rest) ≡ false → simple_of (tokens ++ rest) ≡ (s, rest)
unfolding simple_of bits_of low_of constant_in number_in is_sign
simple_exact rest (whole_name {t} fits) small free = named_first t rest fits ∙ ap (λ b. named_by b (bytes_of t) rest) free
simple_exact rest (one_bit {t} {n} fits) small free =
    named_first t (sign LeftBracket ∷ number n ∷ sign RightBracket ∷ rest) fits
    ∙ (λ i. (Bits (bytes_of t) (small_number n small.0 i) (small_number n small.0 i), rest))
simple_exact rest (some_bits {t} {high} {low} fits) small free =
    named_first t (sign LeftBracket ∷ number high ∷ sign Colon ∷ number low ∷ sign RightBracket ∷ rest) fits
    ∙ (λ i. (Bits (bytes_of t) (small_number high small.0 i) (small_number low small.1 i), rest))
simple_exact rest (some_constant {width} {value}) small free = λ i. (Number (small_number width small i) value, rest)

use_begins : (t : Token) → Fits its_use t → (is_sign LeftBrace t ≡ false) × (is_number t ≡ false)
unfolding is_sign is_number
use_begins _ (a_use bytes) = (refl, refl)
use_begins _ input_a = (refl, refl)
use_begins _ input_b = (refl, refl)
use_begins _ input_c = (refl, refl)

-- a simple begins with no brace and no number
simple_begins : {tokens : List Token} {s : Simple} (rest : List Token) → SpellsSimple tokens s
    → (is_sign LeftBrace (front (tokens ++ rest)) ≡ false) × (is_number (front (tokens ++ rest)) ≡ false)
unfolding is_sign is_number
simple_begins rest (whole_name {t} fits) = use_begins t fits
simple_begins rest (one_bit {t} {n} fits) = use_begins t fits
simple_begins rest (some_bits {t} {high} {low} fits) = use_begins t fits
simple_begins rest (some_constant {width} {value}) = (refl, refl)

repeated_exact : {tokens : List Token} {s : Simple} (count : ℕ) (rest : List Token) → SpellsSimple tokens s → SmallSimple s
    → repeated_of (number count ∷ sign LeftBrace ∷ (tokens ++ sign RightBrace ∷ sign RightBrace ∷ []) ++ rest) ≡ (s, rest)
unfolding repeated_of is_sign
repeated_exact {tokens} {s} count rest spells small =
    let behind = sign RightBrace ∷ sign RightBrace ∷ rest in
    let e : simple_of ((tokens ++ sign RightBrace ∷ sign RightBrace ∷ []) ++ rest) ≡ (s, behind) =
    ap simple_of (append_assoc tokens (sign RightBrace ∷ sign RightBrace ∷ []) rest) ∙ simple_exact behind spells small refl in
    λ i. ((e i).0, drop 2 (e i).1)

-- ---- items

pub item_exact : {tokens : List Token} {x : Item} (rest : List Token) → SpellsItem tokens x → SmallItem x
    → is_sign LeftBracket (front rest) ≡ false → item_of (tokens ++ rest) ≡ (x, rest)
unfolding item_of is_sign number_in
item_exact rest (spelling.SpellsItem.plain {tokens} {simple} spells) small free =
    cond-false (is_sign LeftBrace (front (tokens ++ rest))) _ _ (simple_begins rest spells).0
    ∙ (let e = simple_exact rest spells small free in λ i. (of_item.Plain (e i).0, (e i).1))
item_exact rest (spelling.SpellsItem.repeat {tokens} {count} {simple} spells) small free =
    let e = repeated_exact count rest spells small.1 in
    λ i. (of_item.Repeat (small_number count small.0 i) (e i).0, (e i).1)

item_begins : {tokens : List Token} {x : Item} (rest : List Token) → SpellsItem tokens x
    → is_number (front (tokens ++ rest)) ≡ false
unfolding is_number
item_begins rest (spelling.SpellsItem.plain {tokens} {simple} spells) = (simple_begins rest spells).1
item_begins rest (spelling.SpellsItem.repeat {tokens} {count} {simple} spells) = refl

items_begin : {tokens : List Token} {items : List Item} (rest : List Token) → SpellsItems tokens items
    → is_number (front (tokens ++ rest)) ≡ false
items_begin rest (last {tokens} {i} spells) = item_begins rest spells
items_begin rest (more {tokens} {others} {i} {items} spells later) =
    ap (λ ts. is_number (front ts)) (append_assoc tokens (sign Comma ∷ others) rest) ∙ item_begins (sign Comma ∷ others ++ rest) spells

some_items : {tokens : List Token} {items : List Item} → SpellsItems tokens items → 1 ≤ length items
some_items (last spells) = omega arith
some_items (more spells later) = omega arith

-- an item, and at most so many others, each behind a comma
abbrev items_from : ℕ → ℕ → List Token → List Item × List Token
items_from most k tokens =
    let i = item_of tokens in
    let others = many begins_item (λ k rest. item_of (drop 1 rest)) most k i.1 in
    (i.0 ∷ others.0, others.1)

items_exact : {tokens : List Token} {items : List Item} (most k : ℕ) (rest : List Token) → SpellsItems tokens items
    → AllByRecursion SmallItem items → length items ≤ most + 1 → is_sign LeftBracket (front rest) ≡ false
    → is_sign Comma (front rest) ≡ false → items_from most k (tokens ++ rest) ≡ (items, rest)
unfolding is_sign
items_exact most k rest (last {tokens} {i} spells) small few free no_comma =
    let e = item_exact rest spells small.0 free in
    let none = no_more begins_item (λ k rest. item_of (drop 1 rest)) most k rest no_comma in
    (λ j. (
      (e j).0 ∷ (many begins_item (λ k rest. item_of (drop 1 rest)) most k (e j).1).0,
      (many begins_item (λ k rest. item_of (drop 1 rest)) most k (e j).1).1,
    ))
    ∙ ap (λ w. (i ∷ w.0, w.1)) none
items_exact zero k rest (more {tokens} {others} {i} {items} spells later) small few free no_comma =
    absurd (omega (arith, some_items later))
items_exact (suc most) k rest (more {tokens} {others} {i} {items} spells later) small few free no_comma =
    let behind = sign Comma ∷ others ++ rest in
    let e : item_of ((tokens ++ sign Comma ∷ others) ++ rest) ≡ (i, behind) =
    ap item_of (append_assoc tokens (sign Comma ∷ others) rest) ∙ item_exact behind spells small.0 refl in
    let some = one_more begins_item (λ k rest. item_of (drop 1 rest)) most k behind refl in
    let all = items_exact most (k + 1) rest later small.1 (omega arith) free no_comma in
    (λ j. (
      (e j).0 ∷ (many begins_item (λ k rest. item_of (drop 1 rest)) (suc most) k (e j).1).0,
      (many begins_item (λ k rest. item_of (drop 1 rest)) (suc most) k (e j).1).1,
    ))
    ∙ ap (λ w. (i ∷ w.0, w.1)) (some ∙ all)

-- ---- terms and expressions

term_exact : {tokens : List Token} {t : Term} (rest : List Token) → SpellsTerm tokens t → SmallTerm t
    → is_sign LeftBracket (front rest) ≡ false → term_of (tokens ++ rest) ≡ (t, rest)
unfolding term_of inside_of items_of is_sign is_number number_in
term_exact rest (spelling.SpellsTerm.plain {tokens} {simple} spells) small free =
    cond-false (is_sign LeftBrace (front (tokens ++ rest))) _ _ (simple_begins rest spells).0
    ∙ (let e = simple_exact rest spells small free in λ i. (of_term.Plain (e i).0, (e i).1))
term_exact rest (spelling.SpellsTerm.repeat {tokens} {count} {simple} spells) small free =
    let e = repeated_exact count rest spells small.1 in
    λ i. (of_term.Repeat (small_number count small.0 i) (e i).0, (e i).1)
term_exact rest (spelling.SpellsTerm.join {tokens} {items} spells) small free =
    let inside = (tokens ++ sign RightBrace ∷ []) ++ rest in
    let e : items_from 63 1 inside ≡ (items, sign RightBrace ∷ rest) =
    ap (items_from 63 1) (append_assoc tokens (sign RightBrace ∷ []) rest)
    ∙ items_exact 63 1 (sign RightBrace ∷ rest) spells small.0 (omega (arith, small.1)) refl refl in
    cond-false (is_number (front inside)) _ _
    (ap (λ ts. is_number (front ts)) (append_assoc tokens (sign RightBrace ∷ []) rest) ∙ items_begin (sign RightBrace ∷ rest) spells)
    ∙ (λ i. (of_term.Join (e i).0, drop 1 (e i).1))

expr_exact : {tokens : List Token} {e : Expr} (rest : List Token) → SpellsExpr tokens e → SmallExpr e
    → expr_of (tokens ++ sign Semicolon ∷ rest) ≡ (e, sign Semicolon ∷ rest)
unfolding expr_of others_of is_sign operator_in
expr_exact rest (spelling.SpellsExpr.one {tokens} {t} spells) small =
    let e = term_exact (sign Semicolon ∷ rest) spells small refl in
    λ i. others_of (e i).0 (e i).1
expr_exact rest (spelling.SpellsExpr.two {left} {right} {l} {r} o spells_l spells_r) small =
    let behind = sign Semicolon ∷ rest in
    let e = ap term_of (append_assoc left (operator o ∷ right) behind)
    ∙ term_exact (operator o ∷ right ++ behind) spells_l small.0 refl in
    let f = term_exact behind spells_r small.1 refl in
    (λ i. others_of (e i).0 (e i).1) ∙ (λ i. (Two o l (f i).0, (f i).1))
expr_exact rest (spelling.SpellsExpr.choose {test} {first} {second} {t} {f} {s} spells_t spells_f spells_s) small =
    let behind = sign Semicolon ∷ rest in
    let e = ap term_of (append_assoc test (sign Question ∷ (first ++ sign Colon ∷ second)) behind)
    ∙ term_exact (sign Question ∷ (first ++ sign Colon ∷ second) ++ behind) spells_t small.0 refl in
    let g = ap term_of (append_assoc first (sign Colon ∷ second) behind)
    ∙ term_exact (sign Colon ∷ second ++ behind) spells_f small.1 refl in
    let h = term_exact behind spells_s small.2 refl in
    (λ i. others_of (e i).0 (e i).1)
    ∙ (λ i. (Choose t (g i).0 (term_of (drop 1 (g i).1)).0, (term_of (drop 1 (g i).1)).1))
    ∙ (λ i. (Choose t f (h i).0, (h i).1))

-- ---- wires

wire_exact : {wide : Bool} {tokens : List Token} {w : Wire} (rest : List Token) → SpellsWire wide tokens w → SmallWire w
    → wire_of (tokens ++ rest) ≡ (w, rest)
unfolding wire_of name_in number_in
wire_exact rest (some_wire {expr = expr} high {w = w} width free spells) small =
    let e = ap expr_of (append_assoc expr (sign Semicolon ∷ []) rest) ∙ expr_exact rest spells small.1 in
    let same : high % 128 + 1 ≡ w.width = omega (arith, width, small.0, small_number high (omega (arith, width, small.0))) in
    λ i. (record { name = w.name; width = same i; value = (e i).0 }, drop 1 (e i).1)

wire_begins : {wide : Bool} {tokens : List Token} {w : Wire} (rest : List Token) → SpellsWire wide tokens w → begins_wire (tokens ++ rest) ≡ true
unfolding is_sign
wire_begins rest (some_wire high width free spells) = refl

wires_exact : {wide : Bool} {tokens : List Token} {wires : List Wire} (most k : ℕ) (rest : List Token) → SpellsWires wide tokens wires
    → AllByRecursion SmallWire wires → length wires ≤ most → begins_wire rest ≡ false
    → many begins_wire (λ k rest. wire_of rest) most k (tokens ++ rest) ≡ (wires, rest)
wires_exact most k rest no_wires small few none = no_more begins_wire (λ k rest. wire_of rest) most k rest none
wires_exact zero k rest (more_wires {tokens = tokens} {others = others} {w = w} {wires = wires} spells later) small few none = absurd (omega arith)
wires_exact (suc most) k rest (more_wires {tokens = tokens} {others = others} {w = w} {wires = wires} spells later) small few none =
    let e = ap wire_of (append_assoc tokens others rest) ∙ wire_exact (others ++ rest) spells small.0 in
    one_more begins_wire (λ k rest. wire_of rest) most k ((tokens ++ others) ++ rest)
    (ap begins_wire (append_assoc tokens others rest) ∙ wire_begins (others ++ rest) spells)
    ∙ (λ i. (
      (e i).0 ∷ (many begins_wire (λ k rest. wire_of rest) most (k + 1) (e i).1).0,
      (many begins_wire (λ k rest. wire_of rest) most (k + 1) (e i).1).1,
    ))
    ∙ ap (λ v. (w ∷ v.0, v.1)) (wires_exact most (k + 1) rest later small.1 (omega arith) none)

all_wires : {wide : Bool} {tokens : List Token} {wires : List Wire} (rest : List Token) → SpellsWires wide tokens wires
    → AllByRecursion SmallWire wires → length wires ≤ 2048 → begins_wire rest ≡ false → wires_of (tokens ++ rest) ≡ (wires, rest)
unfolding wires_of
all_wires rest spells small few none = wires_exact 2048 0 rest spells small few none

-- ---- modules

result_exact : {tokens : List Token} {e : Expr} (s : Token) (rest : List Token) → SpellsExpr tokens e → SmallExpr e
    → result_of (result s tokens ++ rest) ≡ (e, rest)
unfolding result_of
result_exact {tokens} s rest spells small =
    let e = ap expr_of (append_assoc tokens (sign Semicolon ∷ []) rest) ∙ expr_exact rest spells small in
    λ i. ((e i).0, drop 1 (e i).1)

third_exact : {wide : Bool} {tokens : List Token} {e : Expr} (rest : List Token) → SpellsThird wide tokens e → SmallExpr e
    → third_of wide (tokens ++ rest) ≡ (e, rest)
unfolding third_of
third_exact rest no_third small = refl
third_exact rest (some_third spells) small = result_exact name_x rest spells small

wide_exact : (wide : Bool) (rest : List Token) → is_wide (other_ports wide ++ rest) ≡ wide
unfolding is_wide is_sign
wide_exact true rest = refl
wide_exact false rest = refl

ports_exact : (wide : Bool) (rest : List Token) → drop (ports_behind wide) (other_ports wide ++ rest) ≡ rest
unfolding ports_behind
ports_exact true rest = refl
ports_exact false rest = refl

-- a module behind its ports
body_exact : {wires first second third : List Token} (m : Module) (rest : List Token) → SpellsWires m.wires.wide wires m.wires.list
    → SpellsExpr first m.y → SpellsExpr second m.z → SpellsThird m.wires.wide third m.x → SmallModule m
    → module_by m.number m.cycles m.wires.wide ((wires ++ (result (sign NameY) first ++ (result (sign NameZ) second
    ++ (third ++ (sign EndModuleWord ∷ []))))) ++ rest) ≡ (m, rest)
unfolding is_sign
body_exact {wires} {first} {second} {third} m rest spells_w spells_y spells_z spells_x small =
    let end = sign EndModuleWord ∷ [] in
    let behind_z = third ++ end in
    let z_tokens = result (sign NameZ) second in
    let behind_y = z_tokens ++ behind_z in
    let y_tokens = result (sign NameY) first in
    let behind_wires = y_tokens ++ behind_y in
    let wide = m.wires.wide in
    let w : wires_of ((wires ++ behind_wires) ++ rest) ≡ (m.wires.list, behind_wires ++ rest) =
    ap wires_of (append_assoc wires behind_wires rest) ∙ all_wires (behind_wires ++ rest) spells_w small.wires small.few refl in
    let y : result_of (behind_wires ++ rest) ≡ (m.y, behind_y ++ rest) =
    ap result_of (append_assoc y_tokens behind_y rest) ∙ result_exact (sign NameY) (behind_y ++ rest) spells_y small.y in
    let z : result_of (behind_y ++ rest) ≡ (m.z, behind_z ++ rest) =
    ap result_of (append_assoc z_tokens behind_z rest) ∙ result_exact (sign NameZ) (behind_z ++ rest) spells_z small.z in
    let x : third_of wide (behind_z ++ rest) ≡ (m.x, end ++ rest) =
    ap (third_of wide) (append_assoc third end rest) ∙ third_exact (end ++ rest) spells_x small.x in
    (λ i. results_by m (w i))
    ∙ (λ i. z_by m (y i))
    ∙ (λ i. x_by m (z i))
    ∙ (λ i. (record { number = m.number; cycles = m.cycles; wires = m.wires; y = m.y; z = m.z; x = (x i).0 }, drop 1 (x i).1))
  where
    x_by : (m : Module) → Expr × List Token → Module × List Token
    x_by m z =
        let x = third_of m.wires.wide z.1 in
        (record { number = m.number; cycles = m.cycles; wires = m.wires; y = m.y; z = z.0; x = x.0 }, drop 1 x.1)

    z_by : (m : Module) → Expr × List Token → Module × List Token
    z_by m y =
        let z = result_of y.1 in
        let x = third_of m.wires.wide z.1 in
        (record { number = m.number; cycles = m.cycles; wires = m.wires; y = y.0; z = z.0; x = x.0 }, drop 1 x.1)

    results_by : (m : Module) → List Wire × List Token → Module × List Token
    results_by m w =
        let y = result_of w.1 in
        let z = result_of y.1 in
        let x = third_of m.wires.wide z.1 in (
          record {
            number = m.number;
            cycles = m.cycles;
            wires = record { wide = m.wires.wide; list = w.0 };
            y = y.0;
            z = z.0;
            x = x.0;
          },
          drop 1 x.1,
        )

module_exact : {tokens : List Token} {m : Module} (rest : List Token) → SpellsModule tokens m → SmallModule m
    → module_of m.number (tokens ++ rest) ≡ (m, rest)
unfolding module_of cycles_in
module_exact rest (some_module {wires} {first} {second} {third} {m} spells_w spells_y spells_z spells_x) small =
    let wide = m.wires.wide in
    let inside = wires ++ (result (sign NameY) first ++ (result (sign NameZ) second ++ (third ++ (sign EndModuleWord ∷ [])))) in
    let e : (other_ports wide ++ inside) ++ rest ≡ other_ports wide ++ (inside ++ rest) = append_assoc (other_ports wide) inside rest in
    let f : is_wide (other_ports wide ++ (inside ++ rest)) ≡ wide = wide_exact wide (inside ++ rest) in
    (λ i. module_by m.number m.cycles (is_wide (e i)) (drop (ports_behind (is_wide (e i))) (e i)))
    ∙ (λ i. module_by m.number m.cycles (f i) (drop (ports_behind (f i)) (other_ports wide ++ (inside ++ rest))))
    ∙ ap (module_by m.number m.cycles wide) (ports_exact wide (inside ++ rest))
    ∙ body_exact m rest spells_w spells_y spells_z spells_x small

module_begins : {tokens : List Token} {m : Module} (rest : List Token) → SpellsModule tokens m → begins_module (tokens ++ rest) ≡ true
unfolding is_cycles
module_begins rest (some_module spells_w spells_y spells_z spells_x) = refl

modules_exact : {tokens : List Token} {modules : List Module} (most k : ℕ) (rest : List Token) → SpellsModules k tokens modules
    → k + most ≡ 32 → begins_module rest ≡ false → many begins_module module_of most k (tokens ++ rest) ≡ (modules, rest)
modules_exact most k rest (no_modules) few none = no_more begins_module module_of most k rest none
modules_exact zero _ rest (more_modules {k} {tokens} {others} {m} {modules} is_k below is spells later) few none = absurd (omega arith)
modules_exact (suc most) _ rest (more_modules {k} {tokens} {others} {m} {modules} is_k below is spells later) few none =
    let e : module_of k ((tokens ++ others) ++ rest) ≡ (m, others ++ rest) =
    ap (λ n. module_of n ((tokens ++ others) ++ rest)) (sym is_k)
    ∙ ap (module_of m.number) (append_assoc tokens others rest)
    ∙ module_exact (others ++ rest) spells (small_module m is) in
    one_more begins_module module_of most k ((tokens ++ others) ++ rest)
    (ap begins_module (append_assoc tokens others rest) ∙ module_begins (others ++ rest) spells)
    ∙ (λ i. (
      (e i).0 ∷ (many begins_module module_of most (add-one k i) (e i).1).0,
      (many begins_module module_of most (add-one k i) (e i).1).1,
    ))
    ∙ ap (λ v. (m ∷ v.0, v.1)) (modules_exact most (suc k) rest later (omega arith) none)

pub all_exact : {tokens : List Token} {modules : List Module} (rest : List Token) → SpellsModules 0 tokens modules
    → begins_module rest ≡ false → modules_of (tokens ++ rest) ≡ modules
unfolding modules_of
all_exact rest spells none = ap (λ v. v.0) (modules_exact 32 0 rest spells refl none)
