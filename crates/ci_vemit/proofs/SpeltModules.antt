-- The text of modules spells them.
use Rattle.std.proofs.Common.{◌≡◌, ℕ, suc, ◌-◌, ◌<◌, ◌≤◌, Bool, true, false, ◌&&◌, ◌||◌, Contains, sym, List, [], ◌∷◌, ◌++◌, map, refl, subst}
use Rattle.std.proofs.Common.{arith, append-nil, lit≤}
use Rattle.std.specs.Prelude.{codes}
use Rattle.std.specs.List.{AllByRecursion, flat_map}
use Rattle.std.specs.Fmt.{digits}
use Rattle.ci_reading.specs.Tokens.{token, text_end, at, AreSymbols, behind_blank, behind_token, at_end, at_comment, at_stray_byte, Stands}
use Rattle.ci_reading.specs.WrittenTokens.{IsWritten, nothing}
use Rattle.std.proofs.lemmas.List.Elements.{Contains-append_left}
use Rattle.ci_reading.proofs.BrokenLaws.{kept_append}
use Rattle.ci_reading.proofs.TokenLaws.{written_tokens}
use Rattle.ci_verilog.specs.declared.expressions.Expr.{Expr}
use Rattle.ci_verilog.specs.declared.expressions.Wire.{Wire}
use Rattle.ci_verilog.specs.Modules.{Known, vector, inputs, declared_by, IsWire, IsNew, AreWires, IsFree, AreFree, Module}
use Rattle.ci_verilog.specs.Modules as modules
use Rattle.ci_vread.specs.declared.tokens.Sign.{Sign}
use Rattle.ci_vread.specs.declared.tokens.Sign.TheVariants.{ModuleWord, InputWord, OutputWord, WireWord, AssignWord, EndModuleWord, NameA, NameB, NameC, NameY}
use Rattle.ci_vread.specs.declared.tokens.Sign.TheVariants.{NameZ, Opening, Closing, LeftBracket, RightBracket, Comma, Semicolon, Colon, Equals}
use Rattle.ci_vread.specs.Lexicon.{Token, sign, name, number, spelling, Spells, of_sign, unit_format}
use Rattle.ci_vread.specs.Grammar.{Placed, first_ports, other_ports}
use Rattle.ci_vread.specs.Rules as lexis
use Rattle.ci_vread.specs.Spelling.{SpellsWire, some_wire, SpellsWires, no_wires, more_wires, module_name, SpellsModule, some_module, SpellsModules, no_modules}
use Rattle.ci_vread.specs.Spelling.{SpellsExpr, SpellsThird, no_third, some_third, more_modules, AreTokens, more_tokens, Spell}
use Rattle.ci_vread.proofs.NameLaws.{same_is}
use Rattle.ci_vemit.specs.Texts.{expr_text, assign_text, wire_text, header_text, ports_text, cycles_text, third_text, end_text, module_text, text_of}
use Rattle.ci_vemit.specs.Texts.{IsName, IsSpellable}
use Rattle.ci_vemit.specs.Texts.{AreSpellable}
use Rattle.ci_vemit.proofs.TokenBytes.{is_word}
use Rattle.ci_vemit.proofs.WrittenPhrases.{stands_apart, Written, none, lone, word, mark, blank, phrase, Lines, no_lines, one_line, then, number_word}
use Rattle.ci_vemit.proofs.WrittenPhrases.{number_spelt, cycles_line}
use Rattle.ci_vemit.proofs.NameLaws.{module_name_is}
use Rattle.ci_vemit.proofs.SpeltExpressions.{IsUsable, IsSpelt, name_word, name_spelt, name_d_is, name_e_is, name_x_is, inputs_usable, wire_usable, expr_spelt}

-- ---- wires

zero_spelt : Spells (48 ∷ []) (number 0)
unfolding digits
zero_spelt = number_spelt 0 (lit≤ tt)

highest_spelt : Spells (51 ∷ 49 ∷ []) (number 31)
unfolding digits
highest_spelt = number_spelt 31 (lit≤ tt)

-- the lines are written by tokens that spell something
record AreSpelt (text : List ℕ) (Spell : List Token → Type 0) : Type 0 where
  tokens : List Token
  lines : Lines text tokens
  spells : Spell tokens

assigned : {bytes : List ℕ} {t : Token} {tokens : List Token} (value : Expr) → Spells bytes t → is_word bytes ≡ true
    → Written (expr_text value) tokens → Lines (assign_text bytes value) (sign AssignWord ∷ t ∷ sign Equals ∷ tokens ++ (sign Semicolon ∷ []))
unfolding assign_text
assigned value spelt is written =
    one_line (word (of_sign AssignWord) refl refl (blank (word spelt is refl (blank (mark Equals 61 refl refl
    (blank (phrase written refl (mark Semicolon 59 refl refl none))))))))

-- the inputs of the module are known
abbrev HasInputs : Bool → List Known → Type 0
HasInputs wide known = (k : Known) → Contains (inputs wide) k → Contains known k

none_of : (a b c : Bool) → ¬ (a ≡ true) → ¬ (b ≡ true) → ¬ (c ≡ true) → (true && (a || (b || c))) ≡ false
none_of true b c no_a no_b no_c = absurd (no_a refl)
none_of false true c no_a no_b no_c = absurd (no_b refl)
none_of false false true no_a no_b no_c = absurd (no_c refl)
none_of false false false no_a no_b no_c = refl

no_input : (known : List Known) (bytes input : List ℕ) → IsNew known bytes → Contains known (vector input 32) → ¬ (lexis.same bytes input ≡ true)
no_input known bytes input new there is =
    new 32 (subst (λ b. Contains known (vector b 32)) (sym (same_is bytes input is)) there)

-- in a wide module a new wire that may be named so has the name of no port
no_port : (wide : Bool) (known : List Known) → HasInputs wide known → (bytes : List ℕ) → IsNew known bytes → IsFree wide bytes
    → lexis.is_word wide bytes ≡ false
no_port false known has bytes new free = refl
no_port true known has bytes new free =
    none_of (lexis.same bytes (codes "d")) (lexis.same bytes (codes "e")) (lexis.same bytes (codes "x"))
    (no_input known bytes (codes "d") new (has (vector (codes "d") 32) (3, omega arith, refl)))
    (no_input known bytes (codes "e") new (has (vector (codes "e") 32) (4, omega arith, refl)))
    (λ is. free refl (same_is bytes (codes "x") is))

wire_spelt : (wide : Bool) (known : List Known) → AllByRecursion IsUsable known → HasInputs wide known → (w : Wire) → IsName w.name
    → IsWire known w → IsFree wide w.name → AreSpelt (wire_text w) (λ k. SpellsWire wide k w)
unfolding wire_text assign_text
wire_spelt wide known usable has w is kept free =
    let high = w.width - 1 in
    let small : high ≤ 9999999 = omega (arith, kept.most) in
    let value = expr_spelt known usable w.value w.width kept.value in
    let declared = one_line (word (of_sign WireWord) refl refl (blank (mark LeftBracket 91 refl refl
    (word (number_spelt high small) (number_word high small) refl
    (mark Colon 58 refl refl (word zero_spelt refl refl (mark RightBracket 93 refl refl
    (blank (word (name_spelt w.name is) (name_word w.name is) refl (mark Semicolon 59 refl refl none)))))))))) in
    record {
      tokens = _;
      lines = then declared (assigned w.value (name_spelt w.name is) (name_word w.name is) value.written);
      spells = some_wire high (omega (arith, kept.least)) (no_port wide known has w.name kept.is_new free) value.spells;
    }

wires_spelt : (wide : Bool) (known : List Known) → AllByRecursion IsUsable known → HasInputs wide known → (wires : List Wire)
    → AllByRecursion (λ w. IsName w.name) wires → AreWires known wires → AreFree wide wires
    → AreSpelt (flat_map wire_text wires) (λ k. SpellsWires wide k wires)
wires_spelt wide known usable has [] names are free = record { tokens = []; lines = no_lines; spells = no_wires }
wires_spelt wide known usable has (w ∷ wires) names are free =
    let first = wire_spelt wide known usable has w names.0 are.0 free.0 in
    let more = kept_append IsUsable known (declared_by w ∷ []) usable (wire_usable known w names.0 are.0, tt) in
    let others =
    wires_spelt wide (known ++ declared_by w ∷ []) more (λ k is. Contains-append_left known (declared_by w ∷ []) k (has k is)) wires
    names.1 are.1 free.1 in
    record {
      tokens = first.tokens ++ others.tokens;
      lines = then first.lines others.lines;
      spells = more_wires first.spells others.spells;
    }

declared_usable : (known : List Known) (wires : List Wire) → AllByRecursion (λ w. IsName w.name) wires → AreWires known wires
    → AllByRecursion IsUsable (map declared_by wires)
declared_usable known [] names are = tt
declared_usable known (w ∷ wires) names are =
    (wire_usable known w names.0 are.0, declared_usable (known ++ declared_by w ∷ []) wires names.1 are.1)

-- ---- modules

port : {text bytes : List ℕ} {t : Token} {tokens : List Token} (kind : Sign) → Spells bytes t → is_word (spelling kind) ≡ true → is_word bytes ≡ true
    → stands_apart text ≡ true → Written text tokens
    → Written (spelling kind ++ (codes " [31:0] " ++ (bytes ++ text)))
    (sign kind ∷ sign LeftBracket ∷ number 31 ∷ sign Colon ∷ number 0 ∷ sign RightBracket ∷ t ∷ tokens)
port kind spelt is also apart written =
    word (of_sign kind) is refl (blank (mark LeftBracket 91 refl refl (word highest_spelt refl refl (mark Colon 58 refl refl
    (word zero_spelt refl refl (mark RightBracket 93 refl refl (blank (word spelt also apart written))))))))

-- a port, a comma and what follows
port_and : {text bytes : List ℕ} {t : Token} {tokens : List Token} (kind : Sign) → Spells bytes t → is_word (spelling kind) ≡ true → is_word bytes ≡ true
    → Written text tokens
    → Written (spelling kind ++ (codes " [31:0] " ++ (bytes ++ (44 ∷ 32 ∷ text))))
    (sign kind ∷ sign LeftBracket ∷ number 31 ∷ sign Colon ∷ number 0 ∷ sign RightBracket ∷ t ∷ sign Comma ∷ tokens)
port_and kind spelt is also written = port kind spelt is also refl (mark Comma 44 refl refl (blank written))

ports : (wide : Bool) → Written (ports_text wide) (first_ports ++ other_ports wide)
unfolding ports_text
ports false =
    mark Opening 40 refl refl (port_and InputWord (of_sign NameA) refl refl (port_and InputWord (of_sign NameB) refl refl
    (port_and InputWord (of_sign NameC) refl refl (port_and OutputWord (of_sign NameY) refl refl
    (port OutputWord (of_sign NameZ) refl refl refl (mark Closing 41 refl refl (mark Semicolon 59 refl refl none)))))))
ports true =
    mark Opening 40 refl refl (port_and InputWord (of_sign NameA) refl refl (port_and InputWord (of_sign NameB) refl refl
    (port_and InputWord (of_sign NameC) refl refl (port_and InputWord (name_spelt (codes "d") name_d_is) refl refl
    (port_and InputWord (name_spelt (codes "e") name_e_is) refl refl (port_and OutputWord (of_sign NameY) refl refl
    (port_and OutputWord (of_sign NameZ) refl refl
    (port OutputWord (name_spelt (codes "x") name_x_is) refl refl refl (mark Closing 41 refl refl (mark Semicolon 59 refl refl none))))))))))

ports_apart : (wide : Bool) → stands_apart (ports_text wide) ≡ true
unfolding ports_text
ports_apart false = refl
ports_apart true = refl

header : (wide : Bool) (k : ℕ) → k < 32
    → Lines (header_text wide k) (sign ModuleWord ∷ name (module_name k) ∷ first_ports ++ other_ports wide)
unfolding header_text
header wide k below =
    let is = module_name_is k below in
    one_line (word (of_sign ModuleWord) refl refl (blank (word (name_spelt (module_name k) is) (name_word (module_name k) is) (ports_apart wide) (ports wide))))

third_spelt : (wide : Bool) (x : Expr) → (wide ≡ false → x ≡ modules.nothing) → IsSpelt (expr_text x) (λ k. SpellsExpr k x)
    → AreSpelt (third_text wide x) (λ tokens. SpellsThird wide tokens x)
unfolding third_text
third_spelt false x narrow spelt =
    record { tokens = []; lines = no_lines; spells = subst (λ e. SpellsThird false [] e) (sym (narrow refl)) no_third }
third_spelt true x narrow spelt =
    record { tokens = _; lines = assigned x (name_spelt (codes "x") name_x_is) refl spelt.written; spells = some_third spelt.spells }

module_spelt : (k : ℕ) (m : Module) → IsSpellable k m → AreSpelt (module_text m) (λ tokens. SpellsModule tokens m)
unfolding module_text cycles_text end_text
module_spelt k m is =
    let kept = is.is_module in
    let wide = m.wires.wide in
    let below : m.number < 32 = omega (arith, is.number_is, is.below) in
    let names = map declared_by m.wires.list in
    let wires = wires_spelt wide (inputs wide) (inputs_usable wide) (λ k has. has) m.wires.list is.names kept.are_wires kept.are_free in
    let usable =
    kept_append IsUsable (inputs wide) names (inputs_usable wide) (declared_usable (inputs wide) m.wires.list is.names kept.are_wires) in
    let y = expr_spelt (inputs wide ++ names) usable m.y 32 kept.y in
    let z = expr_spelt (inputs wide ++ names) usable m.z 32 kept.z in
    let x = third_spelt wide m.x kept.narrow (expr_spelt (inputs wide ++ names) usable m.x 32 kept.x) in
    record {
      tokens = _;
      lines = then (cycles_line m.cycles is.few_cycles) (then (header wide m.number below) (then wires.lines
          (then (assigned m.y (of_sign NameY) refl y.written) (then (assigned m.z (of_sign NameZ) refl z.written)
          (then x.lines (one_line (lone (of_sign EndModuleWord) refl)))))));
      spells = some_module wires.spells y.spells z.spells x.spells;
    }

modules_spelt : (k : ℕ) (modules : List Module) → AreSpellable k modules
    → AreSpelt (text_of modules) (λ tokens. SpellsModules k tokens modules)
modules_spelt k [] are = record { tokens = []; lines = no_lines; spells = no_modules }
modules_spelt k (m ∷ modules) are =
    let first = module_spelt k m are.0 in
    let others = modules_spelt (suc k) modules are.1 in
    record {
      tokens = first.tokens ++ others.tokens;
      lines = then first.lines others.lines;
      spells = more_modules are.0.number_is are.0.below are.0.is_module first.spells others.spells;
    }

-- ---- the text

-- where the end stands behind the tokens, these are all
all_tokens : {n : ℕ} {text : List ℕ} {symbols : List Placed} → AreSymbols unit_format n text symbols
    → (tokens : List Token) (place : ℕ) → Stands symbols tokens text_end place → AreTokens symbols tokens
all_tokens (behind_blank is_blank more) tokens place stand = all_tokens more tokens place stand
all_tokens (behind_token longest more) [] place stand = let e = stand.0 in absurd (cc)
all_tokens (behind_token {n} {t = t} {symbols = symbols} longest more) (u ∷ tokens) place stand =
    let e = stand.0 in
    let same : t ≡ u = cc in
    subst (λ v. AreTokens (at n (token t) ∷ symbols) (v ∷ tokens)) same (more_tokens (all_tokens more tokens place stand.1))
all_tokens at_end [] place stand = AreTokens.at_end
all_tokens at_end (u ∷ tokens) place stand = let e = stand.0 in absurd (cc)
all_tokens (at_comment begins) tokens place stand = absurd begins
all_tokens (at_stray_byte solid inside no_token) [] place stand = let e = stand.0 in absurd (cc)
all_tokens (at_stray_byte solid inside no_token) (u ∷ tokens) place stand = let e = stand.0 in absurd (cc)

pub spelt : (modules : List Module) → AreSpellable 0 modules → Spell (text_of modules) modules
spelt modules are =
    let s = modules_spelt 0 modules are in
    let written = s.lines.before [] [] nothing in
    let whole = subst (λ t. IsWritten unit_format t s.tokens) (append-nil (text_of modules))
    (subst (IsWritten unit_format (text_of modules ++ [])) (append-nil s.tokens) written) in
    let h = written_tokens unit_format whole 0 in
    record {
      symbols = h.symbols;
      tokens = s.tokens;
      are_symbols = h.are;
      are_tokens = all_tokens h.are s.tokens _ h.stand;
      spelled = s.spells;
    }
