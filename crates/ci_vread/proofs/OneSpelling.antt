-- A text spells one list of modules, that which is read off its tokens.
use Rattle.std.proofs.Common.{◌≡◌, ℕ, false, List, [], ◌∷◌, ◌++◌, map, refl, sym, ap, ◌∙◌, subst}
use Rattle.std.specs.List.{AllByRecursion}
use Rattle.ci_verilog.specs.Modules.{Module, IsModule}
use Rattle.ci_vread.specs.declared.tokens.Token as of_code
use Rattle.ci_vread.specs.Lexicon.{Token, never}
use Rattle.ci_vread.specs.Grammar.{Placed}
use Rattle.ci_vread.specs.private.Scanned.{placed_of}
use Rattle.ci_vread.specs.Spelling.{AreTokens, at_end, more_tokens, SpellsModules, no_modules, more_modules, Spell}
use Rattle.ci_vread.specs.private.Building.{token_in, token_of, is_cycles, modules_of, AreBuilt}
use Rattle.ci_vread.specs.private.Scanning.{unit_lexer}
use Rattle.ci_vread.specs.Rules.{KeepsRules}
use Rattle.ci_vread.specs.Laws.{SpellingIsOne}
use Rattle.ci_reading.specs.Lexers.{symbols_of}
use Rattle.ci_vread.proofs.LongestTokens.{one_list, only_symbols}
use Rattle.ci_vread.proofs.ReadModules.{kept_spells}
use Rattle.ci_vread.proofs.ExactReading.{all_exact}

-- the tokens of symbols, and behind them what stands for the end
tokens_are : {symbols : List Placed} {tokens : List Token} → AreTokens symbols tokens
    → map (λ p. token_in p.symbol) symbols ≡ tokens ++ never ∷ []
tokens_are (at_end {place}) = refl
tokens_are (more_tokens {place} {t} {symbols} {tokens} are) = ap (λ ts. t ∷ ts) (tokens_are are)

placed_tokens : (text : List ℕ) (items : List of_code.Token)
    → map (λ p. token_in p.symbol) (map (placed_of text) items) ≡ map (token_of text) items
placed_tokens text [] = refl
placed_tokens text (t ∷ items) = ap (λ ts. token_of text t ∷ ts) (placed_tokens text items)

end_begins : is_cycles never ≡ false
unfolding is_cycles
end_begins = refl

read_off : {symbols : List Placed} {tokens : List Token} {modules : List Module} → AreTokens symbols tokens
    → SpellsModules 0 tokens modules → modules_of (map (λ p. token_in p.symbol) symbols) ≡ modules
read_off are spells = ap modules_of (tokens_are are) ∙ all_exact (never ∷ []) spells end_begins

pub built_is : (text : List ℕ) (items : List of_code.Token) (modules : List Module) → AreBuilt text items modules
    → modules_of (map (token_of text) items) ≡ modules
built_is text items modules built = ap modules_of (sym (placed_tokens text items)) ∙ read_off built.are_tokens built.spelled

pub all_modules : {k : ℕ} {tokens : List Token} {modules : List Module} → SpellsModules k tokens modules → AllByRecursion IsModule modules
all_modules no_modules = tt
all_modules (more_modules is_k below is spells later) = (is, all_modules later)

pub built_keeps : (text : List ℕ) (items : List of_code.Token) (modules : List Module) → AreBuilt text items modules
    → AllByRecursion IsModule (modules_of (map (token_of text) items))
built_keeps text items modules built =
    subst (AllByRecursion IsModule) (sym (built_is text items modules built)) (all_modules built.spelled)

-- ---- whole texts

pub one_spelling : SpellingIsOne
one_spelling text modules others one other =
    let same = one_list text one.symbols other.symbols one.are_symbols other.are_symbols in
    sym (read_off one.are_tokens one.spelled)
    ∙ ap (λ ss. modules_of (map (λ p. token_in p.symbol) ss)) same
    ∙ read_off other.are_tokens other.spelled

-- the tokens of a text that spells modules
pub spelled_built : (text : List ℕ) (items : List of_code.Token) (modules : List Module)
    → map (placed_of text) items ≡ symbols_of unit_lexer text → Spell text modules → AreBuilt text items modules
spelled_built text items modules same spell = record {
  tokens = spell.tokens;
  are_tokens = subst (λ ss. AreTokens ss spell.tokens) (only_symbols text spell.symbols spell.are_symbols ∙ sym same) spell.are_tokens;
  spelled = spell.spelled;
}

-- where no rule is broken the tokens spell modules
pub kept_built : (text : List ℕ) (items : List of_code.Token) → map (placed_of text) items ≡ symbols_of unit_lexer text
    → KeepsRules text → (modules : List Module) × AreBuilt text items modules × Spell text modules
kept_built text items same kept =
    let spells = kept_spells text kept in (spells.0, spelled_built text items spells.0 same spells.1, spells.1)
