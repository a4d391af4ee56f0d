-- What the reader needs of its three passes: the tokens of the code stand for the text's symbols, and where the checker
-- tells no fault, the tokens and the text spell modules.
use Rattle.std.proofs.Common.{List, map, Option, None, sym, ap, subst, ◌≡◌, ◌∙◌, ℕ}
use Rattle.ci_reading.specs.Tokens.{AreSymbols}
use Rattle.ci_reading.specs.Lexers.{symbols_of}
use Rattle.ci_verilog.specs.Modules.{Module}
use Rattle.ci_vread.specs.declared.checking.Fault.{Fault}
use Rattle.ci_vread.specs.declared.tokens.Token.{Token}
use Rattle.ci_vread.specs.Lexicon.{unit_format}
use Rattle.ci_vread.specs.private.Scanned.{placed_of}
use Rattle.ci_vread.specs.private.Scanning.{unit_lexer}
use Rattle.ci_vread.specs.Spelling.{Spell}
use Rattle.ci_vread.specs.private.Led.{IsAnswer}
use Rattle.ci_vread.specs.private.Building.{AreBuilt}
use Rattle.ci_vread.proofs.LongestTokens.{are_symbols}
use Rattle.ci_vread.proofs.OneSpelling.{kept_built}

module _ (text : List ℕ) (tokens : List Token) (scanned : map (placed_of text) tokens ≡ symbols_of unit_lexer text) where
  pub are_placed : (passed : List Token) → passed ≡ tokens → AreSymbols unit_format 0 text (map (placed_of text) passed)
  are_placed passed same =
      subst (AreSymbols unit_format 0 text) (sym (ap (map (placed_of text)) same ∙ scanned)) (are_symbols text)

  pub spelled : (passed : List Token) → passed ≡ tokens → (fault : Option Fault) → fault ≡ None → IsAnswer text fault
      → (modules : List Module) × AreBuilt text passed modules × Spell text modules
  spelled passed same fault none is =
      kept_built text passed (ap (map (placed_of text)) same ∙ scanned) (subst (IsAnswer text) none is)
