-- For proofs that a text has the tokens that it is written with: texts that are written token by token.
use Rattle.std.specs.Prelude.{ℕ, List, [], ◌∷◌, ◌++◌}
use Rattle.ci_reading.specs.Tokens.{TokenFormat}

-- no token begins with these bytes and the first of the rest, so that they don't join
abbrev pub IsApart : {T : Type 0} → TokenFormat T → List ℕ → List ℕ → Type 0
IsApart format bytes [] = Unit {0}
IsApart {T} format bytes (c ∷ rest) = (more : List ℕ) (t : T) → ¬ format.Spells (bytes ++ c ∷ more) t

-- the text is these tokens, one after the other, with blanks where two would join
pub data IsWritten {T : Type 0} (format : TokenFormat T) : List ℕ → List T → Type 0 where
  nothing : IsWritten format [] []
  blank_before : {c : ℕ} {text : List ℕ} {tokens : List T}
      → format.IsBlank c → IsWritten format text tokens → IsWritten format (c ∷ text) tokens
  token_before : {bytes rest : List ℕ} {t : T} {tokens : List T} → format.Spells bytes t → IsApart format bytes rest
      → IsWritten format rest tokens → IsWritten format (bytes ++ rest) (t ∷ tokens)
