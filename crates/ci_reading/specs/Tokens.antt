-- For the formats of texts that consist of tokens: which symbols a text has, and where each stands.
use Rattle.std.specs.Prelude.{◌≡◌, ℕ, ◌+◌, ◌≤◌, List, [], ◌∷◌, ◌++◌, length}

-- a format: how its tokens are spelt, which bytes may stand between them, and which begin a comment, which runs to the
-- text's end
pub record TokenFormat (T : Type 0) : Type 1 where
  pub Spells : List ℕ → T → Type 0
  pub IsBlank : ℕ → Type 0
  pub BeginsComment : ℕ → Type 0

-- what may stand at a place of a text
pub data Symbol (T : Type 0) : Type 0 where
  token : T → Symbol T
  -- a byte that begins no token
  stray_byte : Symbol T
  text_end : Symbol T

-- a symbol, and how many bytes stand before it
pub record Placed (T : Type 0) : Type 0 where
  pub symbol : Symbol T
  pub place : ℕ

abbrev pub at : {T : Type 0} → ℕ → Symbol T → Placed T
at place symbol = record { symbol = symbol; place = place }

module _ {T : Type 0} (format : TokenFormat T) where
  -- the text begins with this token, spelt by these bytes, and the rest stands behind it
  pub record BeginsWith (text : List ℕ) (t : T) (bytes rest : List ℕ) : Type 0 where
    pub spells : format.Spells bytes t
    pub is_text : text ≡ bytes ++ rest

  -- and no longer token begins there
  pub record BeginsWithLongest (text : List ℕ) (t : T) (bytes rest : List ℕ) : Type 0 where
    pub begins : BeginsWith text t bytes rest
    pub is_longest : (other : T) (others more : List ℕ) → BeginsWith text other others more
        → length others ≤ length bytes

  -- These are the symbols of a text that begins at place n: its tokens in their order, and what stands behind them. The
  -- end stands behind the text's last byte, a comment included.
  pub data AreSymbols : ℕ → List ℕ → List (Placed T) → Type 0 where
    behind_blank : {n c : ℕ} {text : List ℕ} {symbols : List (Placed T)}
        → format.IsBlank c → AreSymbols (n + 1) text symbols → AreSymbols n (c ∷ text) symbols
    behind_token : {n : ℕ} {text bytes rest : List ℕ} {t : T} {symbols : List (Placed T)}
        → BeginsWithLongest text t bytes rest → AreSymbols (n + length bytes) rest symbols
        → AreSymbols n text (at n (token t) ∷ symbols)
    at_end : {n : ℕ} → AreSymbols n [] (at n text_end ∷ [])
    at_comment : {n c : ℕ} {comment : List ℕ}
        → format.BeginsComment c → AreSymbols n (c ∷ comment) (at (n + length (c ∷ comment)) text_end ∷ [])
    at_stray_byte : {n c : ℕ} {text : List ℕ} → ¬ format.IsBlank c → ¬ format.BeginsComment c
        → ((t : T) (bytes rest : List ℕ) → ¬ BeginsWith (c ∷ text) t bytes rest)
        → AreSymbols n (c ∷ text) (at n stray_byte ∷ [])

-- of these symbols the first are these tokens, and behind them stands the symbol, at this place
abbrev pub Stands : {T : Type 0} → List (Placed T) → List T → Symbol T → ℕ → Type 0
Stands [] tokens symbol place = ⊥
Stands (first ∷ symbols) [] symbol place = (first.symbol ≡ symbol) × (first.place ≡ place)
Stands (first ∷ symbols) (t ∷ tokens) symbol place = (first.symbol ≡ token t) × Stands symbols tokens symbol place

-- in the text, the symbol stands behind these tokens, at this place
abbrev pub StandsIn : {T : Type 0} → TokenFormat T → List ℕ → List T → Symbol T → ℕ → Type 0
StandsIn {T} format text tokens symbol place =
    (symbols : List (Placed T)) × AreSymbols format 0 text symbols × Stands symbols tokens symbol place
