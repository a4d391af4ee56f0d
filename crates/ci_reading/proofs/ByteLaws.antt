-- Words and their bytes.
use Rattle.std.proofs.Common.{◌≡◌, ℕ, zero, suc, ◌+◌, ◌*◌, ◌/◌, ◌^◌, ◌<◌, ◌≤◌, List, [], ◌∷◌, length, refl, sym, ap, ◌∙◌, arith, get_or, Some}
use Rattle.std.specs.Prelude.{All, slice_get}
use Rattle.std.specs.Int.{to_le_bytes, from_le_bytes, w32}
use Rattle.std.proofs.lemmas.List.{get_or-append-add}
use Rattle.std.proofs.lemmas.List.Elements.{All-head, All-tail}
use Rattle.std.proofs.lemmas.Nat.{from_le_bytes-to_le_bytes_4}
use Rattle.ci_reading.specs.Bytes.{bytes_of_words, words_of_bytes}

-- four bytes are a word
pub length-words_of_bytes : (bytes : List ℕ) → length (words_of_bytes bytes) ≡ length bytes / 4
length-words_of_bytes [] = refl
length-words_of_bytes (a ∷ []) = refl
length-words_of_bytes (a ∷ b ∷ []) = refl
length-words_of_bytes (a ∷ b ∷ c ∷ []) = refl
length-words_of_bytes (a ∷ b ∷ c ∷ d ∷ bytes) = omega (arith, length-words_of_bytes bytes)

-- the words of the bytes of words are those words
pub words_of_bytes-bytes_of_words : (words : List ℕ) → All (λ word. word < 2 ^ 32) words → words_of_bytes (bytes_of_words words) ≡ words
words_of_bytes-bytes_of_words [] small = refl
words_of_bytes-bytes_of_words (word ∷ words) small =
    let first : from_le_bytes w32 (to_le_bytes w32 word) ≡ word = from_le_bytes-to_le_bytes_4 word (All-head (λ word. word < 2 ^ 32) word words small) in
    let rest = words_of_bytes-bytes_of_words words (All-tail (λ word. word < 2 ^ 32) word words small) in
    λ i. first i ∷ rest i

-- the four bytes from i on, as a word
abbrev pub word_from : List ℕ → ℕ → ℕ
word_from bytes i = from_le_bytes w32 (get_or bytes i 0 ∷ get_or bytes (i + 1) 0 ∷ get_or bytes (i + 2) 0 ∷ get_or bytes (i + 3) 0 ∷ [])

-- the word at a place is made of the four bytes there
pub words_of_bytes-at : (bytes : List ℕ) (place : ℕ) → 4 * place + 4 ≤ length bytes
    → slice_get (words_of_bytes bytes) place ≡ Some (word_from bytes (4 * place))
words_of_bytes-at [] place within = absurd (omega arith)
words_of_bytes-at (a ∷ []) place within = absurd (omega arith)
words_of_bytes-at (a ∷ b ∷ []) place within = absurd (omega arith)
words_of_bytes-at (a ∷ b ∷ c ∷ []) place within = absurd (omega arith)
words_of_bytes-at (a ∷ b ∷ c ∷ d ∷ bytes) zero within = refl
words_of_bytes-at (a ∷ b ∷ c ∷ d ∷ bytes) (suc place) within =
    words_of_bytes-at bytes place (omega arith)
    ∙ (λ i. Some (from_le_bytes w32 (
    byte (4 * place) (4 * suc place) (omega arith) i
    ∷ byte (4 * place + 1) (4 * suc place + 1) (omega arith) i
    ∷ byte (4 * place + 2) (4 * suc place + 2) (omega arith) i
    ∷ byte (4 * place + 3) (4 * suc place + 3) (omega arith) i
    ∷ []
    )))
  where
    byte : (n k : ℕ) → k ≡ 4 + n → get_or bytes n 0 ≡ get_or (a ∷ b ∷ c ∷ d ∷ bytes) k 0
    byte n k is = sym (ap (λ j. get_or (a ∷ b ∷ c ∷ d ∷ bytes) j 0) is ∙ get_or-append-add (a ∷ b ∷ c ∷ d ∷ []) bytes n 0)
