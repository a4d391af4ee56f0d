-- The lines of a text.
use Rattle.std.specs.Prelude.{ℕ, ◌==◌, if◌then◌else◌, List, [], ◌∷◌}

-- c before the first of the lines
abbrev pub with_byte : ℕ → List (List ℕ) → List (List ℕ)
with_byte c [] = (c ∷ []) ∷ []
with_byte c (line ∷ lines) = (c ∷ line) ∷ lines

-- the lines of a text. Each ends by a newline, which the last may lack
unfoldable pub lines_of : List ℕ → List (List ℕ)
lines_of [] = []
lines_of (c ∷ text) = if c == 10 then [] ∷ lines_of text else with_byte c (lines_of text)
