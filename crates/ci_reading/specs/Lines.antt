-- For every reader: lines of text.
use Rattle.std.specs.Prelude.{ℕ, List, ◌++◌, codes}

-- the text, ended by a newline
abbrev pub line : List ℕ → List ℕ
line text = text ++ codes "\n"
