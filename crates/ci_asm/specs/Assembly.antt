-- The words of a text, and its first fault.
use Rattle.std.specs.Prelude.{◌≡◌, ◌≢◌, ℕ, ◌+◌, ◌*◌, ◌≤◌, ◌<◌, ◌⊎◌, List, [], ◌∷◌, ◌++◌, length, Option, Some}
use Rattle.std.specs.Prelude.{None, ℤ, pos, ◌-ℤ◌}
use Rattle.std.specs.Option.{option_to_list}
use Rattle.ci_isa.specs.declared.instruction.Insn.{Insn}
use Rattle.ci_isa.specs.Table.{IsWordOf}
use Rattle.ci_reading.specs.Tokens.{token, stray_byte, text_end}
use Rattle.ci_asm.specs.Lexicon.{Token, name, colon, Symbol, Stands}
use Rattle.ci_asm.specs.declared.slots.Field.{Field}
use Rattle.ci_asm.specs.Forms.{IsIn, IsNumber, Statement, plain, to_label, IsStatement, IsMnemonic}
use Rattle.ci_asm.specs.Lines.{lines_of}

-- a program has no more statements than this, each of which is a word
abbrev pub most_words : ℕ
most_words = 262144

-- ---- lines

-- what a line says: the label that it defines, and its statement
pub record Line : Type 0 where
  pub label : Option (List ℕ)
  pub statement : Option Statement

-- a line's label is the name that is its first token, if a colon is the next
abbrev pub HasLabel : List ℕ → Option (List ℕ) → Type 0
HasLabel bytes (Some label) = (column : ℕ) × Stands bytes (name label ∷ []) (token colon) column
HasLabel bytes None = (label : List ℕ) (column : ℕ) → ¬ Stands bytes (name label ∷ []) (token colon) column

abbrev pub label_tokens : Option (List ℕ) → List Token
label_tokens (Some label) = name label ∷ colon ∷ []
label_tokens None = []

-- in the line, the symbol stands behind the label, if there is one, and these tokens
pub record StandsInLine (bytes : List ℕ) (label : Option (List ℕ)) (tokens : List Token) (symbol : Symbol) (column : ℕ)
    : Type 0 where
  pub has_label : HasLabel bytes label
  pub stands : Stands bytes (label_tokens label ++ tokens) symbol column

-- the tokens are a statement, or there are none
abbrev pub HasStatement : List Token → Option Statement → Type 0
HasStatement tokens (Some statement) = IsStatement tokens statement
HasStatement tokens None = tokens ≡ []

-- a line of the language: behind its label and its statement it ends
pub record IsLine (bytes : List ℕ) (line : Line) : Type 0 where
  pub tokens : List Token
  pub end : ℕ
  pub ends : StandsInLine bytes line.label tokens text_end end
  pub has_statement : HasStatement tokens line.statement

abbrev pub AreLines : List (List ℕ) → List Line → Type 0
AreLines [] [] = Unit {0}
AreLines [] (line ∷ program) = ⊥
AreLines (bytes ∷ lines) [] = ⊥
AreLines (bytes ∷ lines) (line ∷ program) = IsLine bytes line × AreLines lines program

-- ---- programs

abbrev pub statements_of : List Line → List Statement
statements_of [] = []
statements_of (line ∷ lines) = option_to_list line.statement ++ statements_of lines

-- how many words the lines have: one for each statement
abbrev pub words_in : List Line → ℕ
words_in lines = length (statements_of lines)

-- lines of the language, with no more statements than a program may have
pub record IsProgram (lines : List (List ℕ)) (program : List Line) : Type 0 where
  pub are_lines : AreLines lines program
  pub fits : words_in program ≤ most_words

-- one of the lines defines the label
abbrev pub Defines : List Line → List ℕ → Type 0
Defines [] label = ⊥
Defines (line ∷ lines) label = (line.label ≡ Some label) ⊎ Defines lines label

-- the label stands before the word of this number: it is first defined on the line where that word is due
abbrev pub IsLabelOf : List Line → List ℕ → ℕ → Type 0
IsLabelOf program label number =
    (before : List Line) × (line : Line) × (after : List Line) × (program ≡ before ++ line ∷ after)
    × (line.label ≡ Some label) × (¬ Defines before label) × (number ≡ words_in before)

-- the label lies this many bytes behind the word of this number: a word has four
abbrev pub IsOffset : List Line → ℕ → List ℕ → ℤ → Type 0
IsOffset program from label n = (to : ℕ) × IsLabelOf program label to × (n ≡ pos (4 * to) -ℤ pos (4 * from))

-- the statement, as the word of this number in the program, is the instruction
abbrev pub IsInsnOf : List Line → ℕ → Statement → Insn → Type 0
IsInsnOf program number (plain insn) found = found ≡ insn
IsInsnOf program number (to_label field with_offset label) found =
    (n : ℤ) × IsOffset program number label n × IsIn field n × (found ≡ with_offset n)

-- the words of these statements, of which the first is the word of this number
abbrev pub AreWords : List Line → ℕ → List Statement → List ℕ → Type 0
AreWords program number [] [] = Unit {0}
AreWords program number [] (w ∷ words) = ⊥
AreWords program number (statement ∷ statements) [] = ⊥
AreWords program number (statement ∷ statements) (w ∷ words) =
    ((insn : Insn) × IsInsnOf program number statement insn × IsWordOf w insn)
    × AreWords program (number + 1) statements words

-- none of these lines defines the label
abbrev pub IsNew : List Line → Option (List ℕ) → Type 0
IsNew before (Some label) = ¬ Defines before label
IsNew before None = Unit {0}

-- a line behind these defines no label again, and its statement has an instruction
pub record IsResolved (program before : List Line) (line : Line) : Type 0 where
  pub is_new : IsNew before line.label
  pub has_insn : (statement : Statement) → line.statement ≡ Some statement
      → (insn : Insn) × IsInsnOf program (words_in before) statement insn

-- the same of each of the program's first lines
abbrev pub AreResolved : List Line → List Line → Type 0
AreResolved program lines =
    (before : List Line) (line : Line) (after : List Line) → lines ≡ before ++ line ∷ after
    → IsResolved program before line

-- the text is the assembly of these words
pub record IsAssembly (text words : List ℕ) : Type 0 where
  pub program : List Line
  pub is_program : IsProgram (lines_of text) program
  pub are_resolved : AreResolved program program
  pub are_words : AreWords program 0 (statements_of program) words

-- ---- the first fault

-- the tokens go on to a statement, or there are none. Behind the last word no statement may come
abbrev pub IsGoodFront : ℕ → List Token → Type 0
IsGoodFront words tokens =
    (tokens ≡ [])
    ⊎ ((words < most_words)
    × ((others : List Token) × (statement : Statement) × IsStatement (tokens ++ others) statement))

-- the symbol does, too, or it ends the line where it may end
abbrev pub IsGoodNext : ℕ → List Token → Symbol → Type 0
IsGoodNext words front (token t) = IsGoodFront words (front ++ t ∷ [])
IsGoodNext words front text_end = (statement : Option Statement) × HasStatement front statement
IsGoodNext words front stray_byte = ⊥

abbrev pub IsWhole : List Token → Type 0
IsWhole front = (statement : Statement) × IsStatement front statement

-- a number may stand behind the tokens
abbrev pub IsNumberDue : List Token → Type 0
IsNumberDue front =
    (t : Token) × (others : List Token) × (statement : Statement)
    × IsNumber t × IsStatement (front ++ t ∷ others) statement

-- the kind of a fault, by what is due behind the tokens and what stands there
pub data IsKind : List Token → Symbol → ℕ → Type 0 where
  -- a byte that begins no token
  no_token : {front : List Token} → IsKind front stray_byte 1
  -- another token where a statement is due
  no_statement : {t : Token} → ¬ IsMnemonic t → IsKind [] (token t) 2
  -- another token, or the line's end, where an operand, a comma or a bracket is due
  no_operand : {front : List Token} {t : Token}
      → front ≢ [] → ¬ IsWhole front → ¬ (IsNumber t × IsNumberDue front) → IsKind front (token t) 3
  too_short : {front : List Token} → IsKind front text_end 3
  -- a number out of its field
  out_of_field : {front : List Token} {t : Token} → IsNumber t → IsNumberDue front → IsKind front (token t) 4
  -- a token behind a whole statement, and a statement behind the last word
  surplus : {front : List Token} {t : Token} → IsWhole front → IsKind front (token t) 7
  too_many : {t : Token} → IsMnemonic t → IsKind [] (token t) 7

-- The fault of a line that has `words` words before it. It stands at the end of the line's longest good front.
pub record IsFaultOfLine (words : ℕ) (bytes : List ℕ) (kind column : ℕ) : Type 0 where
  pub label : Option (List ℕ)
  pub front : List Token
  pub symbol : Symbol
  pub stands : StandsInLine bytes label front symbol column
  pub good : IsGoodFront words front
  pub bad : ¬ IsGoodNext words front symbol
  pub is_kind : IsKind front symbol kind

-- The fault of a line by a label, in a program whose lines can all be read. These lines stand before it. The label that
-- it defines comes before the one that its statement is to reach.
pub data IsFaultOfLabel (program before : List Line) (bytes : List ℕ) (line : Line) : ℕ → ℕ → Type 0 where
  -- a label that is defined again
  twice : {label : List ℕ} {column : ℕ}
      → line.label ≡ Some label → Defines before label → Stands bytes [] (token (name label)) column
      → IsFaultOfLabel program before bytes line 6 column
  -- a label that is not defined
  undefined : {label : List ℕ} {field : Field} {with_offset : ℤ → Insn} {front : List Token} {column : ℕ}
      → IsNew before line.label → line.statement ≡ Some (to_label field with_offset label)
      → IsStatement (front ++ name label ∷ []) (to_label field with_offset label)
      → StandsInLine bytes line.label front (token (name label)) column
      → ¬ Defines program label → IsFaultOfLabel program before bytes line 5 column
  -- a label whose offset is out of its field
  too_far : {label : List ℕ} {field : Field} {with_offset : ℤ → Insn} {front : List Token} {column : ℕ} {n : ℤ}
      → IsNew before line.label → line.statement ≡ Some (to_label field with_offset label)
      → IsStatement (front ++ name label ∷ []) (to_label field with_offset label)
      → StandsInLine bytes line.label front (token (name label)) column
      → IsOffset program (words_in before) label n → ¬ IsIn field n → IsFaultOfLabel program before bytes line 4 column

-- The text has this fault. Lines and columns count from 1.
pub data HasFault (text : List ℕ) : ℕ → ℕ → ℕ → Type 0 where
  -- the lines before this one can be read
  of_line : (before after : List (List ℕ)) (bytes : List ℕ) (program : List Line) {kind column : ℕ}
      → lines_of text ≡ before ++ bytes ∷ after → IsProgram before program
      → IsFaultOfLine (words_in program) bytes kind column
      → HasFault text kind (length before + 1) (column + 1)
  -- all lines can be read, and those before this one have no fault
  of_label : (lines lines_after : List (List ℕ)) (bytes : List ℕ) (before after : List Line) (line : Line)
      {kind column : ℕ}
      → lines_of text ≡ lines ++ bytes ∷ lines_after → AreLines lines before
      → IsProgram (lines_of text) (before ++ line ∷ after) → AreResolved (before ++ line ∷ after) before
      → IsFaultOfLabel (before ++ line ∷ after) before bytes line kind column
      → HasFault text kind (length lines + 1) (column + 1)
