-- For private contracts: what the two passes over a text compute. The public definitions of programs and faults are in
-- Assembly. The words of a text, or its first fault.
use Rattle.std.specs.Prelude.{◌≡◌, ℕ, ◌+◌, ◌-◌, ◌*◌, ◌==◌, Bool, true, false, take_while, if◌then◌else◌, List, [], ◌∷◌}
use Rattle.std.specs.Prelude.{◌++◌, Option, Some, None, Result, Ok, Err, nat_lt, ⊤}
use Rattle.std.specs.Option.{option_to_list, option_or}
use Rattle.std.specs.Str.{bytes_eq}
use Rattle.ci_asm.specs.declared.faults.AsmFault.{AsmFault}
use Rattle.ci_asm.specs.declared.faults.AsmFault.TheVariants.{Bad, NoMemory}
use Rattle.ci_isa.specs.declared.instruction.Insn.{Insn}
use Rattle.ci_isa.specs.Table.{IsWordOf}
use Rattle.ci_asm.specs.declared.scanner.Token.{Token}
use Rattle.ci_asm.specs.declared.numbers.Number.{Number}
use Rattle.ci_asm.specs.declared.faults.Rule.{Rule}
use Rattle.ci_asm.specs.declared.faults.Rule.TheVariants.{NoToken, NoMnemonic, NoOperand, OutOfField, Undefined}
use Rattle.ci_asm.specs.declared.faults.Rule.TheVariants.{DefinedTwice, Surplus}
use Rattle.ci_asm.specs.declared.faults.Fault.{Fault}
use Rattle.ci_asm.specs.declared.labels.Definition.{Definition}
use Rattle.ci_asm.specs.declared.statements.Statement.{Statement}
use Rattle.ci_asm.specs.declared.lines.Line.{Line}
use Rattle.ci_asm.specs.declared.scanner.ByteClass.TheVariants.{InLine}
use Rattle.ci_asm.specs.Assembly.{most_words}
use Rattle.ci_asm.specs.Lines.{lines_of}
use Rattle.ci_asm.specs.private.Tokens.{belongs, text_of}
use Rattle.ci_asm.specs.private.Shapes.{fits, field_of}
use Rattle.ci_asm.specs.private.Statements.{◌>>=◌, fault, read_line, signed_value, insn_of}

-- ---- lines

-- the first line of a text, without its newline
abbrev pub first_line : List ℕ → List ℕ
first_line text = take_while (belongs InLine) text

-- ---- what a line has

-- what a line has where `words` words stand before it
abbrev pub line_at : ℕ → List ℕ → Result Line Fault
line_at words line = read_line line (words == most_words)

abbrev pub option_length : {A : Type 0} → Option A → ℕ
option_length None = 0
option_length (Some x) = 1

-- how many words the line gives
abbrev pub words_in : Result Line Fault → ℕ
words_in (Ok l) = option_length l.statement
words_in (Err f) = 0

abbrev pub label_in : Result Line Fault → Option Token
label_in (Ok l) = l.label
label_in (Err f) = None

-- ---- faults

-- the number that faults of a rule are told by
abbrev pub kind_of : Rule → ℕ
kind_of NoToken = 1
kind_of NoMnemonic = 2
kind_of NoOperand = 3
kind_of OutOfField = 4
kind_of Undefined = 5
kind_of DefinedTwice = 6
kind_of Surplus = 7

-- a fault's kind, and its line and column, which count from 1
pub record Position : Type 0 where
  pub kind : ℕ
  pub line : ℕ
  pub column : ℕ

-- the position of a fault on line n
abbrev pub position : ℕ → Fault → Position
position n f = record { kind = kind_of f.rule; line = n; column = f.place + 1 }

abbrev pub on_line : {A : Type 0} → ℕ → Result A Fault → Result A Position
on_line n (Ok x) = Ok x
on_line n (Err f) = Err (position n f)

-- how many words stand behind line n, if it can be read and `words` words stand before it
abbrev pub words_behind : ℕ → ℕ → List ℕ → Result ℕ Position
words_behind n words line = on_line n (line_at words line) >>= λ l. Ok (words + option_length l.statement)

-- the lines from line n on, which has `words` words before it, can all be read
unfoldable pub all_read : ℕ → ℕ → List (List ℕ) → Result (Unit {0}) Position
all_read n words [] = Ok tt
all_read n words (line ∷ lines) = words_behind n words line >>= λ after. all_read (n + 1) after lines

-- ---- labels

abbrev pub is_labelled : List ℕ → List ℕ → Option Token → Bool
is_labelled name line None = false
is_labelled name line (Some t) = bytes_eq (text_of line t) name

-- the definition of the label on line n: this line, and how many words stand before it
abbrev pub definition_on : List ℕ → ℕ → ℕ → List ℕ → Option Definition
definition_on name n words line =
    if is_labelled name line (label_in (line_at words line)) then Some (record { line = n; words = words }) else None

-- the first definition of a label in the lines from line n on
unfoldable pub definition_of : List ℕ → ℕ → ℕ → List (List ℕ) → Option Definition
definition_of name n words [] = None
definition_of name n words (line ∷ lines) =
    option_or (definition_on name n words line)
    (definition_of name (n + 1) (words + words_in (line_at words line)) lines)

-- what is known of each label
abbrev pub Definitions : Type 0
Definitions = List ℕ → Option Definition

abbrev pub once_at : ℕ → Token → Option Definition → Result (Unit {0}) Fault
once_at n t None = Ok tt
once_at n t (Some d) = if d.line == n then Ok tt else Err (fault DefinedTwice t.start)

-- the label on line n is defined on no earlier line
abbrev pub defined_once : Definitions → ℕ → List ℕ → Option Token → Result (Unit {0}) Fault
defined_once definitions n line None = Ok tt
defined_once definitions n line (Some t) = once_at n t (definitions (text_of line t))

-- ---- instructions

-- from a statement to a label, in bytes: a word has four
abbrev pub offset_between : ℕ → ℕ → Number
offset_between from to =
    if nat_lt to from then record { negative = true; magnitude = 4 * (from - to) } else record
    { negative = false; magnitude = 4 * (to - from) }

abbrev pub reaching : ℕ → Statement → Token → Option Definition → Result Number Fault
reaching words s t None = Err (fault Undefined t.start)
reaching words s t (Some d) =
    if fits (field_of s.mnemonic) (offset_between words d.words) then Ok (offset_between words d.words)
    else Err (fault OutOfField t.start)

-- the statement's number: the offset of its label, if it has one
abbrev pub resolved : Definitions → ℕ → List ℕ → Statement → Option Token → Result Number Fault
resolved definitions words line s None = Ok s.operands.number
resolved definitions words line s (Some t) = reaching words s t (definitions (text_of line t))

abbrev pub statement_insn : Definitions → ℕ → List ℕ → Option Statement → Result (Option Insn) Fault
statement_insn definitions words line None = Ok None
statement_insn definitions words line (Some s) =
    resolved definitions words line s s.operands.label >>= λ n.
    Ok (Some (insn_of s.mnemonic s.operands.registers (signed_value n)))

-- the instruction of line n, if it has one
unfoldable pub line_insn : Definitions → ℕ → ℕ → List ℕ → Result (Option Insn) Fault
line_insn definitions n words line =
    line_at words line >>= λ l.
    defined_once definitions n line l.label >>= λ _.
    statement_insn definitions words line l.statement

-- the instructions of the lines from line n on
unfoldable pub insns_of : Definitions → ℕ → ℕ → List (List ℕ) → Result (List Insn) Position
insns_of definitions n words [] = Ok []
insns_of definitions n words (line ∷ lines) =
    on_line n (line_insn definitions n words line) >>= λ first.
    insns_of definitions (n + 1) (words + option_length first) lines >>= λ others.
    Ok (option_to_list first ++ others)

-- The instructions of a text, or its first fault. What labels are due for is looked at once all lines were read without
-- a fault.
unfoldable pub assembled : List ℕ → Result (List Insn) Position
assembled text =
    all_read 1 0 (lines_of text) >>= λ _.
    insns_of (λ name. definition_of name 1 0 (lines_of text)) 1 0 (lines_of text)

-- ---- what the calls promise

-- each word stands for its instruction
abbrev pub AreWordsOf : List ℕ → List Insn → Type 0
AreWordsOf [] [] = ⊤
AreWordsOf [] (i ∷ insns) = ⊥
AreWordsOf (w ∷ words) [] = ⊥
AreWordsOf (w ∷ words) (i ∷ insns) = IsWordOf w i × AreWordsOf words insns

-- the words of the instructions, if there are such
abbrev pub AreWordsIn : List ℕ → Result (List Insn) Position → Type 0
AreWordsIn words read = (insns : List Insn) × (read ≡ Ok insns) × AreWordsOf words insns

-- the fault is the one that was met, or memory ran out
abbrev pub IsFaultIn : {A : Type 0} → Result A Position → AsmFault → Type 0
IsFaultIn read (Bad kind line column) = read ≡ Err (record { kind = kind; line = line; column = column })
IsFaultIn read NoMemory = ⊤
