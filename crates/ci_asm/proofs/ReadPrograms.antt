-- The programs that the code reads are those of the definitions.
use Rattle.std.proofs.Common.{◌≡◌, ℕ, ◌+◌, ◌-◌, ◌*◌, ◌<◌, ◌≤◌, inl, inr, Bool, true, false, cond, eqb, nat_lt, List, [], ◌∷◌, ◌++◌, length, refl, sym, ap}
use Rattle.std.proofs.Common.{◌∙◌, subst, arith, lit≤, append-nil, length-append, Option, Some, None, Result, Ok, Err, ℤ, pos, neg_ℤ, ◌-ℤ◌}
use Rattle.std.specs.Option.{option_to_list, option_or}
use Rattle.std.proofs.lemmas.Int.{ints}
use Rattle.std.proofs.lemmas.Bool.{eqb-true}
use Rattle.std.proofs.lemmas.Bool.Decides.{nat_tests}
use Rattle.std.proofs.lemmas.Slice.Eq.{bytes_eq-Decides}
use mathlib.Core.List.{append_assoc}
use Rattle.ci_isa.specs.declared.instruction.Insn.{Insn}
use Rattle.ci_asm.specs.declared.scanner.Token.{Token}
use Rattle.ci_asm.specs.declared.numbers.Number.{Number}
use Rattle.ci_asm.specs.declared.faults.Fault.{Fault}
use Rattle.ci_asm.specs.declared.faults.Rule.TheVariants.{OutOfField, DefinedTwice}
use Rattle.ci_asm.specs.declared.labels.Definition.{Definition}
use Rattle.ci_asm.specs.declared.statements.Statement as code
use Rattle.ci_asm.specs.declared.lines.Line as code_lines
use Rattle.ci_asm.specs.private.Tokens.{text_of}
use Rattle.ci_asm.specs.private.Shapes.{fits, field_of}
use Rattle.ci_asm.specs.private.Statements.{◌>>=◌, fault, insn_of, signed_value}
use Rattle.ci_asm.specs.private.Programs.{Position, position, on_line, line_at, words_in, label_in, words_behind, all_read, is_labelled, definition_on}
use Rattle.ci_asm.specs.private.Programs.{definition_of, Definitions, once_at, defined_once, offset_between, reaching, resolved, statement_insn, line_insn}
use Rattle.ci_asm.specs.private.Programs.{option_length, insns_of, assembled, AreWordsOf, AreWordsIn}
use Rattle.ci_asm.specs.Lines.{lines_of}
use Rattle.ci_asm.specs.Forms.{Statement, IsIn}
use Rattle.ci_asm.specs.Assembly as asm
use Rattle.ci_asm.specs.Assembly.{Line, AreLines, statements_of, Defines, IsLabelOf, IsOffset, IsInsnOf, AreWords, IsNew}
use Rattle.ci_asm.specs.Assembly.{IsResolved, IsAssembly}
use Rattle.ci_asm.proofs.AssemblySteps.{all_read-nil, all_read-ok, definition_of-nil, definition_of-cons, on_line_ok, insns_of-nil, insns_of-ok, assembled-read}
use Rattle.ci_asm.proofs.FilledSlots.{values_of, label_text}
use Rattle.ci_asm.proofs.ReadOperands.{fits_in, in_fits}
use Rattle.ci_asm.proofs.ReadStatements.{says}
use Rattle.ci_asm.proofs.TestLaws.{by_test, same_ok, bind_ok, cond_ok}
use Rattle.ci_asm.proofs.ReadLines.{statement_says, statement_read, line_says, HasRoom, line_read, IsRoomFor, line_is}

-- ---- lines that were read

-- what the code has read of the lines, of which the first has so many words before it
abbrev pub AreRead : ℕ → List (List ℕ) → List code_lines.Line → Type 0
AreRead words [] [] = Unit {0}
AreRead words [] (l ∷ ls) = ⊥
AreRead words (line ∷ lines) [] = ⊥
AreRead words (line ∷ lines) (l ∷ ls) = (line_at words line ≡ Ok l) × AreRead (words + option_length l.statement) lines ls

-- what the lines say
abbrev pub program_of : List (List ℕ) → List code_lines.Line → List Line
program_of [] ls = []
program_of (line ∷ lines) [] = []
program_of (line ∷ lines) (l ∷ ls) = line_says line l ∷ program_of lines ls

room_left : (words : ℕ) → eqb words 262144 ≡ false → words ≤ 262144 → words + 1 ≤ 262144
room_left words e fits = grind (arith, nat_tests)

room_for : (words : ℕ) → words + 1 ≤ 262144 → eqb words 262144 ≡ false
room_for words fits = grind (arith, nat_tests)

pub statement_room : (words : ℕ) (s : Option code.Statement) → HasRoom (eqb words 262144) s → words ≤ 262144 → words + option_length s ≤ 262144
statement_room words None room fits = omega arith
statement_room words (Some s) room fits = room_left words room fits

pub words_with : (line : List ℕ) (s : Option code.Statement) (others : List Statement)
    → length (option_to_list (statement_read line s) ++ others) ≡ option_length s + length others
words_with line None others = omega arith
words_with line (Some s) others = omega arith

-- the lines that were read are lines of the language
pub record IsReadProgram (words : ℕ) (lines : List (List ℕ)) (ls : List code_lines.Line) : Type 0 where
  pub are_lines : AreLines lines (program_of lines ls)
  pub fits : words + asm.words_in (program_of lines ls) ≤ 262144

pub read_program : (words : ℕ) (lines : List (List ℕ)) (ls : List code_lines.Line) → AreRead words lines ls → words ≤ 262144 → IsReadProgram words lines ls
read_program words [] [] read fits = record { are_lines = tt; fits = omega arith }
read_program words [] (l ∷ ls) read fits = absurd read
read_program words (line ∷ lines) [] read fits = absurd read
read_program words (line ∷ lines) (l ∷ ls) read fits =
    let one = line_read line (eqb words 262144) l read.0 in
    let more = read_program (words + option_length l.statement) lines ls read.1 (statement_room words l.statement one.room fits) in
    let count = words_with line l.statement (statements_of (program_of lines ls)) in
    let bound = more.fits in
    record { are_lines = (one.is_line, more.are_lines); fits = omega arith }

-- what was read, where all lines were
pub all_read-lines : (n words : ℕ) (lines : List (List ℕ)) → all_read n words lines ≡ Ok tt → (ls : List code_lines.Line) × AreRead words lines ls
unfolding all_read
all_read-lines n words [] e = ([], tt)
all_read-lines n words (line ∷ lines) e =
    let b = bind_ok (words_behind n words line) _ tt e in
    by (line_at words line) refl b.0 b.1 (all_read-lines (n + 1) b.0 lines b.2)
  where
    by : (r : Result code_lines.Line Fault) → line_at words line ≡ r → (after : ℕ)
        → (on_line n (line_at words line) >>= λ l. Ok (words + option_length l.statement)) ≡ Ok after
        → (ls : List code_lines.Line) × AreRead after lines ls → (ls : List code_lines.Line) × AreRead words (line ∷ lines) ls
    by (Ok l) at after e more =
        let known : (on_line n (line_at words line) >>= λ l. Ok (words + option_length l.statement)) ≡ Ok (words + option_length l.statement) =
        ap (λ r. on_line n r >>= λ l. Ok (words + option_length l.statement)) at in
        let same : after ≡ words + option_length l.statement = same_ok {E = Position} after (words + option_length l.statement) (sym e ∙ known) in
        (l ∷ more.0, (at, subst (λ k. AreRead k lines more.0) same more.1))
    by (Err f) at after e more =
        let known : (on_line n (line_at words line) >>= λ l. Ok (words + option_length l.statement)) ≡ Err (position n f) =
        ap (λ r. on_line n r >>= λ l. Ok (words + option_length l.statement)) at in
        absurd (cc)

pub read-all_read : (n words : ℕ) (lines : List (List ℕ)) (ls : List code_lines.Line) → AreRead words lines ls → all_read n words lines ≡ Ok tt
read-all_read n words [] [] read = all_read-nil n words
read-all_read n words [] (l ∷ ls) read = absurd read
read-all_read n words (line ∷ lines) [] read = absurd read
read-all_read n words (line ∷ lines) (l ∷ ls) read =
    all_read-ok n words (words + option_length l.statement) line lines (ap (λ r. on_line n r >>= λ l. Ok (words + option_length l.statement)) read.0)
    ∙ read-all_read (n + 1) (words + option_length l.statement) lines ls read.1

-- lines of the language are read
pub record WillReadLines (words : ℕ) (lines : List (List ℕ)) (program : List Line) : Type 0 where
  pub ls : List code_lines.Line
  pub are_read : AreRead words lines ls
  pub says : program_of lines ls ≡ program

room_of : (words : ℕ) (s : Option Statement) (others : List Statement) → words + length (option_to_list s ++ others) ≤ 262144 → IsRoomFor (eqb words 262144) s
room_of words None others fits = tt
room_of words (Some s) others fits = room_for words (omega arith)

with_same : (words : ℕ) (line : List ℕ) (s : Option code.Statement) (is : Option Statement) (others : List Statement) → statement_read line s ≡ is
    → words + length (option_to_list is ++ others) ≤ 262144 → words + option_length s + length others ≤ 262144
with_same words line s is others same fits =
    let count = words_with line s others in
    let there : words + length (option_to_list (statement_read line s) ++ others) ≤ 262144 =
    subst (λ k. words + length (option_to_list k ++ others) ≤ 262144) (sym same) fits in
    omega arith

pub program_read : (words : ℕ) (lines : List (List ℕ)) (program : List Line) → AreLines lines program → words + asm.words_in program ≤ 262144
    → WillReadLines words lines program
program_read words [] [] are fits = record { ls = []; are_read = tt; says = refl }
program_read words [] (l ∷ program) are fits = absurd are
program_read words (line ∷ lines) [] are fits = absurd are
program_read words (line ∷ lines) (is ∷ program) are fits =
    let r = line_is line (eqb words 262144) is are.0 (room_of words is.statement (statements_of program) fits) in
    let same : statement_read line r.read.statement ≡ is.statement = ap (λ l. l.statement) r.says in
    let more = program_read (words + option_length r.read.statement) lines program are.1
    (with_same words line r.read.statement is.statement (statements_of program) same fits) in
    record { ls = r.read ∷ more.ls; are_read = (r.reads, more.are_read); says = λ i. r.says i ∷ more.says i }

-- ---- labels

-- where a label is first defined
pub record IsFoundAt (program : List Line) (label : List ℕ) (n words : ℕ) (d : Definition) : Type 0 where
  pub before : List Line
  pub line : Line
  pub after : List Line
  pub split : program ≡ before ++ line ∷ after
  pub labelled : line.label ≡ Some label
  pub is_new : ¬ Defines before label
  pub line_is : d.line ≡ n + length before
  pub words_is : d.words ≡ words + asm.words_in before

abbrev pub IsDefinition : List Line → List ℕ → ℕ → ℕ → Option Definition → Type 0
IsDefinition program label n words None = ¬ Defines program label
IsDefinition program label n words (Some d) = IsFoundAt program label n words d

labelled_yes : (name line : List ℕ) (label : Option Token) → is_labelled name line label ≡ true → label_text line label ≡ Some name
labelled_yes name line None e = absurd (cc)
labelled_yes name line (Some t) e = ap Some ((bytes_eq-Decides (text_of line t) name).0 e)

labelled_no : (name line : List ℕ) (label : Option Token) → label_text line label ≡ Some name → is_labelled name line label ≡ true
labelled_no name line None e = absurd (cc)
labelled_no name line (Some t) e = let same : text_of line t ≡ name = cc in (bytes_eq-Decides (text_of line t) name).1 same

count_cons : (line : Line) (lines : List Line) (words : ℕ) → words + asm.words_in (line ∷ lines) ≡ words + length (option_to_list line.statement ++ [])
    + asm.words_in lines
count_cons line lines words = by line.statement
  where
    by : (s : Option Statement) → words + length (option_to_list s ++ (statements_of lines)) ≡ words + length (option_to_list s ++ []) + length
        (statements_of lines)
    by None = omega arith
    by (Some s) = omega arith

words_here : (line : List ℕ) (s : Option code.Statement) → length (option_to_list (statement_read line s) ++ []) ≡ option_length s
words_here line None = refl
words_here line (Some s) = refl

further : (label : List ℕ) (n words more : ℕ) (line : Line) (program : List Line) (o : Option Definition) → ¬ (line.label ≡ Some label)
    → more ≡ words + length (option_to_list line.statement ++ []) → IsDefinition program label (n + 1) more o → IsDefinition (line ∷ program) label n words o
further label n words more line program None other count none = λ defines. elim defines [ inl here ↦ other here | inr there ↦ none there ]
further label n words more line program (Some d) other count f =
    let line_is = f.line_is in
    let words_is = f.words_is in
    let cons = count_cons line f.before words in
    record {
      before = line ∷ f.before;
      line = f.line;
      after = f.after;
      split = ap (λ k. line ∷ k) f.split;
      labelled = f.labelled;
      is_new = λ defines. elim defines [ inl here ↦ other here | inr there ↦ f.is_new there ];
      line_is = omega arith;
      words_is = omega arith;
    }

-- the code's definitions are those of the program
pub definition_is : (label : List ℕ) (n words : ℕ) (lines : List (List ℕ)) (ls : List code_lines.Line) → AreRead words lines ls
    → IsDefinition (program_of lines ls) label n words (definition_of label n words lines)
definition_is label n words [] [] read = subst (IsDefinition [] label n words) (sym (definition_of-nil label n words)) (λ none. none)
definition_is label n words [] (l ∷ ls) read = absurd read
definition_is label n words (line ∷ lines) [] read = absurd read
definition_is label n words (line ∷ lines) (l ∷ ls) read =
    let more = definition_is label (n + 1) (words + option_length l.statement) lines ls read.1 in
    let first : definition_on label n words line ≡ cond (is_labelled label line l.label) (Some (record { line = n; words = words })) None =
    ap (λ r. cond (is_labelled label line (label_in r)) (Some (record { line = n; words = words })) None) read.0 in
    let count : words + words_in (line_at words line) ≡ words + option_length l.statement = ap (λ r. words + words_in r) read.0 in
    let rest : definition_of label (n + 1) (words + words_in (line_at words line)) lines ≡ definition_of label (n + 1)
    (words + option_length l.statement) lines = ap (λ k. definition_of label (n + 1) k lines) count in
    let all : definition_of label n words (line ∷ lines) ≡ option_or (cond (is_labelled label line l.label) (Some (record { line = n; words = words })) None)
    (definition_of label (n + 1) (words + option_length l.statement) lines) =
    definition_of-cons label n words line lines ∙ (λ i. option_or (first i) (rest i)) in
    subst (IsDefinition (program_of (line ∷ lines) (l ∷ ls)) label n words) (sym all) (by (is_labelled label line l.label) refl more)
  where
    by : (b : Bool) → is_labelled label line l.label ≡ b → IsDefinition (program_of lines ls) label (n + 1) (words + option_length l.statement)
        (definition_of label (n + 1) (words + option_length l.statement) lines)
        → IsDefinition (program_of (line ∷ lines) (l ∷ ls)) label n words
        (option_or (cond b (Some (record { line = n; words = words })) None) (definition_of label (n + 1) (words + option_length l.statement) lines))
    by true at more = record {
      before = [];
      line = line_says line l;
      after = program_of lines ls;
      split = refl;
      labelled = labelled_yes label line l.label at;
      is_new = λ none. none;
      line_is = omega arith;
      words_is = omega arith;
    }
    by false at more = further label n words (words + option_length l.statement) (line_says line l) (program_of lines ls) _
        (λ e. let no = labelled_no label line l.label e in absurd (cc)) (ap (λ k. words + k) (sym (words_here line l.statement))) more

-- ---- splits of a program

Defines-append : (before : List Line) (line : Line) (after : List Line) (label : List ℕ) → line.label ≡ Some label → Defines (before ++ line ∷ after) label
Defines-append [] line after label e = inl e
Defines-append (l ∷ before) line after label e = inr (Defines-append before line after label e)

pub defined_in : (program before : List Line) (line : Line) (after : List Line) (label : List ℕ) → program ≡ before ++ line ∷ after → line.label ≡ Some label
    → Defines program label
defined_in program before line after label split e = subst (λ p. Defines p label) (sym split) (Defines-append before line after label e)

-- at one place of a program stands one line
pub same_length : (a b : List Line) (k l : Line) (rest others : List Line) → length a ≡ length b → a ++ k ∷ rest ≡ b ++ l ∷ others → a ≡ b
same_length [] [] k l rest others size e = refl
same_length [] (y ∷ b) k l rest others size e = absurd (omega arith)
same_length (x ∷ a) [] k l rest others size e = absurd (omega arith)
same_length (x ∷ a) (y ∷ b) k l rest others size e =
    let head : x ≡ y = cc in
    let tail : a ++ k ∷ rest ≡ b ++ l ∷ others = cc in
    λ i. head i ∷ same_length a b k l rest others (omega arith) tail i

-- an earlier line stands among the lines before a later one
pub split_less : (a b : List Line) (k l : Line) (rest others : List Line) (label : List ℕ) → length a < length b → a ++ k ∷ rest ≡ b ++ l ∷ others
    → k.label ≡ Some label → Defines b label
split_less a [] k l rest others label less e labelled = absurd (omega arith)
split_less [] (y ∷ b) k l rest others label less e labelled = let head : k ≡ y = cc in inl (ap (λ x. x.label) (sym head) ∙ labelled)
split_less (x ∷ a) (y ∷ b) k l rest others label less e labelled =
    let tail : a ++ k ∷ rest ≡ b ++ l ∷ others = cc in
    inr (split_less a b k l rest others label (omega arith) tail labelled)

-- a label is first defined at one place
pub same_first : (a b : List Line) (k l : Line) (rest others : List Line) (label : List ℕ) → a ++ k ∷ rest ≡ b ++ l ∷ others → k.label ≡ Some label
    → l.label ≡ Some label → ¬ Defines a label → ¬ Defines b label → a ≡ b
same_first a b k l rest others label e at_k at_l new_a new_b =
    by_test (nat_lt (length a) (length b))
    (λ t. let less : length a < length b = grind (arith, nat_tests) in absurd (new_b (split_less a b k l rest others label less e at_k)))
    (λ t. by_test (nat_lt (length b) (length a))
    (λ u. let less : length b < length a = grind (arith, nat_tests) in absurd (new_a (split_less b a l k others rest label less (sym e) at_l)))
    (λ u. let same : length a ≡ length b = grind (arith, nat_tests) in same_length a b k l rest others same e))

-- ---- statements in a program

pub offset_signed : (from to : ℕ) → signed_value (offset_between from to) ≡ pos (4 * to) -ℤ pos (4 * from)
offset_signed from to = by_test (nat_lt to from) back forth
  where
    back : nat_lt to from ≡ true → signed_value (offset_between from to) ≡ pos (4 * to) -ℤ pos (4 * from)
    back e =
        let less : to < from = grind (arith, nat_tests) in
        let size : neg_ℤ (pos (4 * (from - to))) ≡ pos (4 * to) -ℤ pos (4 * from) = omega (arith, ints) in
        ap (λ b. signed_value (cond b (record { negative = true; magnitude = 4 * (from - to) }) (record { negative = false; magnitude = 4 * (to - from) }))) e
        ∙ size

    forth : nat_lt to from ≡ false → signed_value (offset_between from to) ≡ pos (4 * to) -ℤ pos (4 * from)
    forth e =
        let more : from ≤ to = grind (arith, nat_tests) in
        let size : pos (4 * (to - from)) ≡ pos (4 * to) -ℤ pos (4 * from) = omega (arith, ints) in
        ap (λ b. signed_value (cond b (record { negative = true; magnitude = 4 * (from - to) }) (record { negative = false; magnitude = 4 * (to - from) }))) e
        ∙ size

-- what the code knows of the labels of a program
abbrev pub AreDefinitions : List Line → Definitions → Type 0
AreDefinitions program definitions = (label : List ℕ) → IsDefinition program label 1 0 (definitions label)

pub label_at : (program : List Line) (label : List ℕ) (d : Definition) → IsFoundAt program label 1 0 d → IsLabelOf program label d.words
label_at program label d f = let words_is = f.words_is in let count : d.words ≡ asm.words_in f.before = omega arith in
    (f.before, f.line, f.after, f.split, f.labelled, f.is_new, count)

-- the offset to a label is in its field
reaching_yes : (program : List Line) (words : ℕ) (s : code.Statement) (t : Token) (label : List ℕ) (d : Option Definition) (n : Number)
    → IsDefinition program label 1 0 d → reaching words s t d ≡ Ok n
    → IsOffset program words label (signed_value n) × IsIn (field_of s.mnemonic) (signed_value n)
reaching_yes program words s t label None n is e = absurd (cc)
reaching_yes program words s t label (Some d) n is e =
    let found = offset_between words d.words in
    let c = cond_ok (fits (field_of s.mnemonic) found) found n _ e in
    subst (λ k. IsOffset program words label (signed_value k) × IsIn (field_of s.mnemonic) (signed_value k)) c.1
    ((d.words, label_at program label d is, offset_signed words d.words), fits_in (field_of s.mnemonic) found c.0)

record WillReach (words : ℕ) (s : code.Statement) (t : Token) (d : Option Definition) (z : ℤ) : Type 0 where
  number : Number
  reaches : reaching words s t d ≡ Ok number
  signed : signed_value number ≡ z

-- a label has one place
pub same_label_place : (program : List Line) (label : List ℕ) (d : Definition) (to : ℕ) → IsFoundAt program label 1 0 d → IsLabelOf program label to
    → d.words ≡ to
same_label_place program label d to f at =
    let same = same_first f.before at.0 f.line at.1 f.after at.2 label (sym f.split ∙ at.3) f.labelled at.4 f.is_new at.5 in
    let words_is = f.words_is in
    let count : d.words ≡ asm.words_in f.before = omega arith in
    count ∙ (ap asm.words_in same ∙ sym at.6)

reaching_no : (program : List Line) (words : ℕ) (s : code.Statement) (t : Token) (label : List ℕ) (d : Option Definition) (z : ℤ)
    → IsDefinition program label 1 0 d → IsOffset program words label z → IsIn (field_of s.mnemonic) z → WillReach words s t d z
reaching_no program words s t label None z is offset within =
    let at = offset.1 in
    absurd (is (defined_in program at.0 at.1 at.2 label at.3 at.4))
reaching_no program words s t label (Some d) z is offset within =
    let n = offset_between words d.words in
    let place = same_label_place program label d offset.0 is offset.1 in
    let signed : signed_value n ≡ z = offset_signed words d.words ∙ (ap (λ k. pos (4 * k) -ℤ pos (4 * words)) place ∙ sym offset.2) in
    let ok = in_fits (field_of s.mnemonic) n (subst (IsIn (field_of s.mnemonic)) (sym signed) within) in
    record {
      number = n;
      reaches = ap (λ b. cond b (Ok n) (Err (fault OutOfField t.start))) ok;
      signed = signed;
    }

-- a line's instruction, if it has one
abbrev pub IsInsnOfLine : List Line → ℕ → Option Statement → Option Insn → Type 0
IsInsnOfLine program words None None = Unit {0}
IsInsnOfLine program words None (Some i) = ⊥
IsInsnOfLine program words (Some s) None = ⊥
IsInsnOfLine program words (Some s) (Some i) = IsInsnOf program words s i

-- the line is resolved, with this instruction
pub record IsResolvedAs (program : List Line) (words : ℕ) (before : List Line) (here : Line) (first : Option Insn) : Type 0 where
  pub is_new : IsNew before here.label
  pub is_insn : IsInsnOfLine program words here.statement first

module _ (program : List Line) (definitions : Definitions) (known : AreDefinitions program definitions) (words : ℕ) (line : List ℕ) where
  -- the statement with this label, or with none
  abbrev pub said_with : code.Statement → Option Token → Statement
  said_with s label = says s.mnemonic (values_of line (record s.operands { label = label }))

  -- the instruction of a statement is that of the definitions
  insn_yes : (s : code.Statement) (label : Option Token) (n : Number) → resolved definitions words line s label ≡ Ok n
      → IsInsnOf program words (said_with s label) (insn_of s.mnemonic s.operands.registers (signed_value n))
  insn_yes s None n e = ap (λ k. insn_of s.mnemonic s.operands.registers (signed_value k)) (sym (same_ok {E = Fault} s.operands.number n e))
  insn_yes s (Some t) n e =
      let h = reaching_yes program words s t (text_of line t) (definitions (text_of line t)) n (known (text_of line t)) e in
      (signed_value n, h.0, h.1, refl)

  -- and back
  record WillResolve (s : code.Statement) (label : Option Token) (i : Insn) : Type 0 where
    number : Number
    resolves : resolved definitions words line s label ≡ Ok number
    gives : insn_of s.mnemonic s.operands.registers (signed_value number) ≡ i

  insn_no : (s : code.Statement) (label : Option Token) (i : Insn) → IsInsnOf program words (said_with s label) i → WillResolve s label i
  insn_no s None i is = record { number = s.operands.number; resolves = refl; gives = sym is }
  insn_no s (Some t) i is =
      let h = reaching_no program words s t (text_of line t) (definitions (text_of line t)) is.0 (known (text_of line t)) is.1 is.2 in
      record { number = h.number; resolves = h.reaches; gives = ap (insn_of s.mnemonic s.operands.registers) h.signed ∙ sym is.3 }

  statement_yes : (s : Option code.Statement) (first : Option Insn) → statement_insn definitions words line s ≡ Ok first
      → IsInsnOfLine program words (statement_read line s) first
  statement_yes None first e = subst (IsInsnOfLine program words None) (same_ok {E = Fault} _ first e) tt
  statement_yes (Some s) first e =
      let b = bind_ok (resolved definitions words line s s.operands.label) _ first e in
      subst (IsInsnOfLine program words (Some (statement_says line s))) (same_ok {E = Fault} _ first b.2) (insn_yes s s.operands.label b.0 b.1)

  statement_no : (s : Option code.Statement) (first : Option Insn) → IsInsnOfLine program words (statement_read line s) first
      → statement_insn definitions words line s ≡ Ok first
  statement_no None None is = refl
  statement_no None (Some i) is = absurd is
  statement_no (Some s) None is = absurd is
  statement_no (Some s) (Some i) is =
      let w = insn_no s s.operands.label i is in
      ap (λ r. r >>= λ n. Ok (Some (insn_of s.mnemonic s.operands.registers (signed_value n)))) w.resolves ∙ ap (λ i. Ok (Some i)) w.gives

  -- a label that is defined on this line
  pub once_yes : (before after : List Line) (here : Line) (n : ℕ) (label : Option Token) → program ≡ before ++ here ∷ after → here.label ≡ label_text line label
      → n ≡ 1 + length before → defined_once definitions n line label ≡ Ok tt → IsNew before (label_text line label)
  once_yes before after here n None split at place e = tt
  once_yes before after here n (Some t) split at place e = by (definitions (text_of line t)) (known (text_of line t)) e
    where
      by : (d : Option Definition) → IsDefinition program (text_of line t) 1 0 d → once_at n t d ≡ Ok tt → ¬ Defines before (text_of line t)
      by None none e = absurd (none (defined_in program before here after (text_of line t) split at))
      by (Some d) f e =
          let line_is = f.line_is in
          let same : d.line ≡ n = eqb-true d.line n (cond_ok (eqb d.line n) tt tt _ e).0 in
          let size : length f.before ≡ length before = omega arith in
          let lines = same_length f.before before f.line here f.after after size (sym f.split ∙ split) in
          subst (λ b. ¬ Defines b (text_of line t)) lines f.is_new

  pub once_no : (before after : List Line) (here : Line) (n : ℕ) (label : Option Token) → program ≡ before ++ here ∷ after → here.label ≡ label_text line label
      → n ≡ 1 + length before → IsNew before (label_text line label) → defined_once definitions n line label ≡ Ok tt
  once_no before after here n None split at place new = refl
  once_no before after here n (Some t) split at place new = by (definitions (text_of line t)) (known (text_of line t))
    where
      by : (d : Option Definition) → IsDefinition program (text_of line t) 1 0 d → once_at n t d ≡ Ok tt
      by None none = refl
      by (Some d) f =
          let lines = same_first f.before before f.line here f.after after (text_of line t) (sym f.split ∙ split) f.labelled at f.is_new new in
          let size : length f.before ≡ length before = ap length lines in
          let line_is = f.line_is in
          let same : eqb d.line n ≡ true = grind (arith, nat_tests) in
          ap (λ b. cond b (Ok tt) (Err (fault DefinedTwice t.start))) same

  pub line_insn-read : (n : ℕ) (l : code_lines.Line) → line_at words line ≡ Ok l
      → line_insn definitions n words line ≡ (defined_once definitions n line l.label >>= λ _. statement_insn definitions words line l.statement)
  unfolding line_insn
  line_insn-read n l e = ap (λ r. r >>= λ l. defined_once definitions n line l.label >>= λ _. statement_insn definitions words line l.statement) e

  pub line_yes : (before after : List Line) (n : ℕ) (l : code_lines.Line) (first : Option Insn) → program ≡ before ++ line_says line l ∷ after
      → n ≡ 1 + length before → line_at words line ≡ Ok l → line_insn definitions n words line ≡ Ok first
      → IsResolvedAs program words before (line_says line l) first
  line_yes before after n l first split place read e =
      let b = bind_ok (defined_once definitions n line l.label) _ first (sym (line_insn-read n l read) ∙ e) in
      record { is_new = once_yes before after (line_says line l) n l.label split refl place b.1; is_insn = statement_yes l.statement first b.2 }

  pub line_no : (before after : List Line) (n : ℕ) (l : code_lines.Line) (first : Option Insn) → program ≡ before ++ line_says line l ∷ after
      → n ≡ 1 + length before → line_at words line ≡ Ok l → IsResolvedAs program words before (line_says line l) first
      → line_insn definitions n words line ≡ Ok first
  line_no before after n l first split place read is =
      let one = once_no before after (line_says line l) n l.label split refl place is.is_new in
      let two = statement_no l.statement first is.is_insn in
      line_insn-read n l read ∙ (ap (λ r. r >>= λ _. statement_insn definitions words line l.statement) one ∙ two)

-- ---- all lines

-- the instructions of these statements, of which the first is the word of this number
abbrev pub AreInsns : List Line → ℕ → List Statement → List Insn → Type 0
AreInsns program number [] [] = Unit {0}
AreInsns program number [] (i ∷ insns) = ⊥
AreInsns program number (s ∷ statements) [] = ⊥
AreInsns program number (s ∷ statements) (i ∷ insns) = IsInsnOf program number s i × AreInsns program (number + 1) statements insns

-- each line behind these, up to the end of `lines`, is resolved
abbrev pub AllResolved : List Line → List Line → List Line → Type 0
AllResolved program done lines = (before : List Line) (line : Line) (after : List Line) → lines ≡ before ++ line ∷ after
    → IsResolved program (done ++ before) line

pub option_size : (program : List Line) (words : ℕ) (line : List ℕ) (s : Option code.Statement) (first : Option Insn)
    → IsInsnOfLine program words (statement_read line s) first → option_length first ≡ option_length s
option_size program words line None None is = refl
option_size program words line None (Some i) is = absurd is
option_size program words line (Some s) None is = absurd is
option_size program words line (Some s) (Some i) is = refl

pub resolved_from : (program before : List Line) (words : ℕ) (here : Line) (first : Option Insn) → words ≡ asm.words_in before
    → IsResolvedAs program words before here first → IsResolved program before here
resolved_from program before words here first count is = record { is_new = is.is_new; has_insn = by here.statement first is.is_insn }
  where
    by : (s : Option Statement) (first : Option Insn) → IsInsnOfLine program words s first → (statement : Statement) → s ≡ Some statement
        → (i : Insn) × IsInsnOf program (asm.words_in before) statement i
    by None first is = λ statement e. absurd (cc)
    by (Some s) None is = absurd is
    by (Some s) (Some i) is = λ statement e.
        let same : s ≡ statement = cc in
        (i, subst (λ k. IsInsnOf program k statement i) count (subst (λ t. IsInsnOf program words t i) same is))

statements-append : (a b : List Line) → asm.words_in (a ++ b) ≡ asm.words_in a + asm.words_in b
statements-append [] b = omega arith
statements-append (l ∷ a) b = by l.statement (statements-append a b)
  where
    by : (s : Option Statement) → asm.words_in (a ++ b) ≡ asm.words_in a + asm.words_in b
        → length (option_to_list s ++ (statements_of (a ++ b))) ≡ length (option_to_list s ++ (statements_of a)) + length (statements_of b)
    by None e = e
    by (Some s) e = omega arith

-- a line more is resolved
pub resolved_cons : (program done lines : List Line) (here : Line) → IsResolved program done here → AllResolved program (done ++ here ∷ []) lines
    → AllResolved program done (here ∷ lines)
resolved_cons program done lines here first others [] line after e =
    let same : here ≡ line = cc in
    let nothing : done ≡ done ++ [] = sym (append-nil done) in
    subst (λ d. IsResolved program d line) nothing (subst (IsResolved program done) same first)
resolved_cons program done lines here first others (x ∷ before) line after e =
    let same : here ≡ x = cc in
    let tail : lines ≡ before ++ line ∷ after = cc in
    let place : (done ++ here ∷ []) ++ before ≡ done ++ x ∷ before = append_assoc done (here ∷ []) before ∙ ap (λ k. done ++ k ∷ before) same in
    subst (λ d. IsResolved program d line) place (others before line after tail)

insns_cons : (program : List Line) (words : ℕ) (s : Option Statement) (first : Option Insn) (statements : List Statement) (others : List Insn)
    → IsInsnOfLine program words s first → AreInsns program (words + option_length first) statements others
    → AreInsns program words (option_to_list s ++ statements) (option_to_list first ++ others)
insns_cons program words None None statements others is more = let same : words + 0 ≡ words = omega arith in
    subst (λ k. AreInsns program k statements others) same more
insns_cons program words None (Some i) statements others is more = absurd is
insns_cons program words (Some s) None statements others is more = absurd is
insns_cons program words (Some s) (Some i) statements others is more = (is, more)

-- the lines that are left, with what stands before them
pub record IsAt (program done rest : List Line) (n words : ℕ) : Type 0 where
  pub split : program ≡ done ++ rest
  pub line_is : n ≡ 1 + length done
  pub words_is : words ≡ asm.words_in done

pub next_at : (program done : List Line) (line : List ℕ) (l : code_lines.Line) (rest : List Line) (n words : ℕ)
    → IsAt program done (line_says line l ∷ rest) n words → IsAt program (done ++ line_says line l ∷ []) rest (n + 1) (words + option_length l.statement)
next_at program done line l rest n words at =
    let size = length-append done (line_says line l ∷ []) in
    let line_is = at.line_is in
    let words_is = at.words_is in
    let count = statements-append done (line_says line l ∷ []) in
    let one = words_here line l.statement in
    record { split = at.split ∙ sym (append_assoc done (line_says line l ∷ []) rest); line_is = omega arith; words_is = omega arith }

-- what the instructions of the lines show
record AreResolvedAs (program done rest : List Line) (words : ℕ) (insns : List Insn) : Type 0 where
  resolved : AllResolved program done rest
  are_insns : AreInsns program words (statements_of rest) insns

pub nothing_left : (program done : List Line) → AllResolved program done []
nothing_left program done [] line after e = absurd (cc)
nothing_left program done (x ∷ before) line after e = absurd (cc)

insns_yes : (program : List Line) (definitions : Definitions) → AreDefinitions program definitions
    → (n words : ℕ) (lines : List (List ℕ)) (ls : List code_lines.Line) (done : List Line) (insns : List Insn)
    → AreRead words lines ls → IsAt program done (program_of lines ls) n words → insns_of definitions n words lines ≡ Ok insns
    → AreResolvedAs program done (program_of lines ls) words insns
unfolding insns_of
insns_yes program definitions known n words [] [] done insns read at e =
    record { resolved = nothing_left program done; are_insns = subst (AreInsns program words []) (same_ok {E = Position} [] insns e) tt }
insns_yes program definitions known n words [] (l ∷ ls) done insns read at e = absurd read
insns_yes program definitions known n words (line ∷ lines) [] done insns read at e = absurd read
insns_yes program definitions known n words (line ∷ lines) (l ∷ ls) done insns read at e =
    let b = bind_ok (on_line n (line_insn definitions n words line)) _ insns e in
    let first = b.0 in
    let c = bind_ok (insns_of definitions (n + 1) (words + option_length first) lines) _ insns b.2 in
    let one = line_yes program definitions known words line done (program_of lines ls) n l first at.split at.line_is read.0
    (on_line_ok n (line_insn definitions n words line) first b.1) in
    let size = option_size program words line l.statement first one.is_insn in
    let rest : insns_of definitions (n + 1) (words + option_length l.statement) lines ≡ Ok c.0 =
    ap (λ k. insns_of definitions (n + 1) (words + k) lines) (sym size) ∙ c.1 in
    let more = insns_yes program definitions known (n + 1) (words + option_length l.statement) lines ls (done ++ line_says line l ∷ []) c.0 read.1
    (next_at program done line l (program_of lines ls) n words at) rest in
    record {
      resolved = resolved_cons program done (program_of lines ls) (line_says line l)
          (resolved_from program done words (line_says line l) first at.words_is one) more.resolved;
      are_insns = subst (AreInsns program words (statements_of (program_of (line ∷ lines) (l ∷ ls)))) (same_ok {E = Position} _ insns c.2)
          (insns_cons program words (statement_read line l.statement) first (statements_of (program_of lines ls)) c.0 one.is_insn
          (subst (λ k. AreInsns program (words + k) (statements_of (program_of lines ls)) c.0) (sym size) more.are_insns));
    }

-- ---- and back

record HasFirst (program : List Line) (words : ℕ) (s : Option Statement) (statements : List Statement) (insns : List Insn) : Type 0 where
  first : Option Insn
  others : List Insn
  split : option_to_list first ++ others ≡ insns
  is_insn : IsInsnOfLine program words s first
  are_insns : AreInsns program (words + option_length first) statements others

first_insn : (program : List Line) (words : ℕ) (s : Option Statement) (statements : List Statement) (insns : List Insn)
    → AreInsns program words (option_to_list s ++ statements) insns → HasFirst program words s statements insns
first_insn program words None statements insns are =
    let same : words ≡ words + 0 = omega arith in
    record { first = None; others = insns; split = refl; is_insn = tt; are_insns = subst (λ k. AreInsns program k statements insns) same are }
first_insn program words (Some s) statements [] are = absurd are
first_insn program words (Some s) statements (i ∷ insns) are = record { first = Some i; others = insns; split = refl; is_insn = are.0; are_insns = are.1 }

pub resolved_first : (program done lines : List Line) (here : Line) → AllResolved program done (here ∷ lines) → IsResolved program done here
resolved_first program done lines here all = subst (λ d. IsResolved program d here) (append-nil done) (all [] here lines refl)

pub resolved_rest : (program done lines : List Line) (here : Line) → AllResolved program done (here ∷ lines) → AllResolved program (done ++ here ∷ []) lines
resolved_rest program done lines here all = λ before line after e.
    subst (λ d. IsResolved program d line) (sym (append_assoc done (here ∷ []) before)) (all (here ∷ before) line after (ap (λ k. here ∷ k) e))

insns_no : (program : List Line) (definitions : Definitions) → AreDefinitions program definitions
    → (n words : ℕ) (lines : List (List ℕ)) (ls : List code_lines.Line) (done : List Line) (insns : List Insn)
    → AreRead words lines ls → IsAt program done (program_of lines ls) n words → AllResolved program done (program_of lines ls)
    → AreInsns program words (statements_of (program_of lines ls)) insns → insns_of definitions n words lines ≡ Ok insns
insns_no program definitions known n words [] [] done [] read at all are = insns_of-nil definitions n words
insns_no program definitions known n words [] [] done (i ∷ insns) read at all are = absurd are
insns_no program definitions known n words [] (l ∷ ls) done insns read at all are = absurd read
insns_no program definitions known n words (line ∷ lines) [] done insns read at all are = absurd read
insns_no program definitions known n words (line ∷ lines) (l ∷ ls) done insns read at all are =
    let f = first_insn program words (statement_read line l.statement) (statements_of (program_of lines ls)) insns are in
    let here = line_says line l in
    let new = (resolved_first program done (program_of lines ls) here all).is_new in
    let one = line_no program definitions known words line done (program_of lines ls) n l f.first at.split at.line_is read.0
    (record { is_new = new; is_insn = f.is_insn }) in
    let size = option_size program words line l.statement f.first f.is_insn in
    let more = insns_no program definitions known (n + 1) (words + option_length l.statement) lines ls (done ++ here ∷ []) f.others read.1
    (next_at program done line l (program_of lines ls) n words at) (resolved_rest program done (program_of lines ls) here all)
    (subst (λ k. AreInsns program (words + k) (statements_of (program_of lines ls)) f.others) size f.are_insns) in
    let rest : insns_of definitions (n + 1) (words + option_length f.first) lines ≡ Ok f.others = ap (λ k. insns_of definitions (n + 1) (words + k) lines) size
    ∙ more in
    insns_of-ok definitions n words line lines f.first (sym one)
    ∙ (ap (λ r. r >>= λ others. Ok (option_to_list f.first ++ others)) rest ∙ ap Ok f.split)

-- ---- words

words_from : (program : List Line) (number : ℕ) (statements : List Statement) (insns : List Insn) (words : List ℕ) → AreInsns program number statements insns
    → AreWordsOf words insns → AreWords program number statements words
words_from program number [] [] [] are of = tt
words_from program number [] [] (w ∷ words) are of = absurd of
words_from program number [] (i ∷ insns) words are of = absurd are
words_from program number (s ∷ statements) [] words are of = absurd are
words_from program number (s ∷ statements) (i ∷ insns) [] are of = absurd of
words_from program number (s ∷ statements) (i ∷ insns) (w ∷ words) are of =
    ((i, are.0, of.0), words_from program (number + 1) statements insns words are.1 of.1)

record HasInsns (program : List Line) (number : ℕ) (statements : List Statement) (words : List ℕ) : Type 0 where
  insns : List Insn
  are_insns : AreInsns program number statements insns
  are_words : AreWordsOf words insns

insns_from : (program : List Line) (number : ℕ) (statements : List Statement) (words : List ℕ) → AreWords program number statements words
    → HasInsns program number statements words
insns_from program number [] [] are = record { insns = []; are_insns = tt; are_words = tt }
insns_from program number [] (w ∷ words) are = absurd are
insns_from program number (s ∷ statements) [] are = absurd are
insns_from program number (s ∷ statements) (w ∷ words) are =
    let more = insns_from program (number + 1) statements words are.1 in
    record { insns = are.0.0 ∷ more.insns; are_insns = (are.0.1, more.are_insns); are_words = (are.0.2, more.are_words) }

-- ---- the whole text

-- the code's definitions of labels
abbrev pub text_definitions : List ℕ → Definitions
text_definitions text = λ label. definition_of label 1 0 (lines_of text)

pub definitions_known : (text : List ℕ) (ls : List code_lines.Line) → AreRead 0 (lines_of text) ls
    → AreDefinitions (program_of (lines_of text) ls) (text_definitions text)
definitions_known text ls read label = definition_is label 1 0 (lines_of text) ls read

pub start_at : (program : List Line) → IsAt program [] program 1 0
start_at program = record { split = refl; line_is = refl; words_is = refl }

-- what the code assembles is the text's assembly
pub assembled_is : (text words : List ℕ) → AreWordsIn words (assembled text) → IsAssembly text words
unfolding assembled
assembled_is text words (insns, e, of) =
    let b = bind_ok (all_read 1 0 (lines_of text)) _ insns e in
    let r = all_read-lines 1 0 (lines_of text) b.1 in
    let program = program_of (lines_of text) r.0 in
    let is = read_program 0 (lines_of text) r.0 r.1 (lit≤ tt) in
    let fits = is.fits in
    let all = insns_yes program (text_definitions text) (definitions_known text r.0 r.1) 1 0 (lines_of text) r.0 [] insns r.1 (start_at program) b.2 in
    record {
      program = program;
      is_program = record { are_lines = is.are_lines; fits = omega arith };
      are_resolved = all.resolved;
      are_words = words_from program 0 (statements_of program) insns words all.are_insns of;
    }

-- and the text's assembly is what the code assembles
pub is_assembled : (text words : List ℕ) → IsAssembly text words → AreWordsIn words (assembled text)
is_assembled text words is =
    let fits = is.is_program.fits in
    let w = program_read 0 (lines_of text) is.program is.is_program.are_lines (omega arith) in
    let program = program_of (lines_of text) w.ls in
    let same : program ≡ is.program = w.says in
    let has = insns_from is.program 0 (statements_of is.program) words is.are_words in
    let resolved : AllResolved program [] program = subst (λ p. AllResolved p [] p) (sym same) is.are_resolved in
    let are : AreInsns program 0 (statements_of program) has.insns = subst (λ p. AreInsns p 0 (statements_of p) has.insns) (sym same) has.are_insns in
    let all = insns_no program (text_definitions text) (definitions_known text w.ls w.are_read) 1 0 (lines_of text) w.ls [] has.insns w.are_read
    (start_at program) resolved are in
    (has.insns, assembled-read text (text_definitions text) (read-all_read 1 0 (lines_of text) w.ls w.are_read) (λ label. refl) ∙ all, has.are_words)
