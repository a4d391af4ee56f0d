-- A text has one meaning at most, or one fault.
use Rattle.std.proofs.Common.{◌≡◌, ◌≢◌, ℕ, ◌+◌, ◌*◌, ◌<◌, ◌≤◌, inl, inr, cond, eqb, List, [], ◌∷◌, ◌++◌, length, refl, sym, ap, ◌∙◌, subst, arith, append-nil}
use Rattle.std.proofs.Common.{Option, Some, None, Result, Ok, Err, ℤ, pos, ◌-ℤ◌}
use Rattle.std.specs.Option.{option_to_list}
use Rattle.std.proofs.lemmas.Bool.{eqb-true}
use Rattle.std.proofs.lemmas.Bool.Decides.{nat_tests}
use mathlib.Core.List.{append_assoc}
use Rattle.ci_isa.specs.declared.instruction.Insn.{Insn}
use Rattle.ci_reading.specs.Tokens as reading
use Rattle.ci_asm.specs.declared.scanner.Token.{Token}
use Rattle.ci_asm.specs.declared.faults.Rule.{Rule}
use Rattle.ci_asm.specs.declared.faults.Rule.TheVariants.{OutOfField, Undefined, DefinedTwice}
use Rattle.ci_asm.specs.declared.faults.Fault.{Fault}
use Rattle.ci_asm.specs.declared.labels.Definition.{Definition}
use Rattle.ci_asm.specs.declared.statements.Statement as code
use Rattle.ci_asm.specs.declared.lines.Line as code_lines
use Rattle.ci_asm.specs.private.Tokens.{next_token, text_of}
use Rattle.ci_asm.specs.private.Shapes.{fits, field_of}
use Rattle.ci_asm.specs.private.Statements.{◌>>=◌, fault, read_line, insn_of, signed_value}
use Rattle.ci_asm.specs.private.Programs.{position, kind_of, on_line, line_at, all_read, Definitions, once_at, defined_once, offset_between, reaching}
use Rattle.ci_asm.specs.private.Programs.{resolved, statement_insn, line_insn, option_length, insns_of, assembled}
use Rattle.ci_asm.specs.Lines.{lines_of}
use Rattle.ci_asm.specs.Lexicon as lex
use Rattle.ci_reading.specs.Tokens.{text_end}
use Rattle.ci_asm.specs.Lexicon.{name, comma, Stands}
use Rattle.ci_asm.specs.declared.slots.Field.{Field}
use Rattle.ci_asm.specs.Forms.{Statement, to_label, IsIn, IsNumber, IsStatement}
use Rattle.ci_asm.specs.Assembly as asm
use Rattle.ci_asm.specs.Assembly.{Line, label_tokens, StandsInLine, HasStatement, IsLine, AreLines, statements_of, Defines, IsOffset}
use Rattle.ci_asm.specs.Assembly.{IsResolved, IsGoodFront, IsFaultOfLine, IsFaultOfLabel, twice, undefined, too_far, HasFault, of_line, of_label}
use Rattle.ci_asm.proofs.FilledSlots.{label_text}
use Rattle.ci_asm.proofs.SymbolsMet.{Meets, same_symbol, line_meets}
use Rattle.ci_asm.proofs.TestLaws.{by_test}
use Rattle.ci_asm.proofs.ReadOperands.{fits_in}
use Rattle.ci_asm.proofs.AssemblySteps.{all_read-ok, all_read-err, insns_of-ok, insns_of-err, behind, assembled-read, assembled-unread}
use Rattle.ci_asm.proofs.ReadLines.{statement_says, statement_read, line_says, HasRoom, line_read, body_of, same_label, ReachesInLine}
use Rattle.ci_asm.proofs.ReadPrograms.{AreRead, program_of, words_with, program_read, read-all_read, IsDefinition, AreDefinitions, text_definitions}
use Rattle.ci_asm.proofs.ReadPrograms.{definitions_known, defined_in, same_length, same_label_place, offset_signed, said_with, once_no, line_insn-read, line_no}
use Rattle.ci_asm.proofs.ReadPrograms.{IsInsnOfLine, option_size, IsAt, next_at, start_at, AllResolved, resolved_first, resolved_rest}
use Rattle.ci_asm.proofs.LineFaults.{line_fault, statement_extends, one_kind}

-- ---- what stands in a line

pub data Compares (a b : List lex.Token) (s u : lex.Symbol) (c d : ℕ) : Type 0 where
  equal : a ≡ b → s ≡ u → c ≡ d → Compares a b s u c d
  shorter : (x : lex.Token) (rest : List lex.Token) → b ≡ a ++ x ∷ rest → s ≡ reading.token x → Compares a b s u c d
  longer : (x : lex.Token) (rest : List lex.Token) → a ≡ b ++ x ∷ rest → u ≡ reading.token x → Compares a b s u c d

compares : (line : List ℕ) (t : Token) (a b : List lex.Token) (s u : lex.Symbol) (c d : ℕ) → Meets line t a s c → Meets line t b u d → Compares a b s u c d
compares line t [] [] s u c d m n = equal refl (same_symbol line t s u m.0 n.0) (sym m.1 ∙ n.1)
compares line t [] (y ∷ b) s u c d m n = shorter y b refl (same_symbol line t s (reading.token y) m.0 n.0)
compares line t (x ∷ a) [] s u c d m n = longer x a refl (same_symbol line t u (reading.token x) n.0 m.0)
compares line t (x ∷ a) (y ∷ b) s u c d m n =
    let symbols : reading.token x ≡ reading.token y = same_symbol line t (reading.token x) (reading.token y) m.0 n.0 in
    let e : x ≡ y = cc in
    elim (compares line (next_token line t.end) a b s u c d m.1 n.1) [
      | equal p q r ↦ equal (λ i. e i ∷ p i) q r
      | shorter z rest p q ↦ shorter z rest (λ i. sym e i ∷ p i) q
      | longer z rest p q ↦ longer z rest (λ i. e i ∷ p i) q
    ]

standing_meets : (line : List ℕ) (label : Option (List ℕ)) (tokens : List lex.Token) (symbol : lex.Symbol) (column : ℕ)
    → StandsInLine line label tokens symbol column → Meets line (next_token line (body_of line).from) tokens symbol column
standing_meets line label tokens symbol column s =
    let b = body_of line in
    let e = same_label line label (label_text line b.label) s.has_label b.has_label in
    b.enters tokens symbol column (subst (λ l. Stands line (label_tokens l ++ tokens) symbol column) e s.stands)

pub stand_compared : (line : List ℕ) (k l : Option (List ℕ)) (a b : List lex.Token) (s u : lex.Symbol) (c d : ℕ) → StandsInLine line k a s c
    → StandsInLine line l b u d → Compares a b s u c d
stand_compared line k l a b s u c d one two =
    compares line (next_token line (body_of line).from) a b s u c d (standing_meets line k a s c one) (standing_meets line l b u d two)

-- what goes on a good front is good where it leads on
front_of : (words : ℕ) (a : List lex.Token) (x : lex.Token) (rest : List lex.Token) → IsGoodFront words (a ++ x ∷ rest) → IsGoodFront words (a ++ x ∷ [])
front_of words a x rest (inl e) = absurd (not_empty a x rest e)
  where
    not_empty : (a : List lex.Token) (x : lex.Token) (rest : List lex.Token) → a ++ x ∷ rest ≢ []
    not_empty [] x rest = λ e. absurd (cc)
    not_empty (y ∷ a) x rest = λ e. absurd (cc)
front_of words a x rest (inr (room, (others, statement, is))) =
    inr (
      room,
      (
        rest ++ others,
        statement,
        subst (λ ts. IsStatement ts statement)
            (append_assoc a (x ∷ rest) others ∙ sym (append_assoc a (x ∷ []) (rest ++ others))) is,
      ),
    )

-- a line has one fault at most
one_fault : (words : ℕ) (line : List ℕ) (kind column other place : ℕ) → IsFaultOfLine words line kind column → IsFaultOfLine words line other place
    → (kind ≡ other) × (column ≡ place)
one_fault words line kind column other place f g = elim (stand_compared line f.label g.label f.front g.front f.symbol g.symbol column place f.stands g.stands) [
  | equal p q r ↦ (one_kind f.is_kind (subst (λ s. asm.IsKind f.front s other) (sym q) (subst (λ a. asm.IsKind a g.symbol other) (sym p) g.is_kind)), r)
  | shorter x rest p q ↦ absurd (f.bad (subst (asm.IsGoodNext words f.front) (sym q) (front_of words f.front x rest (subst (IsGoodFront words) p g.good))))
  | longer x rest p q ↦ absurd (g.bad (subst (asm.IsGoodNext words g.front) (sym q) (front_of words g.front x rest (subst (IsGoodFront words) p f.good))))
]

-- a line with a fault is no line of the language
abbrev HasSpace : ℕ → Option Statement → Type 0
HasSpace words None = Unit {0}
HasSpace words (Some s) = words < 262144

no_fault : (words : ℕ) (line : List ℕ) (is : Line) (kind column : ℕ) → IsLine line is → HasSpace words is.statement → ¬ IsFaultOfLine words line kind column
no_fault words line is kind column l room f = elim (stand_compared line f.label is.label f.front l.tokens f.symbol text_end column l.end f.stands l.ends) [
  | equal p q r ↦ f.bad (subst (asm.IsGoodNext words f.front) (sym q) (is.statement, subst (λ a. HasStatement a is.statement) (sym p) l.has_statement))
  | shorter x rest p q ↦ f.bad (subst (asm.IsGoodNext words f.front) (sym q) (good_front x rest is.statement p l.has_statement room))
  | longer x rest p q ↦ absurd (cc)
]
  where
    good_front : (x : lex.Token) (rest : List lex.Token) (s : Option Statement) → l.tokens ≡ f.front ++ x ∷ rest → HasStatement l.tokens s → HasSpace words s
        → IsGoodFront words (f.front ++ x ∷ [])
    good_front x rest None p has room = front_of words f.front x rest (inl (sym p ∙ has))
    good_front x rest (Some s) p has room = front_of words f.front x rest
        (inr (room, ([], s, subst (λ ts. IsStatement ts s) (p ∙ sym (append-nil (f.front ++ x ∷ rest))) has)))

space_in : (words : ℕ) (line : List ℕ) (s : Option code.Statement) → words ≤ 262144 → HasRoom (eqb words 262144) s → HasSpace words (statement_read line s)
space_in words line None few room = tt
space_in words line (Some s) few room = grind (arith, nat_tests)

-- a line with a fault is read as that fault
record IsToldAs (r : Result code_lines.Line Fault) (kind column : ℕ) : Type 0 where
  f : Fault
  told : r ≡ Err f
  is_kind : kind_of f.rule ≡ kind
  is_column : f.place ≡ column

fault_read : (words : ℕ) (line : List ℕ) (kind column : ℕ) → words ≤ 262144 → IsFaultOfLine words line kind column
    → IsToldAs (read_line line (eqb words 262144)) kind column
fault_read words line kind column few is = by (read_line line (eqb words 262144)) refl
  where
    by : (r : Result code_lines.Line Fault) → read_line line (eqb words 262144) ≡ r → IsToldAs r kind column
    by (Err f) e = let same = one_fault words line (kind_of f.rule) f.place kind column (line_fault words line f few e) is in
        record { f = f; told = refl; is_kind = same.0; is_column = same.1 }
    by (Ok l) e = let r = line_read line (eqb words 262144) l e in absurd
        (no_fault words line (line_says line l) kind column r.is_line (space_in words line l.statement few r.room) is)

-- ---- lines of a text

-- where a line has a fault, the lines up to it are read, and no more
all_read-bad : (n words : ℕ) (before : List (List ℕ)) (ls : List code_lines.Line) (bytes : List ℕ) (after : List (List ℕ)) (f : Fault) → AreRead words before ls
    → line_at (words + asm.words_in (program_of before ls)) bytes ≡ Err f
    → all_read n words (before ++ bytes ∷ after) ≡ Err (position (n + length before) f)
all_read-bad n words [] [] bytes after f read e =
    let count : words + 0 ≡ words = omega arith in
    let place : n + 0 ≡ n = omega arith in
    let here : line_at words bytes ≡ Err f = ap (λ k. line_at k bytes) (sym count) ∙ e in
    all_read-err n words bytes after (position n f) (ap (λ r. on_line n r >>= λ l. Ok (words + option_length l.statement)) here)
    ∙ ap (λ k. Err (position k f)) (sym place)
all_read-bad n words [] (l ∷ ls) bytes after f read e = absurd read
all_read-bad n words (line ∷ before) [] bytes after f read e = absurd read
all_read-bad n words (line ∷ before) (l ∷ ls) bytes after f read e =
    let count = words_with line l.statement (statements_of (program_of before ls)) in
    let same : words + asm.words_in (program_of (line ∷ before) (l ∷ ls)) ≡ words + option_length l.statement + asm.words_in (program_of before ls) =
    omega arith in
    let place : n + length (line ∷ before) ≡ n + 1 + length before = omega arith in
    all_read-ok n words (words + option_length l.statement) line (before ++ bytes ∷ after)
    (ap (λ r. on_line n r >>= λ l. Ok (words + option_length l.statement)) read.0)
    ∙ (all_read-bad (n + 1) (words + option_length l.statement) before ls bytes after f read.1 (ap (λ k. line_at k bytes) (sym same) ∙ e)
    ∙ ap (λ k. Err (position k f)) (sym place))

-- ---- labels

record IsToldBy (r : Result (Option Insn) Fault) (kind column : ℕ) : Type 0 where
  f : Fault
  told : r ≡ Err f
  is_kind : kind_of f.rule ≡ kind
  is_column : f.place ≡ column

module _ (program : List Line) (definitions : Definitions) (known : AreDefinitions program definitions) (words : ℕ) (line : List ℕ) where
  again : (before after : List Line) (here : Line) (n : ℕ) (t : Token) → program ≡ before ++ here ∷ after → here.label ≡ Some (text_of line t)
      → n ≡ 1 + length before → Defines before (text_of line t) → defined_once definitions n line (Some t) ≡ Err (fault DefinedTwice t.start)
  again before after here n t split at place defined = by (definitions (text_of line t)) (known (text_of line t))
    where
      by : (d : Option Definition) → IsDefinition program (text_of line t) 1 0 d → once_at n t d ≡ Err (fault DefinedTwice t.start)
      by None none = absurd (none (defined_in program before here after (text_of line t) split at))
      by (Some d) found = by_test (eqb d.line n)
          (λ same.
          let line_is = found.line_is in
          let number : d.line ≡ n = eqb-true d.line n same in
          let size : length found.before ≡ length before = omega arith in
          let lines = same_length found.before before found.line here found.after after size (sym found.split ∙ split) in
          absurd (found.is_new (subst (λ b. Defines b (text_of line t)) (sym lines) defined)))
          (λ other. ap (λ b. cond b (Ok tt) (Err (fault DefinedTwice t.start))) other)

  nowhere_told : (s : code.Statement) (t : Token) → ¬ Defines program (text_of line t)
      → reaching words s t (definitions (text_of line t)) ≡ Err (fault Undefined t.start)
  nowhere_told s t none = by (definitions (text_of line t)) (known (text_of line t))
    where
      by : (d : Option Definition) → IsDefinition program (text_of line t) 1 0 d → reaching words s t d ≡ Err (fault Undefined t.start)
      by None is = refl
      by (Some d) is = absurd (none (defined_in program is.before is.line is.after (text_of line t) is.split is.labelled))

  far_told : (s : code.Statement) (t : Token) (n : ℤ) → IsOffset program words (text_of line t) n → ¬ IsIn (field_of s.mnemonic) n
      → reaching words s t (definitions (text_of line t)) ≡ Err (fault OutOfField t.start)
  far_told s t n offset outside = by (definitions (text_of line t)) (known (text_of line t))
    where
      by : (d : Option Definition) → IsDefinition program (text_of line t) 1 0 d → reaching words s t d ≡ Err (fault OutOfField t.start)
      by None is = absurd (is (defined_in program offset.1.0 offset.1.1 offset.1.2 (text_of line t) offset.1.3 offset.1.4))
      by (Some d) is =
          let number = offset_between words d.words in
          let place = same_label_place program (text_of line t) d offset.0 is offset.1 in
          let signed : signed_value number ≡ n = offset_signed words d.words ∙ (ap (λ k. pos (4 * k) -ℤ pos (4 * words)) place ∙ sym offset.2) in
          by_test (fits (field_of s.mnemonic) number)
          (λ ok. absurd (outside (subst (IsIn (field_of s.mnemonic)) signed (fits_in (field_of s.mnemonic) number ok))))
          (λ none. ap (λ b. cond b (Ok number) (Err (fault OutOfField t.start))) none)

  -- the label of a statement that says so
  record HasLabelToken (s : code.Statement) (field : Field) (label : List ℕ) : Type 0 where
    token : Token
    has : s.operands.label ≡ Some token
    text : text_of line token ≡ label
    is_field : field_of s.mnemonic ≡ field

  label_token : (s : code.Statement) (field : Field) (with_offset : ℤ → Insn) (label : List ℕ)
      → statement_says line s ≡ to_label field with_offset label → HasLabelToken s field label
  label_token s field with_offset label says = by s.operands.label refl says
    where
      by : (o : Option Token) → s.operands.label ≡ o → said_with program definitions known words line s o ≡ to_label field with_offset label
          → HasLabelToken s field label
      by None same says = absurd (cc)
      by (Some t) same says =
          let text : text_of line t ≡ label = cc in
          let fields : field_of s.mnemonic ≡ field = cc in
          record { token = t; has = same; text = text; is_field = fields }

  -- the column of the label
  same_column : (label : Option (List ℕ)) (s : code.Statement) (t : Token) (said : Statement) (front : List lex.Token) (column : ℕ)
      → ReachesInLine line label t (statement_says line s) → IsStatement (front ++ name (text_of line t) ∷ []) said
      → StandsInLine line label front (reading.token (name (text_of line t))) column → t.start ≡ column
  same_column label s t said front column target is stands = elim (stand_compared line label label target.front front _ _ t.start column target.stands stands) [
    | equal p q r ↦ r
    | shorter x rest p q ↦ absurd (no_more target.front x rest front (statement_says line s) said p q target.is_statement is)
    | longer x rest p q ↦ absurd (no_more front x rest target.front said (statement_says line s) p q is target.is_statement)
  ]
    where
      -- the last of so many tokens that are one alone
      last_alone : (rest : List lex.Token) (x u : lex.Token) → rest ++ x ∷ [] ≡ u ∷ [] → u ≡ x
      last_alone [] x u e = cc
      last_alone (y ∷ []) x u e = absurd (cc)
      last_alone (y ∷ z ∷ rest) x u e = absurd (cc)

      more : (a : List lex.Token) (x : lex.Token) (rest : List lex.Token) (one two : Statement) → ¬ IsNumber x → x ≢ comma → IsStatement (a ++ x ∷ []) one
          → IsStatement ((a ++ x ∷ rest) ++ x ∷ []) two → ⊥
      more a x [] one two no_number no_comma first second = no_comma (statement_extends (a ++ x ∷ []) x [] one two first second).0
      more a x (y ∷ rest) one two no_number no_comma first second =
          let further = statement_extends (a ++ x ∷ []) y (rest ++ x ∷ []) one two first
          (subst (λ k. IsStatement k two) (append_assoc a (x ∷ y ∷ rest) (x ∷ []) ∙ sym (append_assoc a (x ∷ []) (y ∷ (rest ++ x ∷ [])))) second) in
          no_number (subst IsNumber (last_alone rest x further.1.0 further.1.1) further.1.2)

      no_more : (a : List lex.Token) (x : lex.Token) (rest b : List lex.Token) (one two : Statement) → b ≡ a ++ x ∷ rest
          → reading.token (name (text_of line t)) ≡ reading.token x → IsStatement (a ++ name (text_of line t) ∷ []) one
          → IsStatement (b ++ name (text_of line t) ∷ []) two → ⊥
      no_more a x rest b one two p q first second =
          let last = name (text_of line t) in
          let e : last ≡ x = cc in
          let there : IsStatement ((a ++ x ∷ rest) ++ last ∷ []) two = subst (λ k. IsStatement (k ++ last ∷ []) two) p second in
          let here : IsStatement ((a ++ last ∷ rest) ++ last ∷ []) two = subst (λ k. IsStatement ((a ++ k ∷ rest) ++ last ∷ []) two) (sym e) there in
          more a last rest one two (λ is. is) (λ same. absurd (cc)) first here

  -- the fault that is told of a label that a statement reaches
  record IsToldReach (s : code.Statement) (t : Token) (kind : ℕ) : Type 0 where
    rule : Rule
    is_kind : kind_of rule ≡ kind
    reaches : reaching words s t (definitions (text_of line t)) ≡ Err (fault rule t.start)

  statement_told : (n : ℕ) (l : code_lines.Line) (s : code.Statement) (f : Fault) → line_at words line ≡ Ok l → l.statement ≡ Some s
      → defined_once definitions n line l.label ≡ Ok tt → resolved definitions words line s s.operands.label ≡ Err f
      → line_insn definitions n words line ≡ Err f
  statement_told n l s f read same once e =
      line_insn-read program definitions known words line n l read
      ∙ (ap (λ r. r >>= λ _. statement_insn definitions words line l.statement) once
      ∙ (ap (statement_insn definitions words line) same ∙ ap (λ r. r >>= λ n. Ok (Some (insn_of s.mnemonic s.operands.registers (signed_value n)))) e))

  reach_told : (n : ℕ) (l : code_lines.Line) (field : Field) (with_offset : ℤ → Insn) (label : List ℕ) (front : List lex.Token) (column kind : ℕ)
      → line_at words line ≡ Ok l → defined_once definitions n line l.label ≡ Ok tt
      → statement_read line l.statement ≡ Some (to_label field with_offset label) → IsStatement (front ++ name label ∷ []) (to_label field with_offset label)
      → StandsInLine line (label_text line l.label) front (reading.token (name label)) column
      → ((s : code.Statement) (t : Token) → text_of line t ≡ label → field_of s.mnemonic ≡ field → IsToldReach s t kind)
      → IsToldBy (line_insn definitions n words line) kind column
  reach_told n l field with_offset label front column kind read once says is stands told = by l.statement refl says
    where
      by : (s : Option code.Statement) → l.statement ≡ s → statement_read line s ≡ Some (to_label field with_offset label)
          → IsToldBy (line_insn definitions n words line) kind column
      by None same says = absurd (cc)
      by (Some s) same says =
          let r = line_read line (eqb words 262144) l read in
          let said : statement_says line s ≡ to_label field with_offset label = cc in
          let h = label_token s field with_offset label said in
          let t = h.token in
          let reach = told s t h.text h.is_field in
          let resolves : resolved definitions words line s s.operands.label ≡ Err (fault reach.rule t.start) = ap (resolved definitions words line s) h.has
          ∙ reach.reaches in
          let is_here = subst (λ k. IsStatement (front ++ name k ∷ []) (to_label field with_offset label)) (sym h.text) is in
          let stands_here = subst (λ k. StandsInLine line (label_text line l.label) front (reading.token (name k)) column) (sym h.text) stands in
          record {
            f = fault reach.rule t.start;
            told = statement_told n l s (fault reach.rule t.start) read same once resolves;
            is_kind = reach.is_kind;
            is_column = same_column (label_text line l.label) s t (to_label field with_offset label) front column (r.target s t same h.has) is_here stands_here;
          }

  -- a line with a fault by a label is read as that fault
  label_told : (before after : List Line) (n : ℕ) (l : code_lines.Line) (kind column : ℕ) → program ≡ before ++ line_says line l ∷ after → n ≡ 1 + length before
      → words ≡ asm.words_in before → line_at words line ≡ Ok l
      → IsFaultOfLabel program before line (line_says line l) kind column → IsToldBy (line_insn definitions n words line) kind column
  label_told before after n l kind _ split place count read (twice {label} {column} at defined stands) = by l.label refl at
    where
      by : (o : Option Token) → l.label ≡ o → label_text line o ≡ Some label → IsToldBy (line_insn definitions n words line) 6 column
      by None same e = absurd (cc)
      by (Some t) same e =
          let text : text_of line t ≡ label = cc in
          let r = line_read line (eqb words 262144) l read in
          let one = line_meets line [] (reading.token (name (text_of line t))) t.start (r.label_stands t same) in
          let two = line_meets line [] (reading.token (name label)) column stands in
          let here : label_text line l.label ≡ Some (text_of line t) = ap (label_text line) same in
          let told = again before after (line_says line l) n t split here place (subst (Defines before) (sym text) defined) in
          record {
            f = fault DefinedTwice t.start;
            told = line_insn-read program definitions known words line n l read
                ∙ (ap (λ o. defined_once definitions n line o >>= λ _. statement_insn definitions words line l.statement) same
                ∙ ap (λ r. r >>= λ _. statement_insn definitions words line l.statement) told);
            is_kind = refl;
            is_column = sym one.1 ∙ two.1;
          }
  label_told before after n l kind _ split place count read (undefined {label} {field} {with_offset} {front} {column} new says is stands none) =
      reach_told n l field with_offset label front column 5 read
      (once_no program definitions known words line before after (line_says line l) n l.label split refl place new) says is stands
      (λ s t text same. record { rule = Undefined; is_kind = refl; reaches = nowhere_told s t (λ defines. none (subst (Defines program) text defines)) })
  label_told before after n l kind _ split place count read (too_far {label} {field} {with_offset} {front} {column} {n = z} new says is stands offset outside) =
      reach_told n l field with_offset label front column 4 read
      (once_no program definitions known words line before after (line_says line l) n l.label split refl place new) says is stands
      (λ s t text same. record {
        rule = OutOfField;
        is_kind = refl;
        reaches = far_told s t z (subst (λ k. IsOffset program words k z) (sym text) (subst (λ k. IsOffset program k label z) (sym count) offset))
            (λ within. outside (subst (λ f. IsIn f z) same within));
      })

-- ---- the lines before a fault by a label

first_for : (program done : List Line) (words : ℕ) (here : Line) → IsResolved program done here → words ≡ asm.words_in done
    → (first : Option Insn) × IsInsnOfLine program words here.statement first
first_for program done words here is count = by here.statement refl
  where
    by : (s : Option Statement) → here.statement ≡ s → (first : Option Insn) × IsInsnOfLine program words s first
    by None e = (None, tt)
    by (Some s) e = let has = is.has_insn s e in (Some has.0, subst (λ k. asm.IsInsnOf program k s has.0) (sym count) has.1)

insns_bad : (program : List Line) (definitions : Definitions) → AreDefinitions program definitions
    → (n words : ℕ) (before : List (List ℕ)) (bytes : List ℕ) (after : List (List ℕ)) (ls : List code_lines.Line) (done front : List Line) (here : Line)
    (back : List Line) (kind column : ℕ)
    → AreRead words (before ++ bytes ∷ after) ls → IsAt program done (program_of (before ++ bytes ∷ after) ls) n words
    → program_of (before ++ bytes ∷ after) ls ≡ front ++ here ∷ back → AreLines before front
    → AllResolved program done front → IsFaultOfLabel program (done ++ front) bytes here kind column
    → insns_of definitions n words (before ++ bytes ∷ after) ≡ Err (record { kind = kind; line = n + length before; column = column + 1 })
insns_bad program definitions known n words [] bytes after [] done front here back kind column read at split are all is = absurd read
insns_bad program definitions known n words [] bytes after (l ∷ ls) done (x ∷ front) here back kind column read at split are all is = absurd are
insns_bad program definitions known n words [] bytes after (l ∷ ls) done [] here back kind column read at split are all is =
    let here_is : here ≡ line_says bytes l = cc in
    let there = subst (λ d. IsFaultOfLabel program d bytes here kind column) (append-nil done) is in
    let told = label_told program definitions known words bytes done (program_of after ls) n l kind column at.split at.line_is at.words_is read.0
    (subst (λ h. IsFaultOfLabel program done bytes h kind column) here_is there) in
    let place : n ≡ n + 0 = omega arith in
    insns_of-err definitions n words bytes after told.f (sym told.told)
    ∙ (λ i. Err (record { kind = told.is_kind i; line = place i; column = told.is_column i + 1 }))
insns_bad program definitions known n words (line ∷ before) bytes after [] done front here back kind column read at split are all is = absurd read
insns_bad program definitions known n words (line ∷ before) bytes after (l ∷ ls) done [] here back kind column read at split are all is = absurd are
insns_bad program definitions known n words (line ∷ before) bytes after (l ∷ ls) done (x ∷ front) here back kind column read at split are all is =
    let head : line_says line l ≡ x = cc in
    let tail : program_of (before ++ bytes ∷ after) ls ≡ front ++ here ∷ back = cc in
    let resolved_here = subst (IsResolved program done) (sym head) (resolved_first program done front x all) in
    let f = first_for program done words (line_says line l) resolved_here at.words_is in
    let one = line_no program definitions known words line done (program_of (before ++ bytes ∷ after) ls) n l f.0 at.split at.line_is read.0
    (record { is_new = resolved_here.is_new; is_insn = f.1 }) in
    let size = option_size program words line l.statement f.0 f.1 in
    let place : n + 1 + length before ≡ n + length (line ∷ before) = omega arith in
    let later = subst (λ d. AllResolved program d front) (ap (λ k. done ++ k ∷ []) (sym head)) (resolved_rest program done front x all) in
    let fault_there = subst (λ d. IsFaultOfLabel program d bytes here kind column)
    (ap (λ k. done ++ k ∷ front) (sym head) ∙ sym (append_assoc done (line_says line l ∷ []) front)) is in
    let more = insns_bad program definitions known (n + 1) (words + option_length l.statement) before bytes after ls
    (done ++ line_says line l ∷ []) front here back kind column read.1
    (next_at program done line l (program_of (before ++ bytes ∷ after) ls) n words at) tail are.1 later fault_there in
    let rest : insns_of definitions (n + 1) (words + option_length f.0) (before ++ bytes ∷ after) ≡ Err
    (record { kind = kind; line = n + 1 + length before; column = column + 1 }) =
    ap (λ k. insns_of definitions (n + 1) (words + k) (before ++ bytes ∷ after)) size ∙ more in
    insns_of-ok definitions n words line (before ++ bytes ∷ after) f.0 (sym one)
    ∙ (ap (behind (option_to_list f.0)) rest ∙ (λ i. Err (record { kind = kind; line = place i; column = column + 1 })))

-- ---- texts

-- a text with a fault is assembled to that fault
pub fault_assembled : (text : List ℕ) (kind line column : ℕ) → HasFault text kind line column
    → assembled text ≡ Err (record { kind = kind; line = line; column = column })
fault_assembled text kind _ _ (of_line before after bytes program {column} split is_program is) =
    let fits = is_program.fits in
    let w = program_read 0 before program is_program.are_lines (omega arith) in
    let count : 0 + asm.words_in (program_of before w.ls) ≡ asm.words_in program = let same = ap asm.words_in w.says in omega arith in
    let told = fault_read (asm.words_in program) bytes kind column fits is in
    let there : line_at (0 + asm.words_in (program_of before w.ls)) bytes ≡ Err told.f = ap (λ k. line_at k bytes) count ∙ told.told in
    let place : 1 + length before ≡ length before + 1 = omega arith in
    assembled-unread text (position (1 + length before) told.f) (ap (all_read 1 0) split ∙ all_read-bad 1 0 before w.ls bytes after told.f w.are_read there)
    ∙ (λ i. Err (record { kind = told.is_kind i; line = place i; column = told.is_column i + 1 }))
fault_assembled text kind _ _ (of_label lines lines_after bytes before after here {column} split are is_program resolved is) =
    let fits = is_program.fits in
    let program = before ++ here ∷ after in
    let w = program_read 0 (lines_of text) program is_program.are_lines (omega arith) in
    let read = program_of (lines_of text) w.ls in
    let same : read ≡ program = w.says in
    let known = definitions_known text w.ls w.are_read in
    let all : AllResolved read [] before = subst (λ p. AllResolved p [] before) (sym same) resolved in
    let is_here : IsFaultOfLabel read before bytes here kind column = subst (λ p. IsFaultOfLabel p before bytes here kind column) (sym same) is in
    let place : 1 + length lines ≡ length lines + 1 = omega arith in
    let whole = by (lines_of text) split w.ls w.are_read same (start_at read) (definitions_known text w.ls w.are_read) all is_here in
    assembled-read text (text_definitions text) (read-all_read 1 0 (lines_of text) w.ls w.are_read) (λ label. refl)
    ∙ (whole ∙ (λ i. Err (record { kind = kind; line = place i; column = column + 1 })))
  where
    by : (all_lines : List (List ℕ)) → all_lines ≡ lines ++ bytes ∷ lines_after → (ls : List code_lines.Line) → AreRead 0 all_lines ls
        → program_of all_lines ls ≡ before ++ here ∷ after
        → IsAt (program_of all_lines ls) [] (program_of all_lines ls) 1 0 → AreDefinitions (program_of all_lines ls) (text_definitions text)
        → AllResolved (program_of all_lines ls) [] before → IsFaultOfLabel (program_of all_lines ls) before bytes here kind column
        → insns_of (text_definitions text) 1 0 all_lines ≡ Err (record { kind = kind; line = 1 + length lines; column = column + 1 })
    by all_lines e ls read same at known all is =
        let P : List (List ℕ) → Type 0 =
        λ k. AreRead 0 k ls ×
        ((program_of k ls ≡ before ++ here ∷ after) ×
        (IsAt (program_of k ls) [] (program_of k ls) 1 0 ×
        (AreDefinitions (program_of k ls) (text_definitions text) ×
        (AllResolved (program_of k ls) [] before × IsFaultOfLabel (program_of k ls) before bytes here kind column)))) in
        let q = subst P e (read, (same, (at, (known, (all, is))))) in
        ap (insns_of (text_definitions text) 1 0) e
        ∙ insns_bad (program_of (lines ++ bytes ∷ lines_after) ls) (text_definitions text) q.1.1.1.0 1 0 lines bytes lines_after ls [] before here after kind
        column q.0 q.1.1.0 q.1.0 are q.1.1.1.1.0 q.1.1.1.1.1
