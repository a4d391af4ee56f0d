-- The fault of a text that the code tells is the one of the definitions.
use Rattle.std.proofs.Common.{◌≡◌, ◌≢◌, ℕ, ◌+◌, ◌<◌, ◌≤◌, inl, inr, true, false, cond, eqb, nat_lt, List, [], ◌∷◌, ◌++◌, length, refl, sym, ap, ◌∙◌, subst}
use Rattle.std.proofs.Common.{arith, lit≤, append-nil, Option, Some, None, Result, Ok, Err, ℤ}
use Rattle.std.specs.Option.{option_to_list}
use Rattle.std.proofs.lemmas.Bool.Decides.{nat_tests}
use mathlib.Core.List.{append_assoc}
use Rattle.ci_isa.specs.declared.instruction.Insn.{Insn}
use Rattle.ci_asm.specs.declared.scanner.Token.{Token}
use Rattle.ci_asm.specs.declared.numbers.Number.{Number}
use Rattle.ci_asm.specs.declared.faults.Rule.TheVariants.{OutOfField, Undefined, DefinedTwice}
use Rattle.ci_asm.specs.declared.faults.Fault.{Fault}
use Rattle.ci_asm.specs.declared.labels.Definition.{Definition}
use Rattle.ci_asm.specs.declared.statements.Statement as code
use Rattle.ci_asm.specs.declared.lines.Line as code_lines
use Rattle.ci_asm.specs.private.Tokens.{text_of}
use Rattle.ci_asm.specs.private.Shapes.{fits, field_of}
use Rattle.ci_asm.specs.private.Statements.{◌>>=◌, fault, signed_value, insn_of}
use Rattle.ci_asm.specs.private.Programs.{Position, position, kind_of, on_line, line_at, words_behind, all_read, Definitions, once_at, defined_once}
use Rattle.ci_asm.specs.private.Programs.{offset_between, reaching, resolved, statement_insn, line_insn, option_length, insns_of, assembled}
use Rattle.ci_asm.specs.Lines.{lines_of}
use Rattle.ci_asm.specs.Lexicon.{name}
use Rattle.ci_asm.specs.Forms.{to_label, IsIn, IsStatement}
use Rattle.ci_asm.specs.Assembly as asm
use Rattle.ci_asm.specs.Assembly.{Line, AreLines, IsProgram, statements_of, Defines, IsOffset, IsNew, AreResolved}
use Rattle.ci_asm.specs.Assembly.{IsFaultOfLine, IsFaultOfLabel, twice, undefined, too_far, HasFault, of_line, of_label}
use Rattle.ci_asm.proofs.FilledSlots.{values_of, label_text}
use Rattle.ci_asm.proofs.ReadStatements.{says}
use Rattle.ci_asm.proofs.TestLaws.{by_test, err_same, bind_err, map_err}
use Rattle.ci_asm.proofs.AssemblySteps.{on_line_ok, on_line_err}
use Rattle.ci_asm.proofs.ReadOperands.{in_fits}
use Rattle.ci_asm.proofs.ReadLines.{statement_says, statement_read, line_says, IsReadLine, line_read, ReachesInLine}
use Rattle.ci_asm.proofs.ReadPrograms.{AreRead, program_of, statement_room, words_with, read_program, all_read-lines, IsDefinition, AreDefinitions}
use Rattle.ci_asm.proofs.ReadPrograms.{text_definitions, definitions_known, split_less, offset_signed, label_at, once_yes, line_insn-read, line_yes}
use Rattle.ci_asm.proofs.ReadPrograms.{option_size, resolved_from, resolved_cons, IsAt, next_at, start_at, nothing_left, AllResolved}
use Rattle.ci_asm.proofs.LineFaults.{line_fault}

-- ---- lines that can't be read

-- the first line that can't be read
record HasBadLine (n words : ℕ) (lines : List (List ℕ)) (p : Position) : Type 0 where
  before : List (List ℕ)
  bytes : List ℕ
  after : List (List ℕ)
  program : List Line
  kind : ℕ
  column : ℕ
  split : lines ≡ before ++ bytes ∷ after
  are_lines : AreLines before program
  few : words + asm.words_in program ≤ 262144
  is_fault : IsFaultOfLine (words + asm.words_in program) bytes kind column
  is_position : record { kind = kind; line = n + length before; column = column + 1 } ≡ p

bad_here : (n words : ℕ) (line : List ℕ) (lines : List (List ℕ)) (p : Position) (f : Fault) → words ≤ 262144 → line_at words line ≡ Err f → position n f ≡ p
    → HasBadLine n words (line ∷ lines) p
bad_here n words line lines p f few e at =
    let same : words + 0 ≡ words = omega arith in
    let place : n + 0 ≡ n = omega arith in
    record {
      before = [];
      bytes = line;
      after = lines;
      program = [];
      kind = kind_of f.rule;
      column = f.place;
      split = refl;
      are_lines = tt;
      few = omega arith;
      is_fault = subst (λ k. IsFaultOfLine k line (kind_of f.rule) f.place) (sym same) (line_fault words line f few e);
      is_position = (λ i. record { kind = kind_of f.rule; line = place i; column = f.place + 1 }) ∙ at;
    }

bad_later : (n words : ℕ) (line : List ℕ) (lines : List (List ℕ)) (p : Position) (l : code_lines.Line) → words ≤ 262144 → line_at words line ≡ Ok l
    → HasBadLine (n + 1) (words + option_length l.statement) lines p → HasBadLine n words (line ∷ lines) p
bad_later n words line lines p l few e bad =
    let is = line_read line (eqb words 262144) l e in
    let count = words_with line l.statement (statements_of bad.program) in
    let same : words + asm.words_in (line_says line l ∷ bad.program) ≡ words + option_length l.statement + asm.words_in bad.program = omega arith in
    let place : n + length (line ∷ bad.before) ≡ n + 1 + length bad.before = omega arith in
    let less = bad.few in
    record {
      before = line ∷ bad.before;
      bytes = bad.bytes;
      after = bad.after;
      program = line_says line l ∷ bad.program;
      kind = bad.kind;
      column = bad.column;
      split = ap (λ k. line ∷ k) bad.split;
      are_lines = (is.is_line, bad.are_lines);
      few = omega arith;
      is_fault = subst (λ k. IsFaultOfLine k bad.bytes bad.kind bad.column) (sym same) bad.is_fault;
      is_position = (λ i. record { kind = bad.kind; line = place i; column = bad.column + 1 }) ∙ bad.is_position;
    }

unread_line : (n words : ℕ) (lines : List (List ℕ)) (p : Position) → words ≤ 262144 → all_read n words lines ≡ Err p → HasBadLine n words lines p
unfolding all_read
unread_line n words [] p few e = absurd (cc)
unread_line n words (line ∷ lines) p few e = by (line_at words line) refl (λ after few. unread_line (n + 1) after lines p few)
  where
    by : (r : Result code_lines.Line Fault) → line_at words line ≡ r
        → ((after : ℕ) → after ≤ 262144 → all_read (n + 1) after lines ≡ Err p → HasBadLine (n + 1) after lines p) → HasBadLine n words (line ∷ lines) p
    by (Err f) at rest =
        let known : (words_behind n words line >>= λ after. all_read (n + 1) after lines) ≡ Err (position n f) =
        ap (λ r. (on_line n r >>= λ l. Ok (words + option_length l.statement)) >>= λ after. all_read (n + 1) after lines) at in
        bad_here n words line lines p f few at (err_same {A = Unit {0}} (position n f) p (sym known ∙ e))
    by (Ok l) at rest =
        let known : (words_behind n words line >>= λ after. all_read (n + 1) after lines) ≡ all_read (n + 1) (words + option_length l.statement) lines =
        ap (λ r. (on_line n r >>= λ l. Ok (words + option_length l.statement)) >>= λ after. all_read (n + 1) after lines) at in
        let is = line_read line (eqb words 262144) l at in
        bad_later n words line lines p l few at (rest (words + option_length l.statement) (statement_room words l.statement is.room few) (sym known ∙ e))

-- ---- labels

record IsTwice (before : List Line) (line : List ℕ) (label : Option Token) (f : Fault) : Type 0 where
  token : Token
  is_label : label ≡ Some token
  is_fault : fault DefinedTwice token.start ≡ f
  defined : Defines before (text_of line token)

-- a statement with a label reaches it
pub said_so : (line : List ℕ) (s : code.Statement) (t : Token) → s.operands.label ≡ Some t
    → statement_says line s ≡ to_label (field_of s.mnemonic) (insn_of s.mnemonic s.operands.registers) (text_of line t)
said_so line s t some = ap (λ label. says s.mnemonic (values_of line (record s.operands { label = label }))) some

module _ (program : List Line) (definitions : Definitions) (known : AreDefinitions program definitions) (words : ℕ) (line : List ℕ) where
  -- the label is defined on an earlier line
  twice_here : (before after : List Line) (here : Line) (n : ℕ) (label : Option Token) (f : Fault) → program ≡ before ++ here ∷ after
      → here.label ≡ label_text line label → n ≡ 1 + length before → defined_once definitions n line label ≡ Err f → IsTwice before line label f
  twice_here before after here n None f split at place e = absurd (cc)
  twice_here before after here n (Some t) f split at place e = by (definitions (text_of line t)) (known (text_of line t)) e
    where
      by : (d : Option Definition) → IsDefinition program (text_of line t) 1 0 d → once_at n t d ≡ Err f → IsTwice before line (Some t) f
      by None none e = absurd (cc)
      by (Some d) found e = by_test (eqb d.line n) here_again earlier
        where
          here_again : eqb d.line n ≡ true → IsTwice before line (Some t) f
          here_again same = let ok : once_at n t (Some d) ≡ Ok tt = ap (λ b. cond b (Ok tt) (Err (fault DefinedTwice t.start))) same in absurd (cc)

          earlier : eqb d.line n ≡ false → IsTwice before line (Some t) f
          earlier other =
              let line_is = found.line_is in
              let there : once_at n t (Some d) ≡ Err (fault DefinedTwice t.start) = ap (λ b. cond b (Ok tt) (Err (fault DefinedTwice t.start))) other in
              let far : length found.before ≢ length before = λ same. absurd (grind (arith, nat_tests)) in
              by_test (nat_lt (length found.before) (length before))
              (λ test.
              let less : length found.before < length before = grind (arith, nat_tests) in
              record {
                token = t;
                is_label = refl;
                is_fault = err_same {A = Unit {0}} _ f (sym there ∙ e);
                defined =
                    split_less found.before before found.line here found.after after (text_of line t) less (sym found.split ∙ split) found.labelled;
              })
              (λ test.
              let less : length before < length found.before = grind (arith, nat_tests) in
              absurd (found.is_new (split_less before found.before here found.line after found.after (text_of line t) less (sym split ∙ found.split) at)))

  -- the fault of the label that a statement reaches
  data ReachFault (s : code.Statement) (t : Token) (f : Fault) : Type 0 where
    nowhere : fault Undefined t.start ≡ f → ¬ Defines program (text_of line t) → ReachFault s t f
    far : (n : ℤ) → fault OutOfField t.start ≡ f → IsOffset program words (text_of line t) n → ¬ IsIn (field_of s.mnemonic) n → ReachFault s t f

  reach_fault : (s : code.Statement) (t : Token) (d : Option Definition) (f : Fault) → IsDefinition program (text_of line t) 1 0 d
      → reaching words s t d ≡ Err f → ReachFault s t f
  reach_fault s t None f none e = nowhere (err_same {A = Number} _ f e) none
  reach_fault s t (Some d) f found e = by_test (fits (field_of s.mnemonic) (offset_between words d.words)) in_field out_of_it
    where
      in_field : fits (field_of s.mnemonic) (offset_between words d.words) ≡ true → ReachFault s t f
      in_field ok = let there : reaching words s t (Some d) ≡ Ok (offset_between words d.words) =
          ap (λ b. cond b (Ok (offset_between words d.words)) (Err (fault OutOfField t.start))) ok in absurd (cc)

      out_of_it : fits (field_of s.mnemonic) (offset_between words d.words) ≡ false → ReachFault s t f
      out_of_it none =
          let there : reaching words s t (Some d) ≡ Err (fault OutOfField t.start) =
          ap (λ b. cond b (Ok (offset_between words d.words)) (Err (fault OutOfField t.start))) none in
          far (signed_value (offset_between words d.words)) (err_same {A = Number} _ f (sym there ∙ e))
          (d.words, label_at program (text_of line t) d found, offset_signed words d.words)
          (λ within. let ok = in_fits (field_of s.mnemonic) (offset_between words d.words) within in absurd (cc))

  statement_fault : (before : List Line) (here : Line) (s : code.Statement) (f : Fault) → words ≡ asm.words_in before → IsNew before here.label
      → here.statement ≡ Some (statement_says line s)
      → ((t : Token) → s.operands.label ≡ Some t → ReachesInLine line here.label t (statement_says line s))
      → resolved definitions words line s s.operands.label ≡ Err f → IsFaultOfLabel program before line here (kind_of f.rule) f.place
  statement_fault before here s f count new at target e = by s.operands.label refl e
    where
      by : (label : Option Token) → s.operands.label ≡ label → resolved definitions words line s label ≡ Err f
          → IsFaultOfLabel program before line here (kind_of f.rule) f.place
      by None same e = absurd (cc)
      by (Some t) same e =
          let text = text_of line t in
          let reached = target t same in
          let says : statement_says line s ≡ to_label (field_of s.mnemonic) (insn_of s.mnemonic s.operands.registers) text = said_so line s t same in
          let is = subst (IsStatement (reached.front ++ name text ∷ [])) says reached.is_statement in
          elim (reach_fault s t (definitions text) f (known text) e) [
            | nowhere told none ↦ subst (λ g. IsFaultOfLabel program before line here (kind_of g.rule) g.place) told
                (undefined new (at ∙ ap Some says) is reached.stands none)
            | far n told offset outside ↦ subst (λ g. IsFaultOfLabel program before line here (kind_of g.rule) g.place) told
                (too_far new (at ∙ ap Some says) is reached.stands (subst (λ k. IsOffset program k text n) count offset) outside)
          ]

  -- the fault of a line by its labels
  label_fault : (before after : List Line) (n : ℕ) (l : code_lines.Line) (f : Fault) → program ≡ before ++ line_says line l ∷ after → n ≡ 1 + length before
      → words ≡ asm.words_in before → line_at words line ≡ Ok l → line_insn definitions n words line ≡ Err f
      → IsFaultOfLabel program before line (line_says line l) (kind_of f.rule) f.place
  label_fault before after n l f split place count read e =
      let is = line_read line (eqb words 262144) l read in
      elim (bind_err (defined_once definitions n line l.label) _ f (sym (line_insn-read program definitions known words line n l read) ∙ e)) [
        | inl again ↦ told_twice is (twice_here before after (line_says line l) n l.label f split refl place again)
        | inr later ↦ told_by is (once_yes program definitions known words line before after (line_says line l) n l.label split refl place later.1) l.statement
            refl later.2
      ]
    where
      told_twice : IsReadLine line (eqb words 262144) l → IsTwice before line l.label f
          → IsFaultOfLabel program before line (line_says line l) (kind_of f.rule) f.place
      told_twice is t =
          subst (λ g. IsFaultOfLabel program before line (line_says line l) (kind_of g.rule) g.place) t.is_fault
          (twice (ap (label_text line) t.is_label) t.defined (is.label_stands t.token t.is_label))

      told_by : IsReadLine line (eqb words 262144) l → IsNew before (label_text line l.label) → (s : Option code.Statement) → l.statement ≡ s
          → statement_insn definitions words line s ≡ Err f → IsFaultOfLabel program before line (line_says line l) (kind_of f.rule) f.place
      told_by is new None same e = absurd (cc)
      told_by is new (Some s) same e =
          statement_fault before (line_says line l) s f count new (ap (statement_read line) same) (λ t some. is.target s t same some)
          (map_err {B = Option Insn} _ (λ n. Some (insn_of s.mnemonic s.operands.registers (signed_value n))) f e)

-- the first line with a fault by a label
record HasBadLabel (program done : List Line) (lines : List (List ℕ)) (rest : List Line) (n : ℕ) (p : Position) : Type 0 where
  lines_before : List (List ℕ)
  bytes : List ℕ
  lines_after : List (List ℕ)
  before : List Line
  here : Line
  after : List Line
  kind : ℕ
  column : ℕ
  lines_split : lines ≡ lines_before ++ bytes ∷ lines_after
  split : rest ≡ before ++ here ∷ after
  are_lines : AreLines lines_before before
  are_resolved : AllResolved program done before
  is_fault : IsFaultOfLabel program (done ++ before) bytes here kind column
  is_position : record { kind = kind; line = n + length lines_before; column = column + 1 } ≡ p

bad_label : (program : List Line) (definitions : Definitions) → AreDefinitions program definitions
    → (n words : ℕ) (lines : List (List ℕ)) (ls : List code_lines.Line) (done : List Line) (p : Position)
    → AreRead words lines ls → IsAt program done (program_of lines ls) n words → insns_of definitions n words lines ≡ Err p
    → HasBadLabel program done lines (program_of lines ls) n p
unfolding insns_of
bad_label program definitions known n words [] [] done p read at e = absurd (cc)
bad_label program definitions known n words [] (l ∷ ls) done p read at e = absurd read
bad_label program definitions known n words (line ∷ lines) [] done p read at e = absurd read
bad_label program definitions known n words (line ∷ lines) (l ∷ ls) done p read at e =
    elim (bind_err (on_line n (line_insn definitions n words line)) _ p e) [
      | inl first ↦ here (on_line_err n (line_insn definitions n words line) p first)
      | inr later ↦ behind later.0 (on_line_ok n (line_insn definitions n words line) later.0 later.1)
          (map_err {B = List Insn} _ (λ others. option_to_list later.0 ++ others) p later.2)
          (λ rest. bad_label program definitions known (n + 1) (words + option_length l.statement) lines ls (done ++ line_says line l ∷ []) p read.1
          (next_at program done line l (program_of lines ls) n words at) rest)
    ]
  where
    here : (f : Fault) × (line_insn definitions n words line ≡ Err f) × (position n f ≡ p)
        → HasBadLabel program done (line ∷ lines) (line_says line l ∷ program_of lines ls) n p
    here (f, e, told) =
        let fault_here = label_fault program definitions known words line done (program_of lines ls) n l f at.split at.line_is at.words_is read.0 e in
        let place : n + 0 ≡ n = omega arith in
        record {
          lines_before = [];
          bytes = line;
          lines_after = lines;
          before = [];
          here = line_says line l;
          after = program_of lines ls;
          kind = kind_of f.rule;
          column = f.place;
          lines_split = refl;
          split = refl;
          are_lines = tt;
          are_resolved = nothing_left program done;
          is_fault = subst (λ d. IsFaultOfLabel program d line (line_says line l) (kind_of f.rule) f.place) (sym (append-nil done)) fault_here;
          is_position = (λ i. record { kind = kind_of f.rule; line = place i; column = f.place + 1 }) ∙ told;
        }

    behind : (first : Option Insn) → line_insn definitions n words line ≡ Ok first
        → insns_of definitions (n + 1) (words + option_length first) lines ≡ Err p
        → (insns_of definitions (n + 1) (words + option_length l.statement) lines ≡ Err p
        → HasBadLabel program (done ++ line_says line l ∷ []) lines (program_of lines ls) (n + 1) p)
        → HasBadLabel program done (line ∷ lines) (line_says line l ∷ program_of lines ls) n p
    behind first read_insn e rest =
        let one = line_yes program definitions known words line done (program_of lines ls) n l first at.split at.line_is read.0 read_insn in
        let size = option_size program words line l.statement first one.is_insn in
        let more = rest (ap (λ k. insns_of definitions (n + 1) (words + k) lines) (sym size) ∙ e) in
        let is = line_read line (eqb words 262144) l read.0 in
        let place : n + length (line ∷ more.lines_before) ≡ n + 1 + length more.lines_before = omega arith in
        record {
          lines_before = line ∷ more.lines_before;
          bytes = more.bytes;
          lines_after = more.lines_after;
          before = line_says line l ∷ more.before;
          here = more.here;
          after = more.after;
          kind = more.kind;
          column = more.column;
          lines_split = ap (λ k. line ∷ k) more.lines_split;
          split = ap (λ k. line_says line l ∷ k) more.split;
          are_lines = (is.is_line, more.are_lines);
          are_resolved = resolved_cons program done more.before (line_says line l)
              (resolved_from program done words (line_says line l) first at.words_is one) more.are_resolved;
          is_fault = subst (λ d. IsFaultOfLabel program d more.bytes more.here more.kind more.column)
              (append_assoc done (line_says line l ∷ []) more.before) more.is_fault;
          is_position = (λ i. record { kind = more.kind; line = place i; column = more.column + 1 }) ∙ more.is_position;
        }

-- ---- the whole text

-- the fault that the code tells is the text's
pub fault_is : (text : List ℕ) (p : Position) → assembled text ≡ Err p → HasFault text p.kind p.line p.column
unfolding assembled
fault_is text p e = elim (bind_err (all_read 1 0 (lines_of text)) _ p e) [
  | inl unread ↦ line_told (unread_line 1 0 (lines_of text) p (lit≤ tt) unread)
  | inr read ↦ label_told (all_read-lines 1 0 (lines_of text) read.1) read.2
]
  where
    line_told : HasBadLine 1 0 (lines_of text) p → HasFault text p.kind p.line p.column
    line_told bad =
        let few = bad.few in
        let count : 0 + asm.words_in bad.program ≡ asm.words_in bad.program = omega arith in
        let place : length bad.before + 1 ≡ 1 + length bad.before = omega arith in
        subst (λ q. HasFault text q.kind q.line q.column) ((λ i. record { kind = bad.kind; line = place i; column = bad.column + 1 }) ∙ bad.is_position)
        (of_line bad.before bad.after bad.bytes bad.program bad.split (record { are_lines = bad.are_lines; fits = omega arith })
        (subst (λ k. IsFaultOfLine k bad.bytes bad.kind bad.column) count bad.is_fault))

    label_told : (ls : List code_lines.Line) × AreRead 0 (lines_of text) ls → insns_of (text_definitions text) 1 0 (lines_of text) ≡ Err p
        → HasFault text p.kind p.line p.column
    label_told (ls, read) e =
        let program = program_of (lines_of text) ls in
        let bad = bad_label program (text_definitions text) (definitions_known text ls read) 1 0 (lines_of text) ls [] p read (start_at program) e in
        let is = read_program 0 (lines_of text) ls read (lit≤ tt) in
        let fits = is.fits in
        let is_program : IsProgram (lines_of text) program = record { are_lines = is.are_lines; fits = omega arith } in
        let place : length bad.lines_before + 1 ≡ 1 + length bad.lines_before = omega arith in
        subst (λ q. HasFault text q.kind q.line q.column) ((λ i. record { kind = bad.kind; line = place i; column = bad.column + 1 }) ∙ bad.is_position)
        (of_label bad.lines_before bad.lines_after bad.bytes bad.before bad.after bad.here bad.lines_split bad.are_lines
        (subst (IsProgram (lines_of text)) bad.split is_program)
        (subst (λ q. AreResolved q bad.before) bad.split bad.are_resolved)
        (subst (λ q. IsFaultOfLabel q bad.before bad.bytes bad.here bad.kind bad.column) bad.split bad.is_fault))
