-- Each text has words or a fault.
use Rattle.std.proofs.Common.{◌≡◌, ℕ, ◌+◌, ◌⊎◌, inl, inr, Bool, true, false, cond, eqb, List, [], ◌∷◌, ◌++◌, length, refl, sym, ap, ◌∙◌, subst, Option, Some}
use Rattle.std.proofs.Common.{None, Result, Ok, Err}
use Rattle.std.specs.Prelude.{IfSome, IfOk}
use Rattle.std.specs.Option.{option_to_list}
use Rattle.ci_isa.specs.declared.instruction.Insn.{Insn}
use Rattle.ci_isa.specs.Table.{IsWellFormed}
use Rattle.ci_asm.specs.declared.scanner.Token.{Token}
use Rattle.ci_asm.specs.declared.faults.Fault.{Fault}
use Rattle.ci_asm.specs.declared.faults.Rule.TheVariants.{OutOfField}
use Rattle.ci_asm.specs.declared.labels.Definition.{Definition}
use Rattle.ci_asm.specs.declared.numbers.Number.{Number}
use Rattle.ci_asm.specs.declared.statements.Statement as code
use Rattle.ci_asm.specs.declared.lines.Line as code_lines
use Rattle.ci_asm.specs.private.Tokens.{next_token}
use Rattle.ci_asm.specs.private.Shapes.{fits, field_of}
use Rattle.ci_asm.specs.private.Statements.{fault, signed_value, is_label, with_statement, read_line, IsRead, IsLineOf}
use Rattle.ci_asm.specs.private.Programs.{Position, on_line, line_at, Definitions, defined_once, offset_between, reaching, resolved, statement_insn, line_insn}
use Rattle.ci_asm.specs.private.Programs.{option_length, insns_of, all_read, assembled, AreWordsOf}
use Rattle.ci_asm.specs.Lines.{lines_of}
use Rattle.ci_asm.specs.Assembly.{IsAssembly, HasFault}
use Rattle.ci_asm.proofs.TestLaws.{same_ok, bind_ok, cond_ok}
use Rattle.ci_asm.proofs.ReadOperands.{fits_in}
use Rattle.ci_asm.proofs.SoundStatements.{next_token-start, line_by_statement}
use Rattle.ci_asm.proofs.AssemblySteps.{on_line_ok}
use Rattle.ci_asm.proofs.StatementsHaveWords.{well_formed}
use Rattle.ci_asm.proofs.ReadPrograms.{assembled_is}
use Rattle.ci_asm.proofs.ProgramFaults.{fault_is}

module _ (line : List ℕ) (full : Bool) where
  abbrev first : Token
  first = next_token line 0

  abbrev second : Token
  second = next_token line first.end

  abbrev third : Token
  third = next_token line second.end

  abbrev read_by : Bool → Result code_lines.Line Fault
  read_by b = cond b (with_statement line (Some first) third full third.kind) (with_statement line None first full first.kind)

  by_label : (b : Bool) → IfOk (read_by b) (IsLineOf (length line))
  by_label true = line_by_statement line (Some first) third full third.kind _ (next_token-start line 0) refl
  by_label false = line_by_statement line None first full first.kind _ tt refl

  -- a line that is read has its numbers in their fields
  read_line-line : (l : code_lines.Line) → read_line line full ≡ Ok l → IsLineOf (length line) l
  unfolding read_line
  read_line-line l e = subst (λ r. IfOk r (IsLineOf (length line))) e (by_label (is_label first.kind second.kind))

reaching-fits : (words : ℕ) (s : code.Statement) (t : Token) (d : Option Definition) (n : Number) → reaching words s t d ≡ Ok n
    → fits (field_of s.mnemonic) n ≡ true
reaching-fits words s t None n e = absurd (cc)
reaching-fits words s t (Some d) n e =
    let offset = offset_between words d.words in
    let c = cond_ok (fits (field_of s.mnemonic) offset) offset n (fault OutOfField t.start) e in
    ap (fits (field_of s.mnemonic)) (sym c.1) ∙ c.0

resolved-fits : (definitions : Definitions) (words : ℕ) (line : List ℕ) (s : code.Statement) (label : Option Token) (n : Number)
    → fits (field_of s.mnemonic) s.operands.number ≡ true → resolved definitions words line s label ≡ Ok n → fits (field_of s.mnemonic) n ≡ true
resolved-fits definitions words line s None n ok e = ap (fits (field_of s.mnemonic)) (sym (same_ok {E = Fault} _ n e)) ∙ ok
resolved-fits definitions words line s (Some t) n ok e = reaching-fits words s t _ n e

statement_formed : (definitions : Definitions) (words : ℕ) (line : List ℕ) (s : Option code.Statement) (first : Option Insn) → IfSome s (IsRead (length line))
    → statement_insn definitions words line s ≡ Ok first → IfSome first IsWellFormed
statement_formed definitions words line None first read e = subst (λ f. IfSome f IsWellFormed) (same_ok {E = Fault} None first e) tt
statement_formed definitions words line (Some s) first read e =
    let b = bind_ok (resolved definitions words line s s.operands.label) _ first e in
    let in_field = fits_in (field_of s.mnemonic) b.0 (resolved-fits definitions words line s s.operands.label b.0 read.in_field b.1) in
    subst (λ f. IfSome f IsWellFormed) (same_ok {E = Fault} _ first b.2)
    (well_formed s.mnemonic s.operands.registers (signed_value b.0) read.named read.registers in_field)

line_formed : (definitions : Definitions) (n words : ℕ) (line : List ℕ) (first : Option Insn) → line_insn definitions n words line ≡ Ok first
    → IfSome first IsWellFormed
unfolding line_insn
line_formed definitions n words line first e =
    let b = bind_ok (line_at words line) _ first e in
    let c = bind_ok (defined_once definitions n line b.0.label) _ first b.2 in
    statement_formed definitions words line b.0.statement first (read_line-line line (eqb words 262144) b.0 b.1).statement c.2

abbrev HasWords : List Insn → Type 0
HasWords insns = (words : List ℕ) × AreWordsOf words insns

words_for : (first : Option Insn) (others : List Insn) → IfSome first IsWellFormed → HasWords others → HasWords (option_to_list first ++ others)
words_for None others formed more = more
words_for (Some i) others formed more = (formed.0 ∷ more.0, (formed.1, more.1))

all_words : (definitions : Definitions) (n words : ℕ) (lines : List (List ℕ)) (insns : List Insn) → insns_of definitions n words lines ≡ Ok insns
    → HasWords insns
unfolding insns_of
all_words definitions n words [] insns e = subst HasWords (same_ok {E = Position} [] insns e) ([], tt)
all_words definitions n words (line ∷ lines) insns e =
    let b = bind_ok (on_line n (line_insn definitions n words line)) _ insns e in
    let c = bind_ok (insns_of definitions (n + 1) (words + option_length b.0) lines) _ insns b.2 in
    let formed = line_formed definitions n words line b.0 (on_line_ok n (line_insn definitions n words line) b.0 b.1) in
    subst HasWords (same_ok {E = Position} _ insns c.2) (words_for b.0 c.0 formed (all_words definitions (n + 1) (words + option_length b.0) lines c.0 c.1))

assembled_words : (text : List ℕ) (insns : List Insn) → assembled text ≡ Ok insns → HasWords insns
unfolding assembled
assembled_words text insns e = let b = bind_ok (all_read 1 0 (lines_of text)) _ insns e in all_words _ 1 0 (lines_of text) insns b.2

-- what is assembled has words, and what is not a fault
pub words_or_fault : (text : List ℕ) → ((words : List ℕ) × IsAssembly text words) ⊎ ((kind : ℕ) × (line : ℕ) × (column : ℕ) × HasFault text kind line column)
words_or_fault text = by (assembled text) refl
  where
    by : (r : Result (List Insn) Position) → assembled text ≡ r → ((words : List ℕ) × IsAssembly text words) ⊎
        ((kind : ℕ) × (line : ℕ) × (column : ℕ) × HasFault text kind line column)
    by (Ok insns) e = let w = assembled_words text insns e in inl (w.0, assembled_is text w.0 (insns, e, w.1))
    by (Err p) e = inr (p.kind, p.line, p.column, fault_is text p e)
