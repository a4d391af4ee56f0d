-- How the answer for a text goes on from one line to the next.
use Rattle.std.proofs.Common.{◌≡◌, ℕ, ◌+◌, ◌≤◌, List, [], ◌∷◌, ◌++◌, refl, ap, ◌∙◌, sym, arith, append-nil, subst, Bool, true, false, cond, Option, Some, None}
use Rattle.std.proofs.Common.{Result, Ok, Err}
use mathlib.Core.Path.{fun_ext}
use mathlib.Core.List.{append_assoc}
use Rattle.ci_isa.specs.declared.instruction.Insn.{Insn}
use Rattle.ci_isa.specs.Table.{IsWordOf}
use Rattle.ci_asm.specs.declared.faults.AsmFault.{AsmFault}
use Rattle.ci_asm.specs.declared.faults.AsmFault.TheVariants.{Bad, NoMemory}
use Rattle.ci_asm.specs.declared.faults.Fault.{Fault}
use Rattle.ci_asm.specs.declared.faults.Rule.{Rule}
use Rattle.ci_asm.specs.declared.faults.Rule.TheVariants.{OutOfField, Undefined}
use Rattle.ci_asm.specs.declared.scanner.Token.{Token}
use Rattle.ci_asm.specs.declared.statements.Statement.{Statement}
use Rattle.ci_asm.specs.declared.labels.Definition.{Definition}
use Rattle.ci_asm.specs.declared.lines.Line.{Line}
use Rattle.std.specs.Prelude.{IfSome}
use Rattle.std.specs.Option.{option_to_list, option_or}
use Rattle.ci_asm.specs.private.Tokens.{text_of}
use Rattle.ci_asm.specs.private.Shapes.{fits, field_of}
use Rattle.ci_asm.specs.private.Statements.{◌>>=◌, fault}
use Rattle.ci_asm.specs.private.Programs.{Position, position, on_line, words_in, words_behind, line_at, all_read, definition_on, definition_of}
use Rattle.ci_asm.specs.private.Programs.{Definitions, line_insn, insns_of, option_length, offset_between, reaching, resolved, AreWordsOf, IsFaultIn, assembled}
use Rattle.ci_asm.specs.Lines.{lines_of}

-- ---- faults on a line

pub on_line_ok : {A : Type 0} (n : ℕ) (r : Result A Fault) (x : A) → on_line n r ≡ Ok x → r ≡ Ok x
on_line_ok n (Ok y) x e = cc
on_line_ok n (Err f) x e = absurd (cc)

pub on_line_err : {A : Type 0} (n : ℕ) (r : Result A Fault) (p : Position) → on_line n r ≡ Err p → (f : Fault) × (r ≡ Err f) × (position n f ≡ p)
on_line_err n (Ok x) p e = absurd (cc)
on_line_err n (Err f) p e = (f, refl, cc)

-- ---- lines that can be read

pub all_read-nil : (n words : ℕ) → all_read n words [] ≡ Ok tt
unfolding all_read
all_read-nil n words = refl

pub all_read-ok : (n words after : ℕ) (line : List ℕ) (lines : List (List ℕ)) → words_behind n words line ≡ Ok after
    → all_read n words (line ∷ lines) ≡ all_read (n + 1) after lines
unfolding all_read
all_read-ok n words after line lines e = ap (λ r. r >>= λ after. all_read (n + 1) after lines) e

pub all_read-err : (n words : ℕ) (line : List ℕ) (lines : List (List ℕ)) (p : Position) → words_behind n words line ≡ Err p
    → all_read n words (line ∷ lines) ≡ Err p
unfolding all_read
all_read-err n words line lines p e = ap (λ r. r >>= λ after. all_read (n + 1) after lines) e

words_behind-from : (n words after : ℕ) (r : Result Line Fault) → (on_line n r >>= λ l. Ok (words + option_length l.statement)) ≡ Ok after
    → after ≡ words + words_in r
words_behind-from n words after (Ok l) e = cc
words_behind-from n words after (Err f) e = absurd (cc)

-- how many words stand behind a line
pub words_behind-ok : (n words after : ℕ) (line : List ℕ) → words_behind n words line ≡ Ok after → after ≡ words + words_in (line_at words line)
words_behind-ok n words after line e = words_behind-from n words after (line_at words line) e

pub option_length-small : {A : Type 0} (o : Option A) → option_length o ≤ 1
option_length-small None = omega arith
option_length-small (Some x) = omega arith

pub words_in-small : (r : Result Line Fault) → words_in r ≤ 1
words_in-small (Ok l) = option_length-small l.statement
words_in-small (Err f) = omega arith

-- ---- definitions

pub definition_of-nil : (name : List ℕ) (n words : ℕ) → definition_of name n words [] ≡ None
unfolding definition_of
definition_of-nil name n words = refl

pub definition_of-cons : (name : List ℕ) (n words : ℕ) (line : List ℕ) (lines : List (List ℕ))
    → definition_of name n words (line ∷ lines) ≡ option_or (definition_on name n words line)
    (definition_of name (n + 1) (words + words_in (line_at words line)) lines)
unfolding definition_of
definition_of-cons name n words line lines = refl

pub option_or-assoc : (a b c : Option Definition) → option_or (option_or a b) c ≡ option_or a (option_or b c)
option_or-assoc (Some d) b c = refl
option_or-assoc None b c = refl

pub option_or-none : (a : Option Definition) → option_or a None ≡ a
option_or-none (Some d) = refl
option_or-none None = refl

-- ---- instructions

-- the instructions with others before them
abbrev pub behind : List Insn → Result (List Insn) Position → Result (List Insn) Position
behind done r = r >>= λ others. Ok (done ++ others)

pub behind-behind : (done more : List Insn) (r : Result (List Insn) Position) → behind done (behind more r) ≡ behind (done ++ more) r
behind-behind done more (Ok others) = ap Ok (sym (append_assoc done more others))
behind-behind done more (Err p) = refl

pub behind-end : (done : List Insn) → behind done (Ok []) ≡ Ok done
behind-end done = ap Ok (append-nil done)

pub insns_of-nil : (definitions : Definitions) (n words : ℕ) → insns_of definitions n words [] ≡ Ok []
unfolding insns_of
insns_of-nil definitions n words = refl

pub insns_of-ok : (definitions : Definitions) (n words : ℕ) (line : List ℕ) (lines : List (List ℕ)) (first : Option Insn)
    → Ok first ≡ line_insn definitions n words line → insns_of definitions n words (line ∷ lines) ≡ behind (option_to_list first)
    (insns_of definitions (n + 1) (words + option_length first) lines)
unfolding insns_of
insns_of-ok definitions n words line lines first e =
    ap (λ r. on_line n r >>= λ first. insns_of definitions (n + 1) (words + option_length first) lines >>= λ others. Ok (option_to_list first ++ others))
    (sym e)

pub insns_of-err : (definitions : Definitions) (n words : ℕ) (line : List ℕ) (lines : List (List ℕ)) (f : Fault) → Err f ≡ line_insn definitions n words line
    → insns_of definitions n words (line ∷ lines) ≡ Err (position n f)
unfolding insns_of
insns_of-err definitions n words line lines f e =
    ap (λ r. on_line n r >>= λ first. insns_of definitions (n + 1) (words + option_length first) lines >>= λ others. Ok (option_to_list first ++ others))
    (sym e)

-- the fault of a label stands where the label stands
placed : {A : Type 0} (rule : Rule) (n start : ℕ) (f : Fault) → start ≤ n → ◌≡◌ {A = Result A Fault} (Err f) (Err (fault rule start))
    → f.place ≤ n
placed rule n start f near e =
    let same : f ≡ fault rule start = cc in
    subst (λ g. g.place ≤ n) (sym same) near

placed_unless : {A : Type 0} (b : Bool) (x : A) (rule : Rule) (n start : ℕ) (f : Fault) → start ≤ n
    → Err f ≡ cond b (Ok x) (Err (fault rule start)) → f.place ≤ n
placed_unless true x rule n start f near e = absurd (cc)
placed_unless false x rule n start f near e = placed rule n start f near e

reaching-place : (words n : ℕ) (s : Statement) (t : Token) (d : Option Definition) (f : Fault) → t.start ≤ n → Err f ≡ reaching words s t d → f.place ≤ n
reaching-place words n s t None f start e = placed Undefined n t.start f start e
reaching-place words n s t (Some d) f start e = placed_unless (fits (field_of s.mnemonic) (offset_between words d.words)) _ OutOfField n t.start f start e

pub resolved-place : (definitions : Definitions) (words n : ℕ) (line : List ℕ) (s : Statement) (label : Option Token) (f : Fault)
    → IfSome label (λ t. t.start ≤ n) → Err f ≡ resolved definitions words line s label → f.place ≤ n
resolved-place definitions words n line s None f start e = absurd (cc)
resolved-place definitions words n line s (Some t) f start e = reaching-place words n s t (definitions (text_of line t)) f start e

-- ---- words

pub AreWordsOf-push : (words : List ℕ) (insns : List Insn) (w : ℕ) (i : Insn) → AreWordsOf words insns → IsWordOf w i
    → AreWordsOf (words ++ w ∷ []) (insns ++ i ∷ [])
AreWordsOf-push [] [] w i all one = (one, tt)
AreWordsOf-push [] (j ∷ insns) w i all one = absurd all
AreWordsOf-push (v ∷ words) [] w i all one = absurd all
AreWordsOf-push (v ∷ words) (j ∷ insns) w i all one = (all.0, AreWordsOf-push words insns w i all.1 one)

-- ---- faults

-- the fault of a part is the fault of the whole
pub fault_carried : {A B : Type 0} (part : Result A Position) (whole : Result B Position) (fault : AsmFault) → ((p : Position) → part ≡ Err p → whole ≡ Err p)
    → IsFaultIn part fault → IsFaultIn whole fault
fault_carried part whole (Bad kind line column) carried met = carried _ met
fault_carried part whole NoMemory carried met = tt

-- ---- the whole text

-- the instructions are those that the labels give, once the lines were read
pub assembled-read : (text : List ℕ) (definitions : Definitions) → all_read 1 0 (lines_of text) ≡ Ok tt
    → ((name : List ℕ) → definitions name ≡ definition_of name 1 0 (lines_of text)) → assembled text ≡ insns_of definitions 1 0 (lines_of text)
unfolding assembled
assembled-read text definitions read same =
    ap (λ r. r >>= λ _. insns_of (λ name. definition_of name 1 0 (lines_of text)) 1 0 (lines_of text)) read
    ∙ ap (λ d. insns_of d 1 0 (lines_of text)) (sym (fun_ext same))

pub assembled-unread : (text : List ℕ) (p : Position) → all_read 1 0 (lines_of text) ≡ Err p → assembled text ≡ Err p
unfolding assembled
assembled-unread text p read =
    ap (λ r. r >>= λ _. insns_of (λ name. definition_of name 1 0 (lines_of text)) 1 0 (lines_of text)) read
