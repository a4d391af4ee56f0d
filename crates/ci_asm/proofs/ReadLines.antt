-- The lines that the code reads are those of the definitions.
use Rattle.std.proofs.Common.{◌≡◌, ◌≢◌, ℕ, Bool, true, false, cond, List, [], ◌∷◌, ◌++◌, refl, sym, ap, ◌∙◌, subst, arith, Option, Some, None, Result, Ok, Err}
use Rattle.std.specs.Prelude.{find}
use Rattle.std.specs.Option.{ok_or}
use Rattle.std.proofs.lemmas.Bool.{eqb-true}
use Rattle.std.proofs.lemmas.Slice.Eq.{bytes_eq-Decides}
use Rattle.ci_reading.specs.Tokens as reading
use Rattle.ci_asm.specs.declared.scanner.Kind.{Kind}
use Rattle.ci_asm.specs.declared.scanner.Kind.TheVariants.{Name, Numeral, Directive, Mark, End, Bad}
use Rattle.ci_asm.specs.declared.scanner.Token.{Token}
use Rattle.ci_asm.specs.declared.mnemonics.Mnemonic.{Mnemonic}
use Rattle.ci_asm.specs.declared.mnemonics.Mnemonic.TheVariants.{Data}
use Rattle.ci_asm.specs.declared.faults.Rule.{Rule}
use Rattle.ci_asm.specs.declared.faults.Rule.TheVariants.{NoToken, NoMnemonic, Surplus}
use Rattle.ci_asm.specs.declared.statements.Statement as code
use Rattle.ci_asm.specs.declared.lines.Line as code_lines
use Rattle.ci_asm.specs.private.Tokens.{next_token, text_of}
use Rattle.ci_asm.specs.private.Shapes.{name_of, mnemonics, mnemonic_of, is_named, is_statement, slots_of}
use Rattle.ci_asm.specs.private.Statements.{◌>>=◌, fault, at_place, no_operands, read_slots, mnemonic_in, read_statement, is_label, with_statement, read_line}
use Rattle.ci_asm.specs.Lexicon as lex
use Rattle.ci_reading.specs.Tokens.{text_end, stray_byte}
use Rattle.ci_asm.specs.Lexicon.{name, word, comma, open_bracket, close_bracket, colon, spelling, IsToken, Stands}
use Rattle.ci_asm.specs.Forms.{Statement, IsStatement}
use Rattle.ci_asm.specs.Assembly.{Line, HasLabel, label_tokens, StandsInLine, HasStatement, IsLine}
use Rattle.ci_asm.proofs.SoundStatements.{mnemonic_in-statement}
use Rattle.ci_asm.proofs.KnownMnemonics.{known_mnemonic}
use Rattle.ci_asm.specs.private.Tokens.{kind_of}
use Rattle.ci_asm.proofs.SymbolsMet.{IsShown, Shows, Meets, next_symbol, same_symbol, line_meets, line_stands, kind_no_end}
use Rattle.ci_asm.proofs.TestLaws.{by_test, true_is_not_false, bind_ok, same_ok, at_place_ok, unless_ok, found_ok}
use Rattle.ci_asm.proofs.FilledSlots.{values_of, label_text, IsReading, slots_read, filled_meets, filled_fills, fills_read, target_read}
use Rattle.ci_asm.proofs.ReadStatements.{says, mnemonic_token, fills_statement, statement_slots, offset_last}

-- ---- mnemonics

find_by : (b : Bool) (p : Mnemonic → Bool) (x m : Mnemonic) (rest : Option Mnemonic) → p x ≡ b → (rest ≡ Some m → p m ≡ true) → cond b (Some x) rest ≡ Some m
    → p m ≡ true
find_by true p x m rest at others e = let same : x ≡ m = cc in ap p (sym same) ∙ at
find_by false p x m rest at others e = others e

find_passes : (p : Mnemonic → Bool) (ms : List Mnemonic) (m : Mnemonic) → find p ms ≡ Some m → p m ≡ true
find_passes p [] m e = absurd (cc)
find_passes p (x ∷ xs) m e = find_by (p x) p x m (find p xs) refl (find_passes p xs m) e

named_so : (text : List ℕ) (m : Mnemonic) → mnemonic_of text ≡ Some m → text ≡ name_of m
unfolding mnemonic_of
named_so text m e = (bytes_eq-Decides text (name_of m)).0 (find_passes (is_named text) mnemonics m e)

name_token : (m : Mnemonic) → IsToken (name (name_of m)) → mnemonic_token m ≡ name (name_of m)
name_token Data proper = let letter = proper.0 in absurd (grind arith)
name_token other proper = refl

-- what the code reads from a token as a mnemonic
abbrev pub mnemonic_result : lex.Token → Result Mnemonic Rule
mnemonic_result shown = mnemonic_in (spelling shown) (kind_of shown)

pub mnemonic_shown : (line : List ℕ) (t : Token) (shown : lex.Token) → IsShown line t shown → mnemonic_in (text_of line t) t.kind ≡ mnemonic_result shown
mnemonic_shown line t shown is = λ i. mnemonic_in (is.text i) (is.kind i)

mnemonic_yes : (shown : lex.Token) (m : Mnemonic) → IsToken shown → mnemonic_result shown ≡ Ok m → shown ≡ mnemonic_token m
mnemonic_yes (name bytes) m proper e =
    let same = named_so bytes m (found_ok (mnemonic_of bytes) NoMnemonic m e) in
    ap name same ∙ sym (name_token m (subst (λ k. IsToken (name k)) same proper))
mnemonic_yes word m proper e =
    let known : Some Data ≡ Some m = sym (known_mnemonic Data refl).0 ∙ found_ok (mnemonic_of (spelling word)) NoMnemonic m e in
    let same : Data ≡ m = cc in
    ap mnemonic_token same
mnemonic_yes other m proper e = absurd (cc)

pub mnemonic_no : (m : Mnemonic) → is_statement m ≡ true → mnemonic_result (mnemonic_token m) ≡ Ok m
mnemonic_no Data named = ap (λ o. ok_or o NoMnemonic) (known_mnemonic Data named).0
mnemonic_no other named = ap (λ o. ok_or o NoMnemonic) (known_mnemonic other named).0

-- what the code reads as a mnemonic is one
pub mnemonic_read : (line : List ℕ) (t : Token) (m : Mnemonic) (symbol : lex.Symbol) → Shows line t symbol
    → mnemonic_in (text_of line t) t.kind ≡ Ok m → IsShown line t (mnemonic_token m)
mnemonic_read line t m (reading.token shown) shows e =
    subst (IsShown line t) (mnemonic_yes shown m shows.proper (sym (mnemonic_shown line t shown shows) ∙ e)) shows
mnemonic_read line t m text_end shows e =
    let none : mnemonic_in (text_of line t) t.kind ≡ Err NoMnemonic = ap (mnemonic_in (text_of line t)) shows in
    absurd (cc)
mnemonic_read line t m stray_byte shows e =
    let none : mnemonic_in (text_of line t) t.kind ≡ Err NoToken = ap (mnemonic_in (text_of line t)) shows in
    absurd (cc)

-- ---- statements

abbrev pub statement_says : List ℕ → code.Statement → Statement
statement_says line s = says s.mnemonic (values_of line s.operands)

-- the tokens from this one on are the statement
pub record IsReadAs (line : List ℕ) (t : Token) (statement : Statement) : Type 0 where
  pub tokens : List lex.Token
  pub column : ℕ
  pub meets : Meets line t tokens text_end column
  pub is_statement : IsStatement tokens statement

-- the label that the statement reaches is its last token
pub record ReachesLast (line : List ℕ) (first t : Token) (statement : Statement) : Type 0 where
  pub front : List lex.Token
  pub meets : Meets line first front (reading.token (name (text_of line t))) t.start
  pub is_statement : IsStatement (front ++ name (text_of line t) ∷ []) statement

-- what holds of a statement that was read from a token on
pub record IsReadStatement (line : List ℕ) (t : Token) (full : Bool) (s : code.Statement) : Type 0 where
  pub is_read : IsReadAs line t (statement_says line s)
  pub room : full ≡ false
  pub target : (u : Token) → s.operands.label ≡ Some u → ReachesLast line t u (statement_says line s)

pub statement_is : (line : List ℕ) (from : ℕ) (full : Bool) (s : code.Statement) → read_statement line (next_token line from) full ≡ Ok s
    → IsReadStatement line (next_token line from) full s
unfolding read_statement
statement_is line from full s e =
    let t = next_token line from in
    let text = text_of line t in
    let symbol = next_symbol line from in
    let b = bind_ok (at_place t.start (mnemonic_in text t.kind)) _ s e in
    let m = b.0 in
    let slots = read_slots line (slots_of m) t.end no_operands in
    let c = bind_ok (cond full (Err (fault Surplus t.start)) slots) _ s b.2 in
    let room = unless_ok full (fault Surplus t.start) slots c.0 c.1 in
    let filled = subst (IsReading line (slots_of m) t.end no_operands) room.1 (slots_read line (slots_of m) t.end no_operands) in
    let mnemonic = at_place_ok t.start (mnemonic_in text t.kind) m b.1 in
    let shown = mnemonic_read line t m symbol.0 symbol.1 mnemonic in
    let named = mnemonic_in-statement text t.kind m mnemonic in
    subst (IsReadStatement line t full) (same_ok _ s c.2) (record {
      is_read = record {
        tokens = mnemonic_token m ∷ filled.0;
        column = filled.1;
        meets = (shown, filled_meets line filled.2);
        is_statement = fills_statement m named (filled_fills line filled.2);
      };
      room = room.0;
      target = λ u some.
          let h = target_read line u filled.2 (offset_last m) refl some in
          record { front = mnemonic_token m ∷ h.front; meets = (shown, h.meets); is_statement = fills_statement m named h.fills };
    })

-- a statement of the line is read
pub record WillReadAs (line : List ℕ) (t : Token) (statement : Statement) : Type 0 where
  pub read : code.Statement
  pub reads : read_statement line t false ≡ Ok read
  pub meaning : statement_says line read ≡ statement

pub is_read : (line : List ℕ) (t : Token) (tokens : List lex.Token) (column : ℕ) (statement : Statement) → Meets line t tokens text_end column
    → IsStatement tokens statement → WillReadAs line t statement
unfolding read_statement
is_read line t tokens column statement meets is =
    let h = statement_slots is in
    let m = h.mnemonic in
    let there = subst (λ ts. Meets line t ts text_end column) h.tokens meets in
    let w = fills_read (slots_of m) h.others line t.end no_operands column h.values h.fills there.1 in
    let mnemonic = mnemonic_shown line t (mnemonic_token m) there.0 ∙ mnemonic_no m h.named in
    record {
      read = record { mnemonic = m; operands = w.more };
      reads = ap (λ r. at_place t.start r >>= λ m. read_slots line (slots_of m) t.end no_operands >>= λ o. Ok (record { mnemonic = m; operands = o })) mnemonic
          ∙ ap (λ r. r >>= λ o. Ok (record { mnemonic = m; operands = o })) w.reads;
      meaning = ap (says m) w.values ∙ h.meaning;
    }

-- ---- labels

label_parts : (first second : Kind) → is_label first second ≡ true → (first ≡ Name) × (second ≡ Mark 58)
label_parts Name (Mark b) e = (refl, ap Mark (eqb-true b 58 e))
label_parts Name Name e = absurd (cc)
label_parts Name Numeral e = absurd (cc)
label_parts Name Directive e = absurd (cc)
label_parts Name End e = absurd (cc)
label_parts Name Bad e = absurd (cc)
label_parts other second e = absurd (cc)

same_mark : (a b : ℕ) → Mark a ≡ Mark b → a ≡ b
same_mark a b e = cc

name_kind : (shown : lex.Token) → kind_of shown ≡ Name → shown ≡ name (spelling shown)
name_kind (name bytes) e = refl
name_kind other e = absurd (cc)

colon_kind : (shown : lex.Token) → kind_of shown ≡ Mark 58 → shown ≡ colon
colon_kind comma e = let no = same_mark 44 58 e in absurd (omega arith)
colon_kind open_bracket e = let no = same_mark 40 58 e in absurd (omega arith)
colon_kind close_bracket e = let no = same_mark 41 58 e in absurd (omega arith)
colon_kind colon e = refl
colon_kind other e = absurd (cc)

-- a token of this kind is shown as a name
shown_name : (line : List ℕ) (t : Token) (symbol : lex.Symbol) → Shows line t symbol → t.kind ≡ Name → IsShown line t (name (text_of line t))
shown_name line t (reading.token shown) shows e =
    let named = name_kind shown (sym shows.kind ∙ e) in
    let same : shown ≡ name (text_of line t) = named ∙ ap name (sym shows.text) in
    subst (IsShown line t) same shows
shown_name line t text_end shows e = absurd (cc)
shown_name line t stray_byte shows e = absurd (cc)

shown_colon : (line : List ℕ) (t : Token) (symbol : lex.Symbol) → Shows line t symbol → t.kind ≡ Mark 58 → IsShown line t colon
shown_colon line t (reading.token shown) shows e = subst (IsShown line t) (colon_kind shown (sym shows.kind ∙ e)) shows
shown_colon line t text_end shows e = absurd (cc)
shown_colon line t stray_byte shows e = absurd (cc)

-- ---- lines

-- where the statement of a line is due
pub record HasBody (line : List ℕ) : Type 0 where
  pub label : Option Token
  pub from : ℕ
  pub has_label : HasLabel line (label_text line label)
  pub enters : (tokens : List lex.Token) (symbol : lex.Symbol) (column : ℕ) → Stands line (label_tokens (label_text line label) ++ tokens) symbol column
      → Meets line (next_token line from) tokens symbol column
  pub leaves : (tokens : List lex.Token) (symbol : lex.Symbol) (column : ℕ) → Meets line (next_token line from) tokens symbol column
      → Stands line (label_tokens (label_text line label) ++ tokens) symbol column
  pub reads : (full : Bool) → read_line line full ≡ with_statement line label (next_token line from) full (next_token line from).kind
  pub label_stands : (t : Token) → label ≡ Some t → Stands line [] (reading.token (name (text_of line t))) t.start

module _ (line : List ℕ) where
  abbrev first : Token
  first = next_token line 0

  abbrev second : Token
  second = next_token line first.end

  first_symbol : (symbol : lex.Symbol) × Shows line first symbol
  first_symbol = next_symbol line 0

  second_symbol : (symbol : lex.Symbol) × Shows line second symbol
  second_symbol = next_symbol line first.end

  labelled : is_label first.kind second.kind ≡ true → HasBody line
  unfolding read_line
  labelled e =
      let parts = label_parts first.kind second.kind e in
      let one = shown_name line first first_symbol.0 first_symbol.1 parts.0 in
      let two = shown_colon line second second_symbol.0 second_symbol.1 parts.1 in
      let text = text_of line first in
      record {
        label = Some first;
        from = second.end;
        has_label = (second.start, line_stands line (name text ∷ []) (reading.token colon) second.start (one, (two, refl)));
        enters = λ tokens symbol column s. (line_meets line (name text ∷ colon ∷ tokens) symbol column s).1.1;
        leaves = λ tokens symbol column m. line_stands line (name text ∷ colon ∷ tokens) symbol column (one, (two, m));
        reads = λ full. ap (λ b. cond b (with_statement line (Some first) (next_token line second.end) full (next_token line second.end).kind)
            (with_statement line None first full first.kind)) e;
        label_stands = λ t is. let same : first ≡ t = cc in subst (λ u. Stands line [] (reading.token (name (text_of line u))) u.start) same
            (line_stands line [] (reading.token (name text)) first.start (one, refl));
      }

  unlabelled : is_label first.kind second.kind ≡ false → HasBody line
  unfolding read_line
  unlabelled e = record {
    label = None;
    from = 0;
    has_label = λ label column s. let m = line_meets line (name label ∷ []) (reading.token colon) column s in
        true_is_not_false ((λ i. is_label (m.0.kind i) (m.1.0.kind i)) ∙ refl) e;
    enters = λ tokens symbol column s. line_meets line tokens symbol column s;
    leaves = λ tokens symbol column m. line_stands line tokens symbol column m;
    reads = λ full. ap (λ b. cond b (with_statement line (Some first) (next_token line second.end) full (next_token line second.end).kind)
        (with_statement line None first full first.kind)) e;
    label_stands = λ t is. absurd (cc);
  }

  pub body_of : HasBody line
  body_of = by_test (is_label first.kind second.kind) labelled unlabelled

  -- a line has one label at most
  pub same_label : (a b : Option (List ℕ)) → HasLabel line a → HasLabel line b → a ≡ b
  same_label (Some a) (Some b) one two =
      let m = line_meets line (name a ∷ []) (reading.token colon) one.0 one.1 in
      let n = line_meets line (name b ∷ []) (reading.token colon) two.0 two.1 in
      let same : reading.token (name a) ≡ reading.token (name b) = same_symbol line first (reading.token (name a)) (reading.token (name b)) m.0 n.0 in
      cc
  same_label (Some a) None one two = absurd (two a one.0 one.1)
  same_label None (Some b) one two = absurd (one b two.0 two.1)
  same_label None None one two = refl

abbrev pub statement_read : List ℕ → Option code.Statement → Option Statement
statement_read line None = None
statement_read line (Some s) = Some (statement_says line s)

-- what the code's line says
abbrev pub line_says : List ℕ → code_lines.Line → Line
line_says line l = record { label = label_text line l.label; statement = statement_read line l.statement }

pub with_other : (line : List ℕ) (label : Option Token) (t : Token) (full : Bool) (kind : Kind) → kind ≢ End
    → with_statement line label t full kind ≡ (read_statement line t full >>= λ s. Ok (record { label = label; statement = Some s }))
with_other line label t full End other = absurd (other refl)
with_other line label t full it other = refl

-- a statement that is read has room
abbrev pub HasRoom : Bool → Option code.Statement → Type 0
HasRoom full None = Unit {0}
HasRoom full (Some s) = full ≡ false

-- the same behind the line's label
pub record ReachesInLine (line : List ℕ) (label : Option (List ℕ)) (t : Token) (statement : Statement) : Type 0 where
  pub front : List lex.Token
  pub stands : StandsInLine line label front (reading.token (name (text_of line t))) t.start
  pub is_statement : IsStatement (front ++ name (text_of line t) ∷ []) statement

-- a line that is read is a line of the definitions
pub record IsReadLine (line : List ℕ) (full : Bool) (l : code_lines.Line) : Type 0 where
  pub is_line : IsLine line (line_says line l)
  pub room : HasRoom full l.statement
  pub label_stands : (t : Token) → l.label ≡ Some t → Stands line [] (reading.token (name (text_of line t))) t.start
  pub target : (s : code.Statement) (t : Token) → l.statement ≡ Some s → s.operands.label ≡ Some t
      → ReachesInLine line (label_text line l.label) t (statement_says line s)

line_end_read : (line : List ℕ) (full : Bool) (b : HasBody line) (l : code_lines.Line) → (next_token line b.from).kind ≡ End
    → record { label = b.label; statement = None } ≡ l → IsReadLine line full l
line_end_read line full b l end e = subst (IsReadLine line full) e (record {
  is_line = record {
    tokens = [];
    end = (next_token line b.from).start;
    ends =
        record { has_label = b.has_label; stands = b.leaves [] text_end (next_token line b.from).start (end, refl) };
    has_statement = refl;
  };
  room = tt;
  label_stands = b.label_stands;
  target = λ s t none some. absurd (cc);
})

statement_line_read : (line : List ℕ) (full : Bool) (b : HasBody line) (l : code_lines.Line)
    → (read_statement line (next_token line b.from) full >>= λ s. Ok (record { label = b.label; statement = Some s })) ≡ Ok l → IsReadLine line full l
statement_line_read line full b l e =
    let s = bind_ok (read_statement line (next_token line b.from) full) _ l e in
    let r = statement_is line b.from full s.0 s.1 in
    subst (IsReadLine line full) (same_ok _ l s.2) (record {
      is_line = record {
        tokens = r.is_read.tokens;
        end = r.is_read.column;
        ends = record { has_label = b.has_label; stands = b.leaves r.is_read.tokens text_end r.is_read.column r.is_read.meets };
        has_statement = r.is_read.is_statement;
      };
      room = r.room;
      label_stands = b.label_stands;
      target = λ u t same some.
          let is : s.0 ≡ u = cc in
          let last = r.target t (ap (λ k. k.operands.label) is ∙ some) in
          subst (λ k. ReachesInLine line (label_text line b.label) t (statement_says line k)) is
          (record {
            front = last.front;
            stands =
                record { has_label = b.has_label; stands = b.leaves last.front (reading.token (name (text_of line t))) t.start last.meets };
            is_statement = last.is_statement;
          });
    })

pub line_read : (line : List ℕ) (full : Bool) (l : code_lines.Line) → read_line line full ≡ Ok l → IsReadLine line full l
line_read line full l e =
    let b = body_of line in
    let t = next_token line b.from in
    let e' : with_statement line b.label t full t.kind ≡ Ok l = sym (b.reads full) ∙ e in
    by b t.kind refl e'
  where
    by : (b : HasBody line) (kind : Kind) → (next_token line b.from).kind ≡ kind → with_statement line b.label (next_token line b.from) full kind ≡ Ok l
        → IsReadLine line full l
    by b End at e = line_end_read line full b l at (same_ok _ l e)
    by b other at e = statement_line_read line full b l e

-- and a line of the definitions is read
abbrev pub IsRoomFor : Bool → Option Statement → Type 0
IsRoomFor full None = Unit {0}
IsRoomFor full (Some s) = full ≡ false

pub record WillReadLine (line : List ℕ) (full : Bool) (is : Line) : Type 0 where
  pub read : code_lines.Line
  pub reads : read_line line full ≡ Ok read
  pub says : line_says line read ≡ is

shown_not_end : (line : List ℕ) (t : Token) (shown : lex.Token) → IsShown line t shown → t.kind ≢ End
shown_not_end line t shown is = λ e. absurd (kind_no_end shown (sym is.kind ∙ e))

pub line_is : (line : List ℕ) (full : Bool) (is : Line) → IsLine line is → IsRoomFor full is.statement → WillReadLine line full is
line_is line full is l room =
    let b = body_of line in
    let same = same_label line is.label (label_text line b.label) l.ends.has_label b.has_label in
    let meets = b.enters l.tokens text_end l.end (subst (λ label. Stands line (label_tokens label ++ l.tokens) text_end l.end) same l.ends.stands) in
    by b is.statement same meets l.has_statement room
  where
    by : (b : HasBody line) (statement : Option Statement) → is.label ≡ label_text line b.label → Meets line (next_token line b.from) l.tokens text_end l.end
        → HasStatement l.tokens statement → IsRoomFor full statement
        → WillReadLine line full (record { label = is.label; statement = statement })
    by b None same meets has room =
        let there = subst (λ ts. Meets line (next_token line b.from) ts text_end l.end) has meets in
        record {
          read = record { label = b.label; statement = None };
          reads = b.reads full ∙ ap (with_statement line b.label (next_token line b.from) full) there.0;
          says = λ i. record { label = sym same i; statement = None };
        }
    by b (Some statement) same meets has room =
        let t = next_token line b.from in
        let r = is_read line t l.tokens l.end statement meets has in
        let h = statement_slots has in
        let there = subst (λ ts. Meets line t ts text_end l.end) h.tokens meets in
        record {
          read = record { label = b.label; statement = Some r.read };
          reads = b.reads full ∙ (with_other line b.label t full t.kind (shown_not_end line t (mnemonic_token h.mnemonic) there.0)
              ∙ (ap (λ f. read_statement line t f >>= λ s. Ok (record { label = b.label; statement = Some s })) room
              ∙ ap (λ x. x >>= λ s. Ok (record { label = b.label; statement = Some s })) r.reads));
          says = λ i. record { label = sym same i; statement = Some (r.meaning i) };
        }
