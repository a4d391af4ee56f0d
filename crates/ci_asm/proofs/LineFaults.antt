-- The fault of a line that the code tells is the one of the definitions.
use Rattle.std.proofs.Common.{◌≡◌, ◌≢◌, ℕ, ◌<◌, ◌≤◌, inl, inr, cond, eqb, List, [], ◌∷◌, ◌++◌, refl, sym, ap, ◌∙◌, subst, arith, lit<, lit≤, append-nil, Some}
use Rattle.std.proofs.Common.{None, Result, Ok, Err, pos, false, true}
use Rattle.std.specs.Prelude.{codes}
use Rattle.std.specs.Fmt.{decimal}
use Rattle.std.proofs.lemmas.Int.{ints}
use Rattle.std.proofs.lemmas.Bool.Decides.{nat_tests}
use mathlib.Core.List.{append_assoc}
use Rattle.ci_reading.specs.Tokens as reading
use Rattle.ci_reading.specs.Tokens.{text_end, stray_byte}
use Rattle.ci_asm.specs.declared.scanner.Kind.{Kind}
use Rattle.ci_asm.specs.declared.scanner.Kind.TheVariants.{End}
use Rattle.ci_asm.specs.declared.scanner.Token.{Token}
use Rattle.ci_asm.specs.declared.mnemonics.Mnemonic.{Mnemonic}
use Rattle.ci_asm.specs.declared.mnemonics.Mnemonic.TheVariants.{RegisterRegister, Cread}
use Rattle.ci_asm.specs.declared.slots.Field.{Field}
use Rattle.ci_asm.specs.declared.slots.Field.TheVariants.{Immediate}
use Rattle.ci_asm.specs.declared.slots.Slot.{Slot}
use Rattle.ci_asm.specs.declared.slots.Slot.TheVariants.{Register, Value, Comma, Open, Close, Further, Second}
use Rattle.ci_asm.specs.declared.faults.Rule.{Rule}
use Rattle.ci_asm.specs.declared.faults.Rule.TheVariants.{NoToken, NoMnemonic, Surplus}
use Rattle.ci_asm.specs.declared.faults.Fault.{Fault}
use Rattle.ci_asm.specs.declared.statements.Operands.{Operands}
use Rattle.ci_asm.specs.declared.statements.Statement as code
use Rattle.ci_asm.specs.declared.lines.Line as code_lines
use Rattle.ci_asm.specs.private.Tokens.{next_token, text_of}
use Rattle.ci_asm.specs.private.Shapes.{mnemonic_of, is_statement, slots_of}
use Rattle.ci_asm.specs.private.Statements.{fault, at_place, no_operands, with_register, read_slots, mnemonic_in, read_statement, with_statement}
use Rattle.ci_asm.specs.private.Statements.{read_line}
use Rattle.ci_asm.specs.private.Programs.{kind_of}
use Rattle.ci_asm.specs.Lexicon as lex
use Rattle.ci_asm.specs.Lexicon.{name, decimal_number, hex_number, word, comma, open_bracket, close_bracket, spelling}
use Rattle.ci_asm.specs.Forms.{IsIn, IsNumber, Statement, IsStatement, IsMnemonic}
use Rattle.ci_asm.specs.Assembly.{IsGoodFront, IsGoodNext, IsWhole, IsNumberDue, IsKind, no_token, no_statement, no_operand, too_short, out_of_field, surplus}
use Rattle.ci_asm.specs.Assembly.{too_many, IsFaultOfLine}
use Rattle.ci_asm.proofs.TestLaws.{by_test, err_same, bind_err, map_err, at_place_ok, at_place_err, found_err}
use Rattle.ci_asm.proofs.SymbolsMet.{IsShown, Shows, Meets, next_symbol}
use Rattle.ci_asm.proofs.ReadOperands.{writes_is_number}
use Rattle.ci_asm.proofs.FilledSlots.{Values, no_values, Fills, done, fill_register, fill_number, fill_label, fill_comma, fill_open, fill_close, fill_further}
use Rattle.ci_asm.proofs.FilledSlots.{no_further, fill_second, label_text, Accepts, Fit, FitWhole, fills_fit, IsValue, Stops, stray, over, over_further}
use Rattle.ci_asm.proofs.FilledSlots.{short, wrong_number, wrong, IsReading, slots_read}
use Rattle.ci_asm.proofs.SoundStatements.{mnemonic_in-statement}
use Rattle.ci_asm.proofs.ReadStatements.{mnemonic_token, fills_statement, statement_slots}
use Rattle.ci_asm.proofs.ReadLines.{mnemonic_result, mnemonic_shown, mnemonic_no, mnemonic_read, HasBody, body_of}

-- ---- tokens that fit

pub fit_fills : (slots : List Slot) (ts : List lex.Token) (v : Values) → FitWhole slots ts → (w : Values) × Fills slots ts v w
fit_fills [] [] v fit = (v, done)
fit_fills [] (t ∷ ts) v fit = absurd fit
fit_fills (Further ∷ slots) [] v fit = (v, no_further)
fit_fills (slot ∷ slots) [] v fit = absurd fit
fit_fills (Register place ∷ slots) (t ∷ ts) v fit =
    let more = fit_fills slots ts (record v { registers = with_register place fit.0.0 v.registers }) fit.1 in
    (more.0, fill_register fit.0.1 more.1)
fit_fills (Value field ∷ slots) (t ∷ ts) v (inl has, fit) = let more = fit_fills slots ts (record v { number = has.0 }) fit in
    (more.0, fill_number has.1 more.1)
fit_fills (Value field ∷ slots) (t ∷ ts) v (inr has, fit) =
    let more = fit_fills slots ts (record v { label = Some has.1.0 }) fit in
    (more.0, subst (λ s. Fills (Value field ∷ slots) (s ∷ ts) v more.0) (sym has.1.1) (fill_label has.0 more.1))
fit_fills (Comma ∷ slots) (t ∷ ts) v fit = let more = fit_fills slots ts v fit.1 in
    (more.0, subst (λ s. Fills (Comma ∷ slots) (s ∷ ts) v more.0) (sym fit.0) (fill_comma more.1))
fit_fills (Open ∷ slots) (t ∷ ts) v fit = let more = fit_fills slots ts v fit.1 in
    (more.0, subst (λ s. Fills (Open ∷ slots) (s ∷ ts) v more.0) (sym fit.0) (fill_open more.1))
fit_fills (Close ∷ slots) (t ∷ ts) v fit = let more = fit_fills slots ts v fit.1 in
    (more.0, subst (λ s. Fills (Close ∷ slots) (s ∷ ts) v more.0) (sym fit.0) (fill_close more.1))
fit_fills (Further ∷ slots) (t ∷ ts) v fit = let more = fit_fills slots ts v fit.1 in
    (more.0, subst (λ s. Fills (Further ∷ slots) (s ∷ ts) v more.0) (sym fit.0) (fill_further more.1))
fit_fills (Second ∷ slots) (t ∷ ts) v fit = let more = fit_fills slots ts (record v { number = pos 1 }) fit.1 in (more.0, fill_second fit.0 more.1)

fit_append : (slots others : List Slot) (ts rest : List lex.Token) → Fit slots ts → FitWhole others rest → FitWhole (slots ++ others) (ts ++ rest)
fit_append [] others [] rest first second = second
fit_append [] others (t ∷ ts) rest first second = absurd first
fit_append (slot ∷ slots) others [] rest first second = absurd first
fit_append (slot ∷ slots) others (t ∷ ts) rest first second = (first.0, fit_append slots others ts rest first.1 second)

fit_rest : (slots others : List Slot) (ts rest : List lex.Token) → Fit slots ts → FitWhole (slots ++ others) (ts ++ rest) → FitWhole others rest
fit_rest [] others [] rest first both = both
fit_rest [] others (t ∷ ts) rest first both = absurd first
fit_rest (slot ∷ slots) others [] rest first both = absurd first
fit_rest (slot ∷ slots) others (t ∷ ts) rest first both = fit_rest slots others ts rest first.1 both.1

-- ---- each slot accepts some token

abbrev default_token : Slot → lex.Token
default_token (Value field) = decimal_number false (48 ∷ [])
default_token Comma = comma
default_token Open = open_bracket
default_token Close = close_bracket
default_token Further = comma
default_token Second = decimal_number false (49 ∷ [])
default_token other = name (codes "x" ++ decimal 0)

zero_in : (field : Field) → IsIn field (pos 0)
zero_in Immediate = (omega (arith, ints), omega (arith, ints), λ offset. refl)
zero_in other = (omega (arith, ints), omega (arith, ints), λ offset. refl)

accepts_default : (slot : Slot) → Accepts slot (default_token slot)
accepts_default (Value field) = inl (pos 0, ((lit≤ tt, refl), zero_in field))
accepts_default Comma = refl
accepts_default Open = refl
accepts_default Close = refl
accepts_default Further = refl
accepts_default Second = (lit≤ tt, refl)
accepts_default other = (0, (refl, lit< tt))

abbrev default_tokens : List Slot → List lex.Token
default_tokens [] = []
default_tokens (slot ∷ slots) = default_token slot ∷ default_tokens slots

fit_default : (slots : List Slot) → FitWhole slots (default_tokens slots)
fit_default [] = tt
fit_default (slot ∷ slots) = (accepts_default slot, fit_default slots)

-- tokens that fit are a statement
fit_statement : (m : Mnemonic) (ts : List lex.Token) → is_statement m ≡ true → FitWhole (slots_of m) ts
    → (statement : Statement) × IsStatement (mnemonic_token m ∷ ts) statement
fit_statement m ts named fit = let f = fit_fills (slots_of m) ts no_values fit in (_, fills_statement m named f.1)

-- one mnemonic alone has a token
same_mnemonic : (m k : Mnemonic) → is_statement m ≡ true → is_statement k ≡ true → mnemonic_token m ≡ mnemonic_token k → m ≡ k
same_mnemonic m k at_m at_k e =
    let one = mnemonic_no m at_m in
    let two : mnemonic_result (mnemonic_token m) ≡ Ok k = ap mnemonic_result e ∙ mnemonic_no k at_k in
    let same : ◌≡◌ {A = Result Mnemonic Rule} (Ok m) (Ok k) = sym one ∙ two in
    cc

-- the tokens behind a statement's mnemonic fit its slots
statement_fit : (m : Mnemonic) (ts : List lex.Token) (statement : Statement) → is_statement m ≡ true → IsStatement (mnemonic_token m ∷ ts) statement
    → FitWhole (slots_of m) ts
statement_fit m ts statement named is =
    let h = statement_slots is in
    let tokens = h.tokens in
    let first : mnemonic_token m ≡ mnemonic_token h.mnemonic = cc in
    let rest : ts ≡ h.others = cc in
    let same = same_mnemonic m h.mnemonic named h.named first in
    subst (λ k. FitWhole (slots_of k) ts) (sym same) (subst (FitWhole (slots_of h.mnemonic)) (sym rest) (fills_fit h.fills))

-- ---- the fault of a line

value_default : (slot : Slot) → IsValue slot → IsNumber (default_token slot)
value_default (Value field) is = tt
value_default Second is = tt
value_default other is = absurd is

number_value : (slot : Slot) (t : lex.Token) → IsNumber t → Accepts slot t → IsValue slot
number_value (Value field) t is accepts = tt
number_value Comma t is accepts = absurd (subst IsNumber accepts is)
number_value Open t is accepts = absurd (subst IsNumber accepts is)
number_value Close t is accepts = absurd (subst IsNumber accepts is)
number_value Further t is accepts = absurd (subst IsNumber accepts is)
number_value Second t is accepts = tt
number_value other t is accepts = absurd (subst IsNumber accepts.1.0 is)

-- behind a mnemonic and tokens that fill some of its slots
module _ (m : Mnemonic) (named : is_statement m ≡ true) (before due : List Slot) (front : List lex.Token) (split : slots_of m ≡ before ++ due)
    (fit : Fit before front) where
  -- what goes on a statement there fits the slots that are due
  rest_fits : (rest : List lex.Token) (statement : Statement) → IsStatement (mnemonic_token m ∷ (front ++ rest)) statement → FitWhole due rest
  rest_fits rest statement is =
      fit_rest before due front rest fit (subst (λ slots. FitWhole slots (front ++ rest)) split (statement_fit m (front ++ rest) statement named is))

  -- and what fits goes on to a statement
  goes_on : (rest : List lex.Token) → FitWhole due rest → (statement : Statement) × IsStatement (mnemonic_token m ∷ (front ++ rest)) statement
  goes_on rest fits =
      fit_statement m (front ++ rest) named (subst (λ slots. FitWhole slots (front ++ rest)) (sym split) (fit_append before due front rest fit fits))

  good_here : (words : ℕ) → words < 262144 → IsGoodFront words (mnemonic_token m ∷ front)
  good_here words room = let s = goes_on (default_tokens due) (fit_default due) in inr (room, (default_tokens due, s.0, s.1))

  next_fits : (words : ℕ) (t : lex.Token) → IsGoodFront words (mnemonic_token m ∷ (front ++ t ∷ [])) → (others : List lex.Token) × FitWhole due (t ∷ others)
  next_fits words t (inl e) = absurd (cc)
  next_fits words t (inr (room, (others, statement, is))) =
      (others, rest_fits (t ∷ others) statement (subst (λ ts. IsStatement (mnemonic_token m ∷ ts) statement) (append_assoc front (t ∷ []) others) is))

  whole_fits : (statement : Statement) → IsStatement (mnemonic_token m ∷ front) statement → FitWhole due []
  whole_fits statement is = rest_fits [] statement (subst (λ ts. IsStatement (mnemonic_token m ∷ ts) statement) (sym (append-nil front)) is)

  -- a statement that may end there is whole
  is_whole : FitWhole due [] → IsWhole (mnemonic_token m ∷ front)
  is_whole fits = let s = goes_on [] fits in (s.0, subst (λ ts. IsStatement (mnemonic_token m ∷ ts) s.0) (append-nil front) s.1)

-- the symbol that stops the code is no good, and of this kind
record IsStop (words : ℕ) (front : List lex.Token) (symbol : lex.Symbol) (kind : ℕ) : Type 0 where
  bad : ¬ IsGoodNext words front symbol
  is_kind : IsKind front symbol kind

stop_is : (words : ℕ) (m : Mnemonic) (named : is_statement m ≡ true) (before due : List Slot) (front : List lex.Token) (split : slots_of m ≡ before ++ due)
    (fit : Fit before front) (symbol : lex.Symbol) (rule : Rule)
    → Stops due symbol rule → IsStop words (mnemonic_token m ∷ front) symbol (kind_of rule)
stop_is words m named before due front split fit symbol rule stray = record { bad = λ good. good; is_kind = no_token }
stop_is words m named before due front split fit symbol rule over = record {
  bad = λ good. (next_fits m named before [] front split fit words _ good).1;
  is_kind = surplus (is_whole m named before [] front split fit tt);
}
stop_is words m named before due front split fit symbol rule (over_further {slots} {t} none) = record {
  bad = λ good. none (next_fits m named before (Further ∷ slots) front split fit words t good).1.0;
  is_kind = surplus (is_whole m named before (Further ∷ slots) front split fit tt);
}
stop_is words m named before due front split fit symbol rule (short {slot} {slots} goes_further) = record {
  bad = no_end;
  is_kind = too_short;
}
  where
    no_end : ¬ IsGoodNext words (mnemonic_token m ∷ front) text_end
    no_end (None, e) = absurd (cc)
    no_end (Some statement, is) = goes_further (whole_fits m named before (slot ∷ slots) front split fit statement is)
stop_is words m named before due front split fit symbol rule (wrong_number {slot} {slots} {t} value number none) = record {
  bad = λ good. none (next_fits m named before (slot ∷ slots) front split fit words t good).1.0;
  is_kind = out_of_field number
      (let s = goes_on m named before (slot ∷ slots) front split fit (default_tokens (slot ∷ slots)) (fit_default (slot ∷ slots)) in
      (default_token slot, default_tokens slots, s.0, value_default slot value, s.1));
}
stop_is words m named before due front split fit symbol rule (wrong {slot} {slots} {t} goes_further plain none) = record {
  bad = λ good. none (next_fits m named before (slot ∷ slots) front split fit words t good).1.0;
  is_kind = no_operand (λ e. absurd (cc)) (λ whole. goes_further (whole_fits m named before (slot ∷ slots) front split fit whole.0 whole.1))
      (λ both. plain (
        both.0,
        number_value slot both.1.0 both.1.3
            (rest_fits m named before (slot ∷ slots) front split fit (both.1.0 ∷ both.1.1) both.1.2 both.1.4).0,
      ));
}

-- the fault that stands there
fault_at : (words : ℕ) (line : List ℕ) (b : HasBody line) (front : List lex.Token) (symbol : lex.Symbol) (kind column : ℕ)
    → Meets line (next_token line b.from) front symbol column → IsGoodFront words front → IsStop words front symbol kind → IsFaultOfLine words line kind column
fault_at words line b front symbol kind column meets good stop = record {
  label = label_text line b.label;
  front = front;
  symbol = symbol;
  stands = record { has_label = b.has_label; stands = b.leaves front symbol column meets };
  good = good;
  bad = stop.bad;
  is_kind = stop.is_kind;
}

no_first : (words : ℕ) (t : lex.Token) → ¬ IsMnemonic t → ¬ IsGoodFront words (t ∷ [])
no_first words t none (inl e) = absurd (cc)
no_first words t none (inr (room, (others, statement, is))) = none (others, statement, is)

no_room : (words : ℕ) (t : lex.Token) → ¬ (words < 262144) → ¬ IsGoodFront words (t ∷ [])
no_room words t full (inl e) = absurd (cc)
no_room words t full (inr (room, more)) = full room

-- each mnemonic begins a statement
pub mnemonic_begins : (m : Mnemonic) → is_statement m ≡ true → IsMnemonic (mnemonic_token m)
mnemonic_begins m named = let s = fit_statement m (default_tokens (slots_of m)) named (fit_default (slots_of m)) in (default_tokens (slots_of m), s.0, s.1)

no_mnemonic : (t : lex.Token) (rule : Rule) → mnemonic_result t ≡ Err rule → ¬ IsMnemonic t
no_mnemonic t rule e (others, statement, is) =
    let h = statement_slots is in
    let tokens = h.tokens in
    let first : t ≡ mnemonic_token h.mnemonic = cc in
    let ok : mnemonic_result t ≡ Ok h.mnemonic = ap mnemonic_result first ∙ mnemonic_no h.mnemonic h.named in
    absurd (cc)

mnemonic_rule : (t : lex.Token) (rule : Rule) → mnemonic_result t ≡ Err rule → rule ≡ NoMnemonic
mnemonic_rule (name bytes) rule e = found_err (mnemonic_of bytes) NoMnemonic rule e
mnemonic_rule word rule e = found_err (mnemonic_of (spelling word)) NoMnemonic rule e
mnemonic_rule other rule e = cc

-- the fault where no mnemonic stands
first_stop : (words : ℕ) (line : List ℕ) (t : Token) (symbol : lex.Symbol) (rule : Rule) → Shows line t symbol → t.kind ≢ End
    → mnemonic_in (text_of line t) t.kind ≡ Err rule → IsStop words [] symbol (kind_of rule)
first_stop words line t (reading.token shown) rule shows inside e =
    let there = sym (mnemonic_shown line t shown shows) ∙ e in
    let none = no_mnemonic shown rule there in
    subst (λ r. IsStop words [] (reading.token shown) (kind_of r)) (sym (mnemonic_rule shown rule there))
    (record { bad = no_first words shown none; is_kind = no_statement none })
first_stop words line t text_end rule shows inside e = absurd (inside shows)
first_stop words line t stray_byte rule shows inside e =
    let same : NoToken ≡ rule = err_same {A = Mnemonic} NoToken rule (sym (ap (mnemonic_in (text_of line t)) shows) ∙ e) in
    subst (λ r. IsStop words [] stray_byte (kind_of r)) same (record { bad = λ good. good; is_kind = no_token })

module _ (words : ℕ) (line : List ℕ) (b : HasBody line) (f : Fault) where
  abbrev body : Token
  body = next_token line b.from

  abbrev IsTold : Type 0
  IsTold = IsFaultOfLine words line (kind_of f.rule) f.place

  abbrev operands_read : Mnemonic → Result Operands Fault
  operands_read m = cond (eqb words 262144) (Err (fault Surplus body.start)) (read_slots line (slots_of m) body.end no_operands)

  mnemonic_fault : (symbol : lex.Symbol) (rule : Rule) → Shows line body symbol → body.kind ≢ End
      → mnemonic_in (text_of line body) body.kind ≡ Err rule → fault rule body.start ≡ f → IsTold
  mnemonic_fault symbol rule shows inside e same =
      subst (λ g. IsFaultOfLine words line (kind_of g.rule) g.place) same
      (fault_at words line b [] symbol (kind_of rule) body.start (shows, refl) (inl refl) (first_stop words line body symbol rule shows inside e))

  operands_fault : (m : Mnemonic) → words ≤ 262144 → IsShown line body (mnemonic_token m) → is_statement m ≡ true → operands_read m ≡ Err f → IsTold
  operands_fault m few shown named e = by_test (eqb words 262144)
      (λ full.
      let limit : ¬ (words < 262144) = λ less. absurd (grind (arith, nat_tests)) in
      let same : fault Surplus body.start ≡ f = err_same {A = Operands} _ f
      (sym (ap (λ c. cond c (Err (fault Surplus body.start)) (read_slots line (slots_of m) body.end no_operands)) full) ∙ e) in
      subst (λ g. IsFaultOfLine words line (kind_of g.rule) g.place) same
      (fault_at words line b [] (reading.token (mnemonic_token m)) 7 body.start (shown, refl) (inl refl)
      (record { bad = no_room words (mnemonic_token m) limit; is_kind = too_many (mnemonic_begins m named) })))
      (λ room.
      let less : words < 262144 = grind (arith, nat_tests) in
      let stuck : read_slots line (slots_of m) body.end no_operands ≡ Err f =
      sym (ap (λ c. cond c (Err (fault Surplus body.start)) (read_slots line (slots_of m) body.end no_operands)) room) ∙ e in
      let stop = subst (IsReading line (slots_of m) body.end no_operands) stuck (slots_read line (slots_of m) body.end no_operands) in
      fault_at words line b (mnemonic_token m ∷ stop.front) stop.symbol (kind_of f.rule) f.place (shown, stop.meets)
      (good_here m named stop.filled_slots stop.due stop.front stop.split stop.fit words less)
      (stop_is words m named stop.filled_slots stop.due stop.front stop.split stop.fit stop.symbol f.rule stop.stops))

  statement_fault : words ≤ 262144 → body.kind ≢ End → read_statement line body (eqb words 262144) ≡ Err f → IsTold
  unfolding read_statement
  statement_fault few inside e =
      let s = next_symbol line b.from in
      let first = mnemonic_in (text_of line body) body.kind in
      elim (bind_err (at_place body.start first) _ f e) [
        | inl unread ↦ let told = at_place_err body.start first f unread in mnemonic_fault s.0 told.0 s.1 inside told.1 told.2
        | inr read ↦
            let m = read.0 in
            let at = at_place_ok body.start first m read.1 in
            operands_fault m few (mnemonic_read line body m s.0 s.1 at) (mnemonic_in-statement (text_of line body) body.kind m at)
            (map_err {B = code.Statement} (operands_read m) (λ o. record { mnemonic = m; operands = o }) f read.2)
      ]

  body_fault : (kind : Kind) → body.kind ≡ kind → words ≤ 262144 → with_statement line b.label body (eqb words 262144) kind ≡ Err f → IsTold
  body_fault End at few e = absurd (cc)
  body_fault other at few e =
      statement_fault few (λ end. absurd (cc)) (map_err {B = code_lines.Line} _ (λ s. record { label = b.label; statement = Some s }) f e)

-- what the code tells of a line is its fault
pub line_fault : (words : ℕ) (line : List ℕ) (f : Fault) → words ≤ 262144 → read_line line (eqb words 262144) ≡ Err f
    → IsFaultOfLine words line (kind_of f.rule) f.place
line_fault words line f few e =
    let b = body_of line in
    body_fault words line b f (next_token line b.from).kind refl few (sym (b.reads (eqb words 262144)) ∙ e)

-- ---- a statement goes on another by a comma and a number alone

-- behind the comma before which a statement may end stands the number 1 alone
abbrev OneBehind : List Slot → Type 0
OneBehind [] = Unit {0}
OneBehind (Further ∷ slots) = slots ≡ Second ∷ []
OneBehind (slot ∷ slots) = OneBehind slots

one_behind : (m : Mnemonic) → OneBehind (slots_of m)
one_behind Cread = refl
one_behind (RegisterRegister op) = tt
one_behind other = tt

one_behind_later : (slot : Slot) (slots : List Slot) → OneBehind (slot ∷ slots) → OneBehind slots
one_behind_later Further slots last = subst OneBehind (sym last) tt
one_behind_later slot slots last = last

-- what goes on behind a whole statement
abbrev pub IsFurther : lex.Token → List lex.Token → Type 0
IsFurther t rest = (t ≡ comma) × ((u : lex.Token) × (rest ≡ u ∷ []) × IsNumber u)

second_alone : (rest : List lex.Token) → FitWhole (Second ∷ []) rest → (u : lex.Token) × (rest ≡ u ∷ []) × IsNumber u
second_alone [] fits = absurd fits
second_alone (u ∷ []) fits = (u, refl, writes_is_number u (pos 1) fits.0)
second_alone (u ∷ t ∷ rest) fits = absurd fits.1

fit_further : (slots : List Slot) (ts : List lex.Token) (t : lex.Token) (rest : List lex.Token) → OneBehind slots → FitWhole slots ts
    → FitWhole slots (ts ++ t ∷ rest) → IsFurther t rest
fit_further [] [] t rest last first second = absurd second
fit_further [] (u ∷ ts) t rest last first second = absurd first
fit_further (Further ∷ slots) [] t rest last first second = (second.0, second_alone rest (subst (λ k. FitWhole k rest) last second.1))
fit_further (slot ∷ slots) [] t rest last first second = absurd first
fit_further (slot ∷ slots) (u ∷ ts) t rest last first second =
    fit_further slots ts t rest (one_behind_later slot slots last) first.1 second.1

pub statement_extends : (ts : List lex.Token) (t : lex.Token) (rest : List lex.Token) (one two : Statement) → IsStatement ts one
    → IsStatement (ts ++ t ∷ rest) two → IsFurther t rest
statement_extends ts t rest one two first second =
    let h = statement_slots first in
    let there = subst (λ k. IsStatement (k ++ t ∷ rest) two) h.tokens second in
    let both : FitWhole (slots_of h.mnemonic) (h.others ++ t ∷ rest) = statement_fit h.mnemonic (h.others ++ t ∷ rest) two h.named there in
    fit_further (slots_of h.mnemonic) h.others t rest (one_behind h.mnemonic) (fills_fit h.fills) both

nothing_whole : ¬ IsWhole []
nothing_whole (statement, is) = let h = statement_slots is in let tokens = h.tokens in absurd (cc)

number_no_mnemonic : (t : lex.Token) (m : Mnemonic) → IsNumber t → mnemonic_result t ≡ Ok m → ⊥
number_no_mnemonic (decimal_number negative digits) m is e = cc
number_no_mnemonic (hex_number digits) m is e = cc
number_no_mnemonic other m is e = absurd is

no_number_first : ¬ IsNumberDue []
no_number_first (t, others, statement, number, is) =
    let h = statement_slots is in
    let tokens = h.tokens in
    let first : t ≡ mnemonic_token h.mnemonic = cc in
    number_no_mnemonic t h.mnemonic number (ap mnemonic_result first ∙ mnemonic_no h.mnemonic h.named)

whole_no_number : (front : List lex.Token) → IsWhole front → ¬ IsNumberDue front
whole_no_number front (one, is) (t, others, two, number, more) = subst IsNumber (statement_extends front t others one two is more).0 number

-- a fault has one kind
pub one_kind : {front : List lex.Token} {symbol : lex.Symbol} {kind other : ℕ} → IsKind front symbol kind → IsKind front symbol other → kind ≡ other
one_kind no_token no_token = refl
one_kind (no_statement none) (no_statement also) = refl
one_kind (no_statement none) (no_operand some whole number) = absurd (some refl)
one_kind (no_statement none) (out_of_field number due) = absurd (no_number_first due)
one_kind (no_statement none) (surplus whole) = absurd (nothing_whole whole)
one_kind (no_statement none) (too_many is) = absurd (none is)
one_kind (no_operand some whole number) (no_statement none) = absurd (some refl)
one_kind (no_operand some whole number) (no_operand some' whole' number') = refl
one_kind (no_operand some whole number) (out_of_field is due) = absurd (number (is, due))
one_kind (no_operand some whole number) (surplus is) = absurd (whole is)
one_kind (no_operand some whole number) (too_many is) = absurd (some refl)
one_kind too_short too_short = refl
one_kind (out_of_field is due) (no_statement none) = absurd (no_number_first due)
one_kind (out_of_field is due) (no_operand some whole number) = absurd (number (is, due))
one_kind (out_of_field is due) (out_of_field is' due') = refl
one_kind (out_of_field {front} is due) (surplus whole) = absurd (whole_no_number front whole due)
one_kind (out_of_field is due) (too_many mnemonic) = absurd (no_number_first due)
one_kind (surplus whole) (no_statement none) = absurd (nothing_whole whole)
one_kind (surplus is) (no_operand some whole number) = absurd (whole is)
one_kind (surplus {front} whole) (out_of_field is due) = absurd (whole_no_number front whole due)
one_kind (surplus whole) (surplus whole') = refl
one_kind (surplus whole) (too_many is) = refl
one_kind (too_many is) (no_statement none) = absurd (none is)
one_kind (too_many is) (no_operand some whole number) = absurd (some refl)
one_kind (too_many mnemonic) (out_of_field is due) = absurd (no_number_first due)
one_kind (too_many is) (surplus whole) = refl
one_kind (too_many is) (too_many is') = refl
