-- The slots of a statement, filled by tokens.
use Rattle.std.proofs.Common.{◌≡◌, ℕ, ◌⊎◌, inl, inr, Bool, true, false, cond, List, [], ◌∷◌, ◌++◌, refl, sym, ap, ◌∙◌, subst, Option, Some, None, Result}
use Rattle.std.proofs.Common.{Ok, Err, ℤ, pos}
use Rattle.std.specs.Option.{ok_or}
use Rattle.std.proofs.lemmas.Bool.{cond_both}
use Rattle.ci_reading.specs.Tokens as reading
use Rattle.ci_reading.specs.Tokens.{text_end, stray_byte}
use Rattle.ci_asm.specs.declared.scanner.Kind.{Kind}
use Rattle.ci_asm.specs.declared.scanner.Kind.TheVariants.{End, Bad}
use Rattle.ci_asm.specs.declared.scanner.Token.{Token}
use Rattle.ci_asm.specs.declared.numbers.Number.{Number}
use Rattle.ci_asm.specs.declared.slots.Field.{Field}
use Rattle.ci_asm.specs.declared.slots.RegisterPlace.{RegisterPlace}
use Rattle.ci_asm.specs.declared.slots.Slot.{Slot}
use Rattle.ci_asm.specs.declared.slots.Slot.TheVariants.{Register, Value, Comma, Open, Close, Further, Second}
use Rattle.ci_asm.specs.declared.faults.Rule.{Rule}
use Rattle.ci_asm.specs.declared.faults.Rule.TheVariants.{NoToken, NoOperand, OutOfField, Surplus}
use Rattle.ci_asm.specs.declared.faults.Fault.{Fault}
use Rattle.ci_asm.specs.declared.statements.Registers.{Registers}
use Rattle.ci_asm.specs.declared.statements.Operands.{Operands}
use Rattle.ci_asm.specs.private.Tokens.{kind_of, next_token, text_of, number_of, register_of}
use Rattle.ci_asm.specs.private.Shapes.{fits, is_one}
use Rattle.ci_asm.specs.private.Statements.{◌>>=◌, fault, at_place, no_registers, with_register, number_in, filled, filled_in, ends_before, ended}
use Rattle.ci_asm.specs.private.Statements.{read_slots, signed_value}
use Rattle.ci_asm.specs.Shown.{register_name}
use Rattle.ci_asm.specs.Lexicon as lex
use Rattle.ci_asm.specs.Lexicon.{name, decimal_number, hex_number, comma, open_bracket, close_bracket, spelling, IsToken}
use Rattle.ci_asm.specs.Forms.{is_offset, IsIn, IsRegister, IsNumber, Writes, HasNumber}
use Rattle.ci_asm.proofs.WrittenDigits.{register_of-name}
use Rattle.ci_asm.proofs.TestLaws.{true_is_not_false}
use Rattle.ci_asm.proofs.SymbolsMet.{IsShown, Shows, Meets, next_symbol}
use Rattle.ci_asm.proofs.ReadOperands.{register_named, number_result, number_of-token, number_writes, writes_number, one_value, one_same, signed_one, fits_in}
use Rattle.ci_asm.proofs.ReadOperands.{in_fits}

-- ---- values

-- what the slots of a statement hold
pub record Values : Type 0 where
  pub registers : Registers
  pub number : ℤ
  pub label : Option (List ℕ)

abbrev pub label_text : List ℕ → Option Token → Option (List ℕ)
label_text line None = None
label_text line (Some t) = Some (text_of line t)

abbrev pub values_of : List ℕ → Operands → Values
values_of line o = record { registers = o.registers; number = signed_value o.number; label = label_text line o.label }

abbrev pub no_values : Values
no_values = record { registers = no_registers; number = pos 0; label = None }

-- the tokens fill the slots
pub data Fills : List Slot → List lex.Token → Values → Values → Type 0 where
  done : {v : Values} → Fills [] [] v v
  fill_register : {place : RegisterPlace} {slots : List Slot} {t : lex.Token} {ts : List lex.Token} {v w : Values} {r : ℕ} → IsRegister t r
      → Fills slots ts (record v { registers = with_register place r v.registers }) w → Fills (Register place ∷ slots) (t ∷ ts) v w
  fill_number : {field : Field} {slots : List Slot} {t : lex.Token} {ts : List lex.Token} {v w : Values} {n : ℤ}
      → HasNumber field t n → Fills slots ts (record v { number = n }) w → Fills (Value field ∷ slots) (t ∷ ts) v w
  fill_label : {field : Field} {slots : List Slot} {label : List ℕ} {ts : List lex.Token} {v w : Values}
      → is_offset field ≡ true → Fills slots ts (record v { label = Some label }) w → Fills (Value field ∷ slots) (name label ∷ ts) v w
  fill_comma : {slots : List Slot} {ts : List lex.Token} {v w : Values} → Fills slots ts v w → Fills (Comma ∷ slots) (comma ∷ ts) v w
  fill_open : {slots : List Slot} {ts : List lex.Token} {v w : Values} → Fills slots ts v w → Fills (Open ∷ slots) (open_bracket ∷ ts) v w
  fill_close : {slots : List Slot} {ts : List lex.Token} {v w : Values} → Fills slots ts v w → Fills (Close ∷ slots) (close_bracket ∷ ts) v w
  fill_further : {slots : List Slot} {ts : List lex.Token} {v w : Values} → Fills slots ts v w → Fills (Further ∷ slots) (comma ∷ ts) v w
  -- the statement ends before the comma
  no_further : {slots : List Slot} {v : Values} → Fills (Further ∷ slots) [] v v
  fill_second : {slots : List Slot} {t : lex.Token} {ts : List lex.Token} {v w : Values}
      → Writes t (pos 1) → Fills slots ts (record v { number = pos 1 }) w → Fills (Second ∷ slots) (t ∷ ts) v w

-- ---- what a slot accepts

abbrev pub Accepts : Slot → lex.Token → Type 0
Accepts (Register place) t = (r : ℕ) × IsRegister t r
Accepts (Value field) t = ((n : ℤ) × HasNumber field t n) ⊎ ((is_offset field ≡ true) × ((label : List ℕ) × (t ≡ name label)))
Accepts Comma t = t ≡ comma
Accepts Open t = t ≡ open_bracket
Accepts Close t = t ≡ close_bracket
Accepts Further t = t ≡ comma
Accepts Second t = Writes t (pos 1)

-- tokens in the places of all these slots
abbrev pub Fit : List Slot → List lex.Token → Type 0
Fit [] [] = Unit {0}
Fit [] (t ∷ ts) = ⊥
Fit (slot ∷ slots) [] = ⊥
Fit (slot ∷ slots) (t ∷ ts) = Accepts slot t × Fit slots ts

-- a statement may end before the slot
abbrev pub MayEnd : Slot → Type 0
MayEnd Further = Unit {0}
MayEnd slot = ⊥

-- the same of the slots of a statement, which may end before the last of them
abbrev pub FitWhole : List Slot → List lex.Token → Type 0
FitWhole [] [] = Unit {0}
FitWhole [] (t ∷ ts) = ⊥
FitWhole (slot ∷ slots) [] = MayEnd slot
FitWhole (slot ∷ slots) (t ∷ ts) = Accepts slot t × FitWhole slots ts

pub fills_fit : {slots : List Slot} {ts : List lex.Token} {v w : Values} → Fills slots ts v w → FitWhole slots ts
fills_fit done = tt
fills_fit (fill_register {r} is rest) = ((r, is), fills_fit rest)
fills_fit (fill_number {n} has rest) = (inl (n, has), fills_fit rest)
fills_fit (fill_label {label} offset rest) = (inr (offset, (label, refl)), fills_fit rest)
fills_fit (fill_comma rest) = (refl, fills_fit rest)
fills_fit (fill_open rest) = (refl, fills_fit rest)
fills_fit (fill_close rest) = (refl, fills_fit rest)
fills_fit (fill_further rest) = (refl, fills_fit rest)
fills_fit no_further = tt
fills_fit (fill_second writes rest) = (writes, fills_fit rest)

abbrev pub IsValue : Slot → Type 0
IsValue (Value field) = Unit {0}
IsValue Second = Unit {0}
IsValue slot = ⊥

-- the symbol that doesn't fit where these slots are due, and the rule that it breaks
pub data Stops : List Slot → lex.Symbol → Rule → Type 0 where
  stray : {slots : List Slot} → Stops slots stray_byte NoToken
  over : {t : lex.Token} → Stops [] (reading.token t) Surplus
  over_further : {slots : List Slot} {t : lex.Token} → ¬ Accepts Further t → Stops (Further ∷ slots) (reading.token t) Surplus
  short : {slot : Slot} {slots : List Slot} → ¬ MayEnd slot → Stops (slot ∷ slots) text_end NoOperand
  wrong_number : {slot : Slot} {slots : List Slot} {t : lex.Token} → IsValue slot → IsNumber t → ¬ Accepts slot t
      → Stops (slot ∷ slots) (reading.token t) OutOfField
  wrong : {slot : Slot} {slots : List Slot} {t : lex.Token} → ¬ MayEnd slot → ¬ (IsNumber t × IsValue slot) → ¬ Accepts slot t
      → Stops (slot ∷ slots) (reading.token t) NoOperand

-- ---- one slot

-- what the token of the scanner makes of the operands in the slot's place
pub data Filled (t : Token) (o : Operands) : Slot → lex.Token → Operands → Type 0 where
  a_register : {place : RegisterPlace} {shown : lex.Token} {r : ℕ} → IsRegister shown r
      → Filled t o (Register place) shown (record o { registers = with_register place r o.registers })
  a_number : {field : Field} {shown : lex.Token} {n : Number} → HasNumber field shown (signed_value n)
      → Filled t o (Value field) shown (record o { number = n })
  a_label : {field : Field} {bytes : List ℕ} → is_offset field ≡ true → Filled t o (Value field) (name bytes) (record o { label = Some t })
  a_comma : Filled t o Comma comma o
  an_open : Filled t o Open open_bracket o
  a_close : Filled t o Close close_bracket o
  a_further : Filled t o Further comma o
  a_second : {shown : lex.Token} {n : Number} → Writes shown (pos 1) → signed_value n ≡ pos 1 → Filled t o Second shown (record o { number = n })

pub filled_accepts : {t : Token} {o p : Operands} {slot : Slot} {shown : lex.Token} → Filled t o slot shown p → Accepts slot shown
filled_accepts (a_register {r} is) = (r, is)
filled_accepts (a_number {n} has) = inl (signed_value n, has)
filled_accepts (a_label {bytes} offset) = inr (offset, (bytes, refl))
filled_accepts a_comma = refl
filled_accepts an_open = refl
filled_accepts a_close = refl
filled_accepts a_further = refl
filled_accepts (a_second writes one) = writes

abbrev FilledBy : Token → Operands → Slot → Operands → lex.Symbol → Type 0
FilledBy t o slot p (reading.token shown) = Filled t o slot shown p
FilledBy t o slot p text_end = ⊥
FilledBy t o slot p stray_byte = ⊥

-- the code's answer for the slot, where others follow
abbrev IsAnswer : Token → Operands → Slot → List Slot → lex.Symbol → Result Operands Rule → Type 0
IsAnswer t o slot slots symbol (Ok p) = FilledBy t o slot p symbol
IsAnswer t o slot slots symbol (Err rule) = Stops (slot ∷ slots) symbol rule

module _ (t : Token) (o : Operands) (slots : List Slot) where
  abbrev Answers : Slot → lex.Token → Result Operands Rule → Type 0
  Answers slot shown r = IsAnswer t o slot slots (reading.token shown) r

  -- where a number may stand that passes a test
  module _ (slot : Slot) (value : IsValue slot) (shown : lex.Token) (test : Number → Bool)
      (fills : (n : Number) → number_result shown ≡ Some n → test n ≡ true → Filled t o slot shown (record o { number = n }))
      (passes : Accepts slot shown → (n : Number) × (number_result shown ≡ Some n) × (test n ≡ true)) where
    number_by : IsNumber shown → (r : Option Number) → number_result shown ≡ r → Answers slot shown (number_in test r o)
    number_by is None at = wrong_number value is (λ accepts. let some = (passes accepts).1 in absurd (cc))
    number_by is (Some n) at = cond_both (test n) _ _ (Answers slot shown) (fills n at)
        (λ fails. wrong_number value is
        (λ accepts.
        let some = (passes accepts).1 in
        let passed = (passes accepts).2 in
        absurd (cc)))

    number_answer : IsNumber shown → IsToken shown → Answers slot shown (number_in test (number_of (spelling shown)) o)
    number_answer is proper =
        subst (λ r. Answers slot shown (number_in test r o)) (sym (number_of-token shown is proper)) (number_by is (number_result shown) refl)

  register_answer : (place : RegisterPlace) (shown : lex.Token) → Answers (Register place) shown (filled (spelling shown) (Register place) t o (kind_of shown))
  unfolding filled
  register_answer place (name bytes) = by (register_of bytes) refl
    where
      by : (r : Option ℕ) → register_of bytes ≡ r
          → Answers (Register place) (name bytes) (ok_or r NoOperand >>= λ r. Ok (record o { registers = with_register place r o.registers }))
      by (Some r) at = let known = register_named bytes r at in a_register (ap name known.0, known.1)
      by None at = wrong (λ may. may) (λ h. h.0)
          (λ is.
          let token = is.1.0 in
          let same : bytes ≡ register_name is.0 = cc in
          let known : register_of bytes ≡ Some is.0 = ap register_of same ∙ register_of-name is.0 is.1.1 in
          absurd (cc))
  register_answer place other = wrong (λ may. may) (λ h. h.1) (λ is. let token = is.1.0 in absurd (cc))

  value_fills : (field : Field) (shown : lex.Token) (n : Number) → number_result shown ≡ Some n → fits field n ≡ true
      → Filled t o (Value field) shown (record o { number = n })
  value_fills field shown n at fit = a_number (number_writes shown n at, fits_in field n fit)

  value_passes : (field : Field) (shown : lex.Token) → IsNumber shown → Accepts (Value field) shown
      → (n : Number) × (number_result shown ≡ Some n) × (fits field n ≡ true)
  value_passes field shown is (inl has) =
      let w = writes_number shown has.0 has.1.0 in
      (w.0, w.1, in_fits field w.0 (subst (IsIn field) (sym w.2) has.1.1))
  value_passes field shown is (inr label) = absurd (subst IsNumber label.1.1 is)

  value_answer : (field : Field) (shown : lex.Token) → IsToken shown → Answers (Value field) shown (filled (spelling shown) (Value field) t o (kind_of shown))
  unfolding filled
  value_answer field (name bytes) proper = cond_both (is_offset field) _ _ (Answers (Value field) (name bytes)) a_label
      (λ no. wrong (λ may. may) (λ h. h.0)
      (λ accepts. elim accepts [ inl has ↦ absurd has.1.0 | inr label ↦ absurd (true_is_not_false label.0 no) ]))
  value_answer field (decimal_number negative digits) proper =
      let shown = decimal_number negative digits in
      number_answer (Value field) tt shown (fits field) (value_fills field shown) (value_passes field shown tt) tt proper
  value_answer field (hex_number digits) proper =
      let shown = hex_number digits in
      number_answer (Value field) tt shown (fits field) (value_fills field shown) (value_passes field shown tt) tt proper
  value_answer field other proper = wrong (λ may. may) (λ h. h.0)
      (λ accepts. elim accepts [ inl has ↦ absurd has.1.0 | inr label ↦ let token = label.1.1 in absurd (cc) ])

  second_fills : (shown : lex.Token) (n : Number) → number_result shown ≡ Some n → is_one n ≡ true → Filled t o Second shown (record o { number = n })
  second_fills shown n at is =
      let one : signed_value n ≡ pos 1 = ap signed_value (one_same n is) in
      a_second (subst (Writes shown) one (number_writes shown n at)) one

  second_passes : (shown : lex.Token) → Writes shown (pos 1) → (n : Number) × (number_result shown ≡ Some n) × (is_one n ≡ true)
  second_passes shown writes = let w = writes_number shown (pos 1) writes in (w.0, w.1, signed_one w.0 w.2)

  second_answer : (shown : lex.Token) → IsToken shown → Answers Second shown (filled (spelling shown) Second t o (kind_of shown))
  unfolding filled
  second_answer (decimal_number negative digits) proper =
      let shown = decimal_number negative digits in
      number_answer Second tt shown is_one (second_fills shown) (second_passes shown) tt proper
  second_answer (hex_number digits) proper =
      let shown = hex_number digits in
      number_answer Second tt shown is_one (second_fills shown) (second_passes shown) tt proper
  second_answer other proper = wrong (λ may. may) (λ h. h.0) (λ writes. writes)

  comma_answer : (shown : lex.Token) → Answers Comma shown (filled (spelling shown) Comma t o (kind_of shown))
  unfolding filled
  comma_answer comma = a_comma
  comma_answer other = wrong (λ may. may) (λ h. h.1) (λ e. absurd (cc))

  open_answer : (shown : lex.Token) → Answers Open shown (filled (spelling shown) Open t o (kind_of shown))
  unfolding filled
  open_answer open_bracket = an_open
  open_answer other = wrong (λ may. may) (λ h. h.1) (λ e. absurd (cc))

  close_answer : (shown : lex.Token) → Answers Close shown (filled (spelling shown) Close t o (kind_of shown))
  unfolding filled
  close_answer close_bracket = a_close
  close_answer other = wrong (λ may. may) (λ h. h.1) (λ e. absurd (cc))

  further_answer : (shown : lex.Token) → Answers Further shown (filled (spelling shown) Further t o (kind_of shown))
  unfolding filled
  further_answer comma = a_further
  further_answer other = over_further (λ e. absurd (cc))

  token_answer : (slot : Slot) (shown : lex.Token) → IsToken shown → Answers slot shown (filled (spelling shown) slot t o (kind_of shown))
  token_answer (Register place) shown proper = register_answer place shown
  token_answer (Value field) shown proper = value_answer field shown proper
  token_answer Comma shown proper = comma_answer shown
  token_answer Open shown proper = open_answer shown
  token_answer Close shown proper = close_answer shown
  token_answer Further shown proper = further_answer shown
  token_answer Second shown proper = second_answer shown proper

  end_answer : (text : List ℕ) (slot : Slot) → ends_before slot End ≡ false → IsAnswer t o slot slots text_end (filled text slot t o End)
  unfolding filled
  end_answer text Further on = absurd (cc)
  end_answer text other on = short (λ may. may)

  stray_answer : (text : List ℕ) (slot : Slot) → IsAnswer t o slot slots stray_byte (filled text slot t o Bad)
  unfolding filled
  stray_answer text Second = stray
  stray_answer text other = stray

  pub shown_answer : (line : List ℕ) (slot : Slot) (shown : lex.Token) → IsShown line t shown → Answers slot shown (filled_in line slot t o)
  shown_answer line slot shown is =
      subst (Answers slot shown) (λ i. filled (sym is.text i) slot t o (sym is.kind i)) (token_answer slot shown is.proper)

  answer : (line : List ℕ) (slot : Slot) (symbol : lex.Symbol) → Shows line t symbol → ends_before slot t.kind ≡ false
      → IsAnswer t o slot slots symbol (filled_in line slot t o)
  answer line slot (reading.token shown) is on = shown_answer line slot shown is
  answer line slot text_end is on =
      let text = text_of line t in
      subst (λ kind. IsAnswer t o slot slots text_end (filled text slot t o kind)) (sym is) (end_answer text slot (ap (ends_before slot) (sym is) ∙ on))
  answer line slot stray_byte is on =
      let text = text_of line t in
      subst (λ kind. IsAnswer t o slot slots stray_byte (filled text slot t o kind)) (sym is) (stray_answer text slot)

-- the token fills the slot
pub fill_step : {t : Token} {slot : Slot} {shown : lex.Token} {o p : Operands} {w : Values} (line : List ℕ) (slots : List Slot) (ts : List lex.Token)
    → IsShown line t shown → Filled t o slot shown p → Fills slots ts (values_of line p) w → Fills (slot ∷ slots) (shown ∷ ts) (values_of line o) w
fill_step line slots ts is (a_register register) rest = fill_register register rest
fill_step line slots ts is (a_number has) rest = fill_number has rest
fill_step {o} {w} line slots ts is (a_label offset) rest =
    fill_label offset (subst (λ text. Fills slots ts (record (values_of line o) { label = Some text }) w) is.text rest)
fill_step line slots ts is a_comma rest = fill_comma rest
fill_step line slots ts is an_open rest = fill_open rest
fill_step line slots ts is a_close rest = fill_close rest
fill_step line slots ts is a_further rest = fill_further rest
fill_step {o} {w} line slots ts is (a_second writes one) rest =
    fill_second writes (subst (λ z. Fills slots ts (record (values_of line o) { number = z }) w) one rest)

one_register : (t : lex.Token) (a b : ℕ) → IsRegister t a → IsRegister t b → a ≡ b
one_register t a b first second =
    let p = first.0 in
    let q = second.0 in
    let names : register_name a ≡ register_name b = cc in
    let both : Some a ≡ Some b = sym (register_of-name a first.1) ∙ (ap register_of names ∙ register_of-name b second.1) in
    cc

-- and the tokens behind it fill the other slots
fill_rest : {t : Token} {slot : Slot} {slots : List Slot} {shown : lex.Token} {ts : List lex.Token} {o p : Operands} {w : Values} (line : List ℕ)
    → IsShown line t shown → Fills (slot ∷ slots) (shown ∷ ts) (values_of line o) w → Filled t o slot shown p → Fills slots ts (values_of line p) w
fill_rest {slots} {shown} {ts} {o} {w} line is (fill_register {place} {r} register rest) (a_register {r = s} also) =
    subst (λ k. Fills slots ts (record (values_of line o) { registers = with_register place k o.registers }) w) (one_register shown r s register also) rest
fill_rest {slots} {shown} {ts} {o} {w} line is (fill_number {n} has rest) (a_number {n = m} also) =
    subst (λ k. Fills slots ts (record (values_of line o) { number = k }) w) (one_value shown n (signed_value m) has.0 also.0) rest
fill_rest line is (fill_number has rest) (a_label offset) = absurd has.0
fill_rest line is (fill_label offset rest) (a_number also) = absurd also.0
fill_rest {slots} {ts} {o} {w} line is (fill_label offset rest) (a_label also) =
    subst (λ k. Fills slots ts (record (values_of line o) { label = Some k }) w) (sym is.text) rest
fill_rest line is (fill_comma rest) a_comma = rest
fill_rest line is (fill_open rest) an_open = rest
fill_rest line is (fill_close rest) a_close = rest
fill_rest line is (fill_further rest) a_further = rest
fill_rest {slots} {ts} {o} {w} line is (fill_second writes rest) (a_second also one) =
    subst (λ k. Fills slots ts (record (values_of line o) { number = k }) w) (sym one) rest

-- ---- all slots

-- the slots are filled from a place of the line on
pub data AreFilled (line : List ℕ) : List Slot → ℕ → Operands → List lex.Token → ℕ → Operands → Type 0 where
  at_end : {from : ℕ} {o : Operands} → (next_token line from).kind ≡ End → AreFilled line [] from o [] (next_token line from).start o
  early : {slots : List Slot} {from : ℕ} {o : Operands} → (next_token line from).kind ≡ End
      → AreFilled line (Further ∷ slots) from o [] (next_token line from).start o
  next : {slot : Slot} {slots : List Slot} {from column : ℕ} {o p more : Operands} {shown : lex.Token} {ts : List lex.Token}
      → IsShown line (next_token line from) shown → Filled (next_token line from) o slot shown p
      → AreFilled line slots (next_token line from).end p ts column more → AreFilled line (slot ∷ slots) from o (shown ∷ ts) column more

pub filled_meets : (line : List ℕ) {slots : List Slot} {from column : ℕ} {o more : Operands} {ts : List lex.Token}
    → AreFilled line slots from o ts column more → Meets line (next_token line from) ts text_end column
filled_meets line (at_end end) = (end, refl)
filled_meets line (early end) = (end, refl)
filled_meets line (next is fills rest) = (is, filled_meets line rest)

pub filled_fills : (line : List ℕ) {slots : List Slot} {from column : ℕ} {o more : Operands} {ts : List lex.Token}
    → AreFilled line slots from o ts column more → Fills slots ts (values_of line o) (values_of line more)
filled_fills line (at_end end) = done
filled_fills line (early end) = no_further
filled_fills line (next {slots} {ts} is fills rest) = fill_step line slots ts is fills (filled_fills line rest)

-- where the slots could not be filled any more
pub record IsStopped (line : List ℕ) (t : Token) (slots : List Slot) (f : Fault) : Type 0 where
  pub filled_slots : List Slot
  pub due : List Slot
  pub front : List lex.Token
  pub symbol : lex.Symbol
  pub split : slots ≡ filled_slots ++ due
  pub fit : Fit filled_slots front
  pub meets : Meets line t front symbol f.place
  pub stops : Stops due symbol f.rule

stopped_here : (line : List ℕ) (t : Token) (slots : List Slot) (symbol : lex.Symbol) (rule : Rule) → Shows line t symbol → Stops slots symbol rule
    → IsStopped line t slots (fault rule t.start)
stopped_here line t slots symbol rule shows stops =
    record { filled_slots = []; due = slots; front = []; symbol = symbol; split = refl; fit = tt; meets = (shows, refl); stops = stops }

-- what the code reads in the slots' places
abbrev pub IsReading : List ℕ → List Slot → ℕ → Operands → Result Operands Fault → Type 0
IsReading line slots from o (Ok more) = (ts : List lex.Token) × (column : ℕ) × AreFilled line slots from o ts column more
IsReading line slots from o (Err f) = IsStopped line (next_token line from) slots f

module _ (line : List ℕ) (from : ℕ) (o : Operands) where
  abbrev here : Token
  here = next_token line from

  ended_reading : (symbol : lex.Symbol) → Shows line here symbol → IsReading line [] from o (ended here.start o here.kind)
  ended_reading (reading.token shown) is =
      subst (λ k. IsReading line [] from o (ended here.start o k)) (sym is.kind) (subst (IsReading line [] from o) (sym (surplus shown))
      (stopped_here line here [] (reading.token shown) Surplus is over))
    where
      surplus : (shown : lex.Token) → ended here.start o (kind_of shown) ≡ Err (fault Surplus here.start)
      surplus (name bytes) = refl
      surplus other = refl
  ended_reading text_end is = subst (λ k. IsReading line [] from o (ended here.start o k)) (sym is) ([], here.start, at_end is)
  ended_reading stray_byte is = subst (λ k. IsReading line [] from o (ended here.start o k)) (sym is)
      (stopped_here line here [] stray_byte NoToken is stray)

  early_reading : (slot : Slot) (slots : List Slot) (kind : Kind) → here.kind ≡ kind → ends_before slot kind ≡ true
      → IsReading line (slot ∷ slots) from o (Ok o)
  early_reading Further slots End at ends = ([], here.start, early at)
  early_reading Further slots kind at ends = absurd (cc)
  early_reading slot slots kind at ends = absurd (cc)

  next_reading : (slot : Slot) (slots : List Slot) (p : Operands) (symbol : lex.Symbol) → Shows line here symbol → FilledBy here o slot p symbol
      → (r : Result Operands Fault) → IsReading line slots here.end p r → IsReading line (slot ∷ slots) from o r
  next_reading slot slots p (reading.token shown) is fills (Ok more) rest = (shown ∷ rest.0, rest.1, next is fills rest.2)
  next_reading slot slots p (reading.token shown) is fills (Err f) stop = record {
    filled_slots = slot ∷ stop.filled_slots;
    due = stop.due;
    front = shown ∷ stop.front;
    symbol = stop.symbol;
    split = ap (λ k. slot ∷ k) stop.split;
    fit = (filled_accepts fills, stop.fit);
    meets = (is, stop.meets);
    stops = stop.stops;
  }
  next_reading slot slots p text_end is fills r rest = absurd fills
  next_reading slot slots p stray_byte is fills r rest = absurd fills

  slot_reading : (slot : Slot) (slots : List Slot) → ((p : Operands) → IsReading line slots here.end p (read_slots line slots here.end p))
      → (symbol : lex.Symbol) → Shows line here symbol → (r : Result Operands Rule) → IsAnswer here o slot slots symbol r
      → IsReading line (slot ∷ slots) from o (at_place here.start r >>= λ p. read_slots line slots here.end p)
  slot_reading slot slots later symbol shows (Ok p) fills = next_reading slot slots p symbol shows fills (read_slots line slots here.end p) (later p)
  slot_reading slot slots later symbol shows (Err rule) stops = stopped_here line here (slot ∷ slots) symbol rule shows stops

pub slots_read : (line : List ℕ) (slots : List Slot) (from : ℕ) (o : Operands) → IsReading line slots from o (read_slots line slots from o)
unfolding read_slots
slots_read line [] from o = let s = next_symbol line from in ended_reading line from o s.0 s.1
slots_read line (slot ∷ slots) from o =
    let t = next_token line from in
    let s = next_symbol line from in
    cond_both (ends_before slot t.kind) _ _ (IsReading line (slot ∷ slots) from o) (early_reading line from o slot slots t.kind refl)
    (λ on. slot_reading line from o slot slots (slots_read line slots t.end) s.0 s.1 (filled_in line slot t o) (answer t o slots line slot s.0 s.1 on))

-- what fills the slots is read
pub record WillRead (line : List ℕ) (slots : List Slot) (from : ℕ) (o : Operands) (w : Values) : Type 0 where
  pub more : Operands
  pub reads : read_slots line slots from o ≡ Ok more
  pub values : values_of line more ≡ w

stops_not : {slot : Slot} {slots : List Slot} {shown : lex.Token} {rule : Rule} → Stops (slot ∷ slots) (reading.token shown) rule → ¬ Accepts slot shown
stops_not (over_further none) = none
stops_not (wrong_number value is none) = none
stops_not (wrong goes_further plain none) = none

kind_goes_on : (slot : Slot) (shown : lex.Token) → ends_before slot (kind_of shown) ≡ false
kind_goes_on Further (name bytes) = refl
kind_goes_on Further other = refl
kind_goes_on slot shown = refl

read_step : (line : List ℕ) (slot : Slot) (slots : List Slot) (from : ℕ) (o p : Operands) (shown : lex.Token) → IsShown line (next_token line from) shown
    → filled_in line slot (next_token line from) o ≡ Ok p → read_slots line (slot ∷ slots) from o ≡ read_slots line slots (next_token line from).end p
unfolding read_slots
read_step line slot slots from o p shown is e =
    let t = next_token line from in
    let on : ends_before slot t.kind ≡ false = ap (ends_before slot) is.kind ∙ kind_goes_on slot shown in
    λ i. cond (on i) (Ok o) (at_place t.start (e i) >>= λ p. read_slots line slots t.end p)

is_accepted : (line : List ℕ) (slot : Slot) (slots : List Slot) (t : Token) (o : Operands) (shown : lex.Token) → Accepts slot shown
    → (r : Result Operands Rule) → filled_in line slot t o ≡ r → IsAnswer t o slot slots (reading.token shown) r
    → (p : Operands) × (filled_in line slot t o ≡ Ok p) × Filled t o slot shown p
is_accepted line slot slots t o shown accepts (Ok p) e fills = (p, e, fills)
is_accepted line slot slots t o shown accepts (Err rule) e stops = absurd (stops_not stops accepts)

pub fills_read : (slots : List Slot) (ts : List lex.Token) (line : List ℕ) (from : ℕ) (o : Operands) (column : ℕ) (w : Values)
    → Fills slots ts (values_of line o) w → Meets line (next_token line from) ts text_end column → WillRead line slots from o w
unfolding read_slots
fills_read [] [] line from o column w done meets = record { more = o; reads = ap (ended (next_token line from).start o) meets.0; values = refl }
fills_read [] (t ∷ ts) line from o column w fills meets = absurd (fills_fit fills)
fills_read (Further ∷ slots) [] line from o column w no_further meets = record {
  more = o;
  reads = ap (λ k. cond (ends_before Further k) (Ok o)
      (at_place (next_token line from).start (filled_in line Further (next_token line from) o) >>= λ p. read_slots line slots (next_token line from).end p))
      meets.0;
  values = refl;
}
fills_read (slot ∷ slots) [] line from o column w fills meets = absurd (fills_fit fills)
fills_read (slot ∷ slots) (shown ∷ ts) line from o column w fills meets =
    let t = next_token line from in
    let answer = shown_answer t o slots line slot shown meets.0 in
    let a = is_accepted line slot slots t o shown (fills_fit fills).0 (filled_in line slot t o) refl answer in
    let rest = fills_read slots ts line t.end a.0 column w (fill_rest line meets.0 fills a.2) meets.1 in
    record { more = rest.more; reads = read_step line slot slots from o a.0 shown meets.0 a.1 ∙ rest.reads; values = rest.values }

-- ---- the label of an offset

-- an offset is the last slot
abbrev pub OffsetLast : List Slot → Type 0
OffsetLast [] = Unit {0}
OffsetLast (Value field ∷ slots) = (is_offset field ≡ true → slots ≡ []) × OffsetLast slots
OffsetLast (slot ∷ slots) = OffsetLast slots

-- the label that was read is the last token
pub record HasTarget (line : List ℕ) (slots : List Slot) (first t : Token) (v w : Values) : Type 0 where
  pub front : List lex.Token
  pub meets : Meets line first front (reading.token (name (text_of line t))) t.start
  pub fills : Fills slots (front ++ name (text_of line t) ∷ []) v w

later_target : {slot : Slot} {slots : List Slot} {shown : lex.Token} {u : Token} {o p : Operands} {w : Values} (line : List ℕ) (t : Token)
    → IsShown line u shown → Filled u o slot shown p → HasTarget line slots (next_token line u.end) t (values_of line p) w
    → HasTarget line (slot ∷ slots) u t (values_of line o) w
later_target {slots} {shown} line t is fills target = record {
  front = shown ∷ target.front;
  meets = (is, target.meets);
  fills = fill_step line slots (target.front ++ name (text_of line t) ∷ []) is fills target.fills;
}

nothing_filled : (line : List ℕ) {from column : ℕ} {o more : Operands} {ts : List lex.Token} → AreFilled line [] from o ts column more → o ≡ more
nothing_filled line (at_end end) = refl

last_target : (line : List ℕ) {slots : List Slot} {from column : ℕ} {more : Operands} {ts : List lex.Token} (u t : Token) (o : Operands) (field : Field)
    (bytes : List ℕ) → IsShown line u (name bytes) → is_offset field ≡ true → slots ≡ []
    → AreFilled line slots from (record o { label = Some u }) ts column more → more.label ≡ Some t
    → HasTarget line (Value field ∷ slots) u t (values_of line o) (values_of line more)
last_target line {slots} {from} {column} {more} {ts} u t o field bytes is offset last rest some =
    let p : Operands = record o { label = Some u } in
    let alone : p ≡ more = nothing_filled line (subst (λ k. AreFilled line k from p ts column more) last rest) in
    let label : Some u ≡ Some t = ap (λ o. o.label) alone ∙ some in
    let same : u ≡ t = cc in
    subst (λ k. HasTarget line (Value field ∷ slots) u k (values_of line o) (values_of line more)) same (record {
      front = [];
      meets = (subst (IsShown line u) (ap name (sym is.text)) is, refl);
      fills = fill_label offset (subst (λ k. Fills k [] (values_of line p) (values_of line more)) (sym last)
          (subst (λ q. Fills [] [] (values_of line p) (values_of line q)) alone done));
    })

pub target_read : (line : List ℕ) (t : Token) {slots : List Slot} {from column : ℕ} {o more : Operands} {ts : List lex.Token}
    → AreFilled line slots from o ts column more → OffsetLast slots → o.label ≡ None → more.label ≡ Some t
    → HasTarget line slots (next_token line from) t (values_of line o) (values_of line more)
target_read line t (at_end end) last none some = absurd (cc)
target_read line t (early end) last none some = absurd (cc)
target_read line t (next {from} {o} is (a_label {field} {bytes} offset) rest) last none some =
    last_target line (next_token line from) t o field bytes is offset (last.0 offset) rest some
target_read line t (next is (a_register register) rest) last none some = later_target line t is (a_register register) (target_read line t rest last none some)
target_read line t (next is (a_number has) rest) last none some = later_target line t is (a_number has) (target_read line t rest last.1 none some)
target_read line t (next is a_comma rest) last none some = later_target line t is a_comma (target_read line t rest last none some)
target_read line t (next is an_open rest) last none some = later_target line t is an_open (target_read line t rest last none some)
target_read line t (next is a_close rest) last none some = later_target line t is a_close (target_read line t rest last none some)
target_read line t (next is a_further rest) last none some = later_target line t is a_further (target_read line t rest last none some)
target_read line t (next is (a_second writes one) rest) last none some =
    later_target line t is (a_second writes one) (target_read line t rest last none some)
