-- What holds of statements that were read.
use Rattle.std.proofs.Common.{◌-◌, eqb, length-drop, ◌≡◌, ℕ, ◌<◌, ◌≤◌, Bool, true, false, cond, ◌&&◌, lit<, List, [], ◌∷◌, length, refl, sym, subst}
use Rattle.std.proofs.Common.{arith, Option, Some, None, Result, Ok, Err}
use Rattle.std.specs.Prelude.{IfSome, IfOk, ⊤, find}
use Rattle.std.specs.List.{list_all}
use Rattle.ci_asm.specs.declared.scanner.Kind.{Kind}
use Rattle.ci_asm.specs.declared.scanner.Kind.TheVariants.{Name, Directive, End}
use Rattle.ci_asm.specs.declared.scanner.Token.{Token}
use Rattle.ci_asm.specs.declared.scanner.ByteClass.TheVariants.{Blank}
use Rattle.ci_asm.specs.declared.mnemonics.Mnemonic.{Mnemonic}
use Rattle.ci_asm.specs.declared.mnemonics.Mnemonic.TheVariants.{RegisterRegister, Ecall, Ebreak, Cput}
use Rattle.ci_asm.specs.declared.slots.Field.{Field}
use Rattle.ci_asm.specs.declared.slots.Field.TheVariants.{Immediate}
use Rattle.ci_asm.specs.declared.slots.RegisterPlace.{RegisterPlace}
use Rattle.ci_asm.specs.declared.slots.RegisterPlace.TheVariants.{Rd, Rs1, Rs2, Rs3}
use Rattle.ci_asm.specs.declared.slots.Slot.{Slot}
use Rattle.ci_asm.specs.declared.slots.Slot.TheVariants.{Value, Second}
use Rattle.ci_asm.specs.declared.faults.Rule.TheVariants.{NoMnemonic, Surplus}
use Rattle.ci_asm.specs.declared.faults.Fault.{Fault}
use Rattle.ci_asm.specs.declared.statements.Registers.{Registers}
use Rattle.ci_asm.specs.declared.statements.Operands.{Operands}
use Rattle.ci_asm.specs.declared.statements.Statement.{Statement}
use Rattle.ci_asm.specs.declared.lines.Line.{Line}
use Rattle.ci_asm.specs.Lexicon as lex
use Rattle.ci_asm.specs.private.Tokens.{token, run_end, scan, token_by, token_at, next_token, text_of}
use Rattle.ci_asm.specs.private.Shapes.{mnemonics, mnemonic_of, is_named, is_statement, fits, field_of, slots_of}
use Rattle.ci_asm.specs.private.Statements.{◌>>=◌, fault, at_place, no_registers, no_operands, with_register, read_slots, mnemonic_in, read_statement}
use Rattle.ci_asm.specs.private.Statements.{with_statement, HasRegisters, IsRead, IsLineOf}
use Rattle.ci_asm.proofs.TestLaws.{bind_ok, same_ok, at_place_ok, found_ok, unless_ok}
use Rattle.ci_asm.proofs.ReadOperands.{one_number, one_same, signed_one, in_fits}
use Rattle.ci_asm.proofs.FilledSlots.{a_register, a_number, a_label, a_comma, an_open, a_close, a_further, a_second, AreFilled, at_end, early, next}
use Rattle.ci_asm.proofs.FilledSlots.{IsReading, slots_read}

-- ---- tokens stand in the line

token_by-start : (i n : ℕ) (o : Option (lex.Token × ℕ)) → i ≤ n → (token_by i o).start ≤ n
token_by-start i n None h = h
token_by-start i n (Some (t, size)) h = h

token_at-start : (n i : ℕ) (text : List ℕ) → length text ≡ n - i → (token_at n i text).start ≤ n
unfolding token_at
token_at-start n i [] size = omega arith
token_at-start n i (c ∷ text) size = by (eqb c 35)
  where
    by : (b : Bool) → (cond b (token End n n) (token_by i (scan c text))).start ≤ n
    by true = omega arith
    by false = token_by-start i n (scan c text) (omega arith)

pub next_token-start : (line : List ℕ) (from : ℕ) → (next_token line from).start ≤ length line
next_token-start line from = token_at-start (length line) (run_end Blank line from) _ (length-drop (run_end Blank line from) line)

-- ---- operands

-- the slots have no number of another field
abbrev pub AreFor : Field → List Slot → Type 0
AreFor field [] = ⊤
AreFor field (Value other ∷ slots) = (other ≡ field) × AreFor field slots
AreFor field (Second ∷ slots) = (fits field one_number ≡ true) × AreFor field slots
AreFor field (slot ∷ slots) = AreFor field slots

slots_of-for : (m : Mnemonic) → AreFor (field_of m) (slots_of m)
slots_of-for (RegisterRegister op) = tt
slots_of-for Ecall = tt
slots_of-for Ebreak = tt
slots_of-for Cput = tt
slots_of-for other = (refl, tt)

-- the operands' number lies in the field, their label in a line of n bytes, and their registers are below 32
abbrev AreSound : Field → ℕ → Operands → Type 0
AreSound field n o = (fits field o.number ≡ true) × IfSome o.label (λ t. t.start ≤ n) × HasRegisters o.registers

with_register-below : (place : RegisterPlace) (r : ℕ) (registers : Registers) → r < 32 → HasRegisters registers → HasRegisters (with_register place r registers)
with_register-below Rd r registers below h = record { rd = below; rs1 = h.rs1; rs2 = h.rs2; rs3 = h.rs3 }
with_register-below Rs1 r registers below h = record { rd = h.rd; rs1 = below; rs2 = h.rs2; rs3 = h.rs3 }
with_register-below Rs2 r registers below h = record { rd = h.rd; rs1 = h.rs1; rs2 = below; rs3 = h.rs3 }
with_register-below Rs3 r registers below h = record { rd = h.rd; rs1 = h.rs1; rs2 = h.rs2; rs3 = below }

slots_sound : (field : Field) (line : List ℕ) {slots : List Slot} {from column : ℕ} {o more : Operands} {ts : List lex.Token}
    → AreFilled line slots from o ts column more → AreFor field slots → AreSound field (length line) o → AreSound field (length line) more
slots_sound field line (at_end end) for sound = sound
slots_sound field line (early end) for sound = sound
slots_sound field line (next {o} is (a_register {place} {r} register) rest) for sound =
    slots_sound field line rest for (sound.0, sound.1, with_register-below place r o.registers register.1 sound.2)
slots_sound field line (next is (a_number {field = other} {n} has) rest) for sound =
    slots_sound field line rest for.1 (subst (λ f. fits f n ≡ true) for.0 (in_fits other n has.1), sound.1, sound.2)
slots_sound field line (next {from} is (a_label offset) rest) for sound =
    slots_sound field line rest for.1 (sound.0, next_token-start line from, sound.2)
slots_sound field line (next is a_comma rest) for sound = slots_sound field line rest for sound
slots_sound field line (next is an_open rest) for sound = slots_sound field line rest for sound
slots_sound field line (next is a_close rest) for sound = slots_sound field line rest for sound
slots_sound field line (next is a_further rest) for sound = slots_sound field line rest for sound
slots_sound field line (next is (a_second {n} writes one) rest) for sound =
    slots_sound field line rest for.1 (subst (λ k. fits field k ≡ true) (sym (one_same n (signed_one n one))) for.0, sound.1, sound.2)

zero_fits : (field : Field) → fits field no_operands.number ≡ true
zero_fits Immediate = refl
zero_fits other = refl

-- ---- mnemonics

passes_by : (a b : Bool) (p q : Mnemonic → Bool) (x m : Mnemonic) (xs : List Mnemonic) → (find p xs ≡ Some m → list_all q xs ≡ true → q m ≡ true)
    → cond a (Some x) (find p xs) ≡ Some m → (b && list_all q xs) ≡ true → q x ≡ b → q m ≡ true
passes_by true true p q x m xs others e all at = let same : x ≡ m = cc in subst (λ y. q y ≡ true) same at
passes_by true false p q x m xs others e all at = absurd (cc)
passes_by false true p q x m xs others e all at = others e all
passes_by false false p q x m xs others e all at = absurd (cc)

found_passes : (p q : Mnemonic → Bool) (ms : List Mnemonic) (m : Mnemonic) → find p ms ≡ Some m → list_all q ms ≡ true → q m ≡ true
found_passes p q [] m e all = absurd (cc)
found_passes p q (x ∷ xs) m e all = passes_by (p x) (q x) p q x m xs (found_passes p q xs m) e all refl

mnemonic_of-statement : (text : List ℕ) (m : Mnemonic) → mnemonic_of text ≡ Some m → is_statement m ≡ true
unfolding mnemonic_of
mnemonic_of-statement text m e = found_passes (is_named text) is_statement mnemonics m e refl

pub mnemonic_in-statement : (text : List ℕ) (kind : Kind) (m : Mnemonic) → mnemonic_in text kind ≡ Ok m → is_statement m ≡ true
mnemonic_in-statement text Name m e = mnemonic_of-statement text m (found_ok (mnemonic_of text) NoMnemonic m e)
mnemonic_in-statement text Directive m e = mnemonic_of-statement text m (found_ok (mnemonic_of text) NoMnemonic m e)
mnemonic_in-statement text other m e = absurd (cc)

-- ---- statements and lines

read_statement-read : (line : List ℕ) (t : Token) (full : Bool) (s : Statement) → read_statement line t full ≡ Ok s → IsRead (length line) s
unfolding read_statement
read_statement-read line t full s e =
    let text = text_of line t in
    let b = bind_ok (at_place t.start (mnemonic_in text t.kind)) _ s e in
    let m = b.0 in
    let c = bind_ok (cond full (Err (fault Surplus t.start)) (read_slots line (slots_of m) t.end no_operands)) _ s b.2 in
    let read = (unless_ok full (fault Surplus t.start) (read_slots line (slots_of m) t.end no_operands) c.0 c.1).1 in
    let filled = subst (IsReading line (slots_of m) t.end no_operands) read (slots_read line (slots_of m) t.end no_operands) in
    let none : HasRegisters no_registers = record { rd = lit< tt; rs1 = lit< tt; rs2 = lit< tt; rs3 = lit< tt } in
    let sound = slots_sound (field_of m) line filled.2 (slots_of-for m) (zero_fits (field_of m), tt, none) in
    subst (IsRead (length line)) (same_ok _ s c.2) (record {
      named = mnemonic_in-statement text t.kind m (at_place_ok t.start (mnemonic_in text t.kind) m b.1);
      in_field = sound.0;
      in_line = sound.1;
      registers = sound.2;
    })

some_statement : (line : List ℕ) (label : Option Token) (t : Token) (full : Bool) (l : Line) → IfSome label (λ t. t.start ≤ length line)
    → (read_statement line t full >>= λ s. Ok (record { label = label; statement = Some s })) ≡ Ok l → IsLineOf (length line) l
some_statement line label t full l near e =
    let b = bind_ok (read_statement line t full) _ l e in
    subst (IsLineOf (length line)) (same_ok _ l b.2) (record { label = near; statement = read_statement-read line t full b.0 b.1 })

with_statement-line : (line : List ℕ) (label : Option Token) (t : Token) (full : Bool) (kind : Kind) (l : Line) → IfSome label (λ t. t.start ≤ length line)
    → with_statement line label t full kind ≡ Ok l → IsLineOf (length line) l
with_statement-line line label t full End l near e = subst (IsLineOf (length line)) (same_ok _ l e) (record { label = near; statement = tt })
with_statement-line line label t full other l near e = some_statement line label t full l near e

-- what is read in a line stands in it, with its number in its field
pub line_by_statement : (line : List ℕ) (label : Option Token) (t : Token) (full : Bool) (kind : Kind) (r : Result Line Fault)
    → IfSome label (λ t. t.start ≤ length line) → r ≡ with_statement line label t full kind → IfOk r (IsLineOf (length line))
line_by_statement line label t full kind (Ok l) near e = with_statement-line line label t full kind l near (sym e)
line_by_statement line label t full kind (Err f) near e = tt
