-- The statements that the code reads are those of the definitions.
use Rattle.std.proofs.Common.{◌≡◌, ℕ, true, List, [], ◌∷◌, refl, sym, ap, subst, arith, Option, Some, None, ℤ, pos, negsuc, neg_ℤ, ◌≤ℤ◌}
use Rattle.std.specs.Prelude.{unsigned_abs, is_some}
use Rattle.std.proofs.lemmas.Int.{ints}
use Rattle.ci_word.specs.declared.arithmetic.Op.{Op}
use Rattle.ci_word.specs.declared.arithmetic.Op.TheVariants as ops
use Rattle.ci_isa.specs.declared.instruction.Insn.TheVariants as insn
use Rattle.ci_asm.specs.declared.mnemonics.Mnemonic.{Mnemonic}
use Rattle.ci_asm.specs.declared.mnemonics.Mnemonic.TheVariants.{RegisterRegister, RegisterImmediate, Lui, Auipc, Jal, Jalr, Branch, Load, Store, Fence, Ecall}
use Rattle.ci_asm.specs.declared.mnemonics.Mnemonic.TheVariants.{Ebreak, Custom, Cput, Cread, Data}
use Rattle.ci_asm.specs.declared.slots.Field.{Field}
use Rattle.ci_asm.specs.declared.slots.Field.TheVariants.{UpperBits, FenceBits, UnitNumber, WholeWord}
use Rattle.ci_asm.specs.declared.statements.Registers.{Registers}
use Rattle.ci_asm.specs.private.Shapes.{name_of, is_statement, form_name, form_field, immediate_name, immediate_field, field_of, slots_of}
use Rattle.ci_asm.specs.private.Statements.{insn_of}
use Rattle.ci_asm.specs.Lexicon as lex
use Rattle.ci_asm.specs.Lexicon.{name, word, comma}
use Rattle.ci_asm.specs.Forms.{most_below, is_offset, register_immediate, IsRegister, HasNumber, Statement, plain, to_label, IsStatement}
use Rattle.ci_asm.specs.Forms.{on_registers, on_immediate, lui, auipc, jump, jump_label, jump_register, branch, branch_label, load, store, fence, ecall, ebreak, custom, cput, cread}
use Rattle.ci_asm.specs.Forms.{cread_second, data_word}
use Rattle.ci_asm.proofs.FilledSlots.{Values, no_values, OffsetLast, Fills, done, fill_register, fill_number, fill_label, fill_comma, fill_open, fill_close}
use Rattle.ci_asm.proofs.FilledSlots.{fill_further, no_further, fill_second}

-- ---- what a statement says

-- the statement with this mnemonic, these registers, and this number or label
abbrev said : Mnemonic → Registers → ℤ → Option (List ℕ) → Statement
said m registers n None = plain (insn_of m registers n)
said m registers n (Some label) = to_label (field_of m) (insn_of m registers) label

abbrev pub says : Mnemonic → Values → Statement
says m v = said m v.registers v.number v.label

-- the token of a mnemonic
abbrev pub mnemonic_token : Mnemonic → lex.Token
mnemonic_token Data = word
mnemonic_token m = name (name_of m)

natural_number : (n : ℤ) → pos 0 ≤ℤ n → n ≡ pos (unsigned_abs n)
natural_number (pos n) h = refl
natural_number (negsuc n) h = absurd (omega (arith, ints, h))

-- a field of numbers that are not below 0
natural : (field : Field) (t : lex.Token) (n : ℤ) → most_below field ≡ 0 → HasNumber field t n → HasNumber field t (pos (unsigned_abs n))
natural field t n none has = subst (HasNumber field t) (natural_number n (subst (λ k. neg_ℤ (pos k) ≤ℤ n) none has.1.0)) has

-- the register-immediate form of an operation that has one
form_of : (o : Option (List ℕ × Field)) → is_some o ≡ true → o ≡ Some (form_name o, form_field o)
form_of (Some form) e = refl
form_of None e = absurd (cc)

no_label : (op : Op) → is_offset (immediate_field op) ≡ true → ⊥
no_label ops.Add e = cc
no_label other e = cc

-- tokens that fill the slots are a statement
pub fills_statement : (m : Mnemonic) {ts : List lex.Token} {w : Values} → is_statement m ≡ true → Fills (slots_of m) ts no_values w
    → IsStatement (mnemonic_token m ∷ ts) (says m w)
fills_statement (RegisterRegister op) st (fill_register a (fill_comma (fill_register b (fill_comma (fill_register c done))))) = on_registers a b c
fills_statement (RegisterImmediate op) st (fill_register a (fill_comma (fill_register b (fill_comma (fill_number n done))))) =
    on_immediate (form_of (register_immediate op) st) a b n
fills_statement (RegisterImmediate op) st (fill_register a (fill_comma (fill_register b (fill_comma (fill_label offset done))))) = absurd (no_label op offset)
fills_statement Lui st (fill_register a (fill_comma (fill_number {n} h done))) = lui a (natural UpperBits _ n refl h)
fills_statement Lui st (fill_register a (fill_comma (fill_label offset done))) = absurd (cc)
fills_statement Auipc st (fill_register a (fill_comma (fill_number {n} h done))) = auipc a (natural UpperBits _ n refl h)
fills_statement Auipc st (fill_register a (fill_comma (fill_label offset done))) = absurd (cc)
fills_statement Jal st (fill_register a (fill_comma (fill_number h done))) = jump a h
fills_statement Jal st (fill_register a (fill_comma (fill_label offset done))) = jump_label a
fills_statement Jalr st (fill_register a (fill_comma (fill_number h (fill_open (fill_register b (fill_close done)))))) = jump_register a h b
fills_statement Jalr st (fill_register a (fill_comma (fill_label offset (fill_open (fill_register b (fill_close done)))))) = absurd (cc)
fills_statement (Branch cond) st (fill_register a (fill_comma (fill_register b (fill_comma (fill_number h done))))) = branch a b h
fills_statement (Branch cond) st (fill_register a (fill_comma (fill_register b (fill_comma (fill_label offset done))))) = branch_label a b
fills_statement (Load kind) st (fill_register a (fill_comma (fill_number h (fill_open (fill_register b (fill_close done)))))) = load a h b
fills_statement (Load kind) st (fill_register a (fill_comma (fill_label offset (fill_open (fill_register b (fill_close done)))))) = absurd (cc)
fills_statement (Store width) st (fill_register b (fill_comma (fill_number h (fill_open (fill_register a (fill_close done)))))) = store b h a
fills_statement (Store width) st (fill_register b (fill_comma (fill_label offset (fill_open (fill_register a (fill_close done)))))) = absurd (cc)
fills_statement Fence st (fill_number {n} h (fill_comma (fill_register a (fill_comma (fill_register d done))))) =
    fence (natural FenceBits _ n refl h) a d
fills_statement Fence st (fill_label offset (fill_comma (fill_register a (fill_comma (fill_register d done))))) = absurd (cc)
fills_statement Ecall st done = ecall
fills_statement Ebreak st done = ebreak
fills_statement Custom st
    (fill_number {n} h (fill_comma (fill_register d (fill_comma (fill_register a (fill_comma (fill_register b (fill_comma (fill_register c done))))))))) =
    custom (natural UnitNumber _ n refl h) d a b c
fills_statement Custom st
    (fill_label offset (fill_comma (fill_register d (fill_comma (fill_register a (fill_comma (fill_register b (fill_comma (fill_register c done))))))))) =
    absurd (cc)
fills_statement Cput st (fill_register a (fill_comma (fill_register b done))) = cput a b
fills_statement Cread st (fill_register a no_further) = cread a
fills_statement Cread st (fill_register a (fill_further (fill_second h done))) = cread_second a h
fills_statement Data st (fill_number {n} h done) = data_word (natural WholeWord _ n refl h)
fills_statement Data st (fill_label offset done) = absurd (cc)

-- and back
pub record HasSlots (ts : List lex.Token) (statement : Statement) : Type 0 where
  pub mnemonic : Mnemonic
  pub others : List lex.Token
  pub values : Values
  pub named : is_statement mnemonic ≡ true
  pub tokens : ts ≡ mnemonic_token mnemonic ∷ others
  pub fills : Fills (slots_of mnemonic) others no_values values
  pub meaning : says mnemonic values ≡ statement

slots_from : (m : Mnemonic) {ts : List lex.Token} {w : Values} → is_statement m ≡ true → Fills (slots_of m) ts no_values w
    → HasSlots (mnemonic_token m ∷ ts) (says m w)
slots_from m {ts} {w} named fills = record { mnemonic = m; others = ts; values = w; named = named; tokens = refl; fills = fills; meaning = refl }

-- of a register-immediate form
immediate_slots : (op : Op) (x y z : lex.Token) (d a : ℕ) (n : ℤ) (mnemonic : List ℕ) (field : Field) → register_immediate op ≡ Some (mnemonic, field)
    → IsRegister x d → IsRegister y a → HasNumber field z n → HasSlots (name mnemonic ∷ x ∷ comma ∷ y ∷ comma ∷ z ∷ []) (plain (insn.AluImm op d a n))
immediate_slots op x y z d a n mnemonic field e rd rs1 number =
    let named : is_statement (RegisterImmediate op) ≡ true = ap is_some e in
    let text : immediate_name op ≡ mnemonic = ap form_name e in
    let fits : HasNumber (immediate_field op) z n = subst (λ f. HasNumber f z n) (sym (ap form_field e)) number in
    subst (λ t. HasSlots (name t ∷ x ∷ comma ∷ y ∷ comma ∷ z ∷ []) (plain (insn.AluImm op d a n))) text
    (slots_from (RegisterImmediate op) named (fill_register rd (fill_comma (fill_register rs1 (fill_comma (fill_number fits done))))))

pub statement_slots : {ts : List lex.Token} {statement : Statement} → IsStatement ts statement → HasSlots ts statement
statement_slots (on_registers {op} a b c) =
    slots_from (RegisterRegister op) refl (fill_register a (fill_comma (fill_register b (fill_comma (fill_register c done)))))
statement_slots (on_immediate {op} {x} {y} {z} {d} {a} {n} {mnemonic} {field} e rd rs1 number) = immediate_slots op x y z d a n mnemonic field e rd rs1 number
statement_slots (lui a h) = slots_from Lui refl (fill_register a (fill_comma (fill_number h done)))
statement_slots (auipc a h) = slots_from Auipc refl (fill_register a (fill_comma (fill_number h done)))
statement_slots (jump a h) = slots_from Jal refl (fill_register a (fill_comma (fill_number h done)))
statement_slots (jump_label a) = slots_from Jal refl (fill_register a (fill_comma (fill_label refl done)))
statement_slots (jump_register a h b) = slots_from Jalr refl (fill_register a (fill_comma (fill_number h (fill_open (fill_register b (fill_close done))))))
statement_slots (branch {cond} a b h) = slots_from (Branch cond) refl (fill_register a (fill_comma (fill_register b (fill_comma (fill_number h done)))))
statement_slots (branch_label {cond} a b) = slots_from (Branch cond) refl (fill_register a (fill_comma (fill_register b (fill_comma (fill_label refl done)))))
statement_slots (load {kind} a h b) = slots_from (Load kind) refl (fill_register a (fill_comma (fill_number h (fill_open (fill_register b (fill_close done))))))
statement_slots (store {width} b h a) =
    slots_from (Store width) refl (fill_register b (fill_comma (fill_number h (fill_open (fill_register a (fill_close done))))))
statement_slots (fence h a d) = slots_from Fence refl (fill_number h (fill_comma (fill_register a (fill_comma (fill_register d done)))))
statement_slots ecall = slots_from Ecall refl done
statement_slots ebreak = slots_from Ebreak refl done
statement_slots (custom h d a b c) =
    slots_from Custom refl
    (fill_number h (fill_comma (fill_register d (fill_comma (fill_register a (fill_comma (fill_register b (fill_comma (fill_register c done)))))))))
statement_slots (cput a b) = slots_from Cput refl (fill_register a (fill_comma (fill_register b done)))
statement_slots (cread a) = slots_from Cread refl (fill_register a no_further)
statement_slots (cread_second a h) = slots_from Cread refl (fill_register a (fill_further (fill_second h done)))
statement_slots (data_word h) = slots_from Data refl (fill_number h done)

-- the label of a branch or of JAL is its last operand
pub offset_last : (m : Mnemonic) → OffsetLast (slots_of m)
offset_last (RegisterRegister op) = tt
offset_last Jalr = (λ e. absurd (cc), tt)
offset_last (Load kind) = (λ e. absurd (cc), tt)
offset_last (Store width) = (λ e. absurd (cc), tt)
offset_last Fence = (λ e. absurd (cc), tt)
offset_last Ecall = tt
offset_last Ebreak = tt
offset_last Custom = (λ e. absurd (cc), tt)
offset_last Cput = tt
offset_last Cread = tt
offset_last other = (λ e. refl, tt)
