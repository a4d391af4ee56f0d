-- For private contracts: what the reader of a line computes. The public definitions of lines are in Assembly. The
-- statement of a line, or the first fault in it.
use Rattle.std.specs.Prelude.{◌≡◌, ◌<◌, ◌≤◌, IfSome, ℕ, ◌*◌, ◌==◌, Bool, true, false, if◌then◌else◌, List, [], ◌∷◌}
use Rattle.std.specs.Prelude.{Option, Some, None, Result, Ok, Err, ℤ, pos, neg_ℤ, unsigned_abs}
use Rattle.std.specs.Option.{ok_or}
use Rattle.ci_isa.specs.declared.instruction.Insn.{Insn}
use Rattle.ci_isa.specs.declared.instruction.Insn.TheVariants as insn
use Rattle.ci_asm.specs.declared.scanner.Kind.{Kind}
use Rattle.ci_asm.specs.declared.scanner.Kind.TheVariants.{Name, Numeral, Directive, Mark, End, Bad}
use Rattle.ci_asm.specs.declared.scanner.Token.{Token}
use Rattle.ci_asm.specs.declared.numbers.Number.{Number}
use Rattle.ci_asm.specs.declared.mnemonics.Mnemonic.{Mnemonic}
use Rattle.ci_asm.specs.declared.mnemonics.Mnemonic.TheVariants.{RegisterRegister, RegisterImmediate, Lui, Auipc, Jal}
use Rattle.ci_asm.specs.declared.mnemonics.Mnemonic.TheVariants.{Jalr, Branch, Load, Store, Fence, Ecall, Ebreak}
use Rattle.ci_asm.specs.declared.mnemonics.Mnemonic.TheVariants.{Custom, Cput, Cread, Data}
use Rattle.ci_asm.specs.declared.slots.Field.{Field}
use Rattle.ci_asm.specs.declared.slots.Slot.{Slot}
use Rattle.ci_asm.specs.declared.slots.RegisterPlace.{RegisterPlace}
use Rattle.ci_asm.specs.declared.slots.RegisterPlace.TheVariants.{Rd, Rs1, Rs2, Rs3}
use Rattle.ci_asm.specs.declared.slots.Slot.TheVariants.{Register, Value, Comma, Open, Close, Further, Second}
use Rattle.ci_asm.specs.declared.faults.Rule.{Rule}
use Rattle.ci_asm.specs.declared.faults.Rule.TheVariants.{NoToken, NoMnemonic, NoOperand, OutOfField, Surplus}
use Rattle.ci_asm.specs.declared.faults.Fault.{Fault}
use Rattle.ci_asm.specs.declared.statements.Registers.{Registers}
use Rattle.ci_asm.specs.declared.statements.Operands.{Operands}
use Rattle.ci_asm.specs.declared.statements.Statement.{Statement}
use Rattle.ci_asm.specs.declared.lines.Line.{Line}
use Rattle.ci_asm.specs.private.Tokens.{text_of, next_token, number_of, register_of}
use Rattle.ci_asm.specs.Forms.{is_offset}
use Rattle.ci_asm.specs.private.Shapes.{mnemonic_of, is_statement, fits, is_one, field_of, slots_of}

infixl 10 ◌>>=◌
abbrev pub ◌>>=◌ : {A B E : Type 0} → Result A E → (A → Result B E) → Result B E
(Ok x) >>= f = f x
(Err e) >>= f = Err e

-- a rule broken at a place
abbrev pub fault : Rule → ℕ → Fault
fault rule place = record { rule = rule; place = place }

abbrev pub at_place : {A : Type 0} → ℕ → Result A Rule → Result A Fault
at_place place (Ok x) = Ok x
at_place place (Err rule) = Err (fault rule place)

-- ---- one slot

abbrev pub no_registers : Registers
no_registers = record { rd = 0; rs1 = 0; rs2 = 0; rs3 = 0 }

abbrev pub no_operands : Operands
no_operands = record { registers = no_registers; number = record { negative = false; magnitude = 0 }; label = None }

-- the registers with this one in a place
abbrev pub with_register : RegisterPlace → ℕ → Registers → Registers
with_register Rd r registers = record registers { rd = r }
with_register Rs1 r registers = record registers { rs1 = r }
with_register Rs2 r registers = record registers { rs2 = r }
with_register Rs3 r registers = record registers { rs3 = r }

-- the rule that a token breaks where another is due
abbrev pub not_due : Rule → Kind → Rule
not_due rule Bad = NoToken
not_due rule kind = rule

-- a register
abbrev pub register_in : List ℕ → Kind → Result ℕ Rule
register_in text Name = ok_or (register_of text) NoOperand
register_in text kind = Err (not_due NoOperand kind)

-- a comma or a bracket
abbrev pub mark_in : ℕ → Rule → Operands → Kind → Result Operands Rule
mark_in due rule o (Mark b) = if b == due then Ok o else Err rule
mark_in due rule o kind = Err (not_due rule kind)

-- a number that passes the test
abbrev pub number_in : (Number → Bool) → Option Number → Operands → Result Operands Rule
number_in test None o = Err OutOfField
number_in test (Some n) o = if test n then Ok (record o { number = n }) else Err OutOfField

-- a number, or a label where the field is an offset
abbrev pub value_in : List ℕ → Token → Field → Operands → Kind → Result Operands Rule
value_in text t field o Numeral = number_in (fits field) (number_of text) o
value_in text t field o Name = if is_offset field then Ok (record o { label = Some t }) else Err NoOperand
value_in text t field o kind = Err (not_due NoOperand kind)

-- the number 1
abbrev pub second_in : List ℕ → Operands → Kind → Result Operands Rule
second_in text o Numeral = number_in is_one (number_of text) o
second_in text o kind = Err (not_due NoOperand kind)

-- the operands with the token of this text and kind in the slot's place
unfoldable pub filled : List ℕ → Slot → Token → Operands → Kind → Result Operands Rule
filled text (Register place) t o kind =
    register_in text kind >>= λ r. Ok (record o { registers = with_register place r o.registers })
filled text (Value field) t o kind = value_in text t field o kind
filled text Comma t o kind = mark_in 44 NoOperand o kind
filled text Open t o kind = mark_in 40 NoOperand o kind
filled text Close t o kind = mark_in 41 NoOperand o kind
filled text Further t o kind = mark_in 44 Surplus o kind
filled text Second t o kind = second_in text o kind

abbrev pub filled_in : List ℕ → Slot → Token → Operands → Result Operands Rule
filled_in line slot t o = filled (text_of line t) slot t o t.kind

-- ---- the statement

-- nothing but the line's end
abbrev pub ended : ℕ → Operands → Kind → Result Operands Fault
ended place o End = Ok o
ended place o kind = Err (fault (not_due Surplus kind) place)

-- the statement may end before the slot, and so does the line
abbrev pub ends_before : Slot → Kind → Bool
ends_before Further End = true
ends_before slot kind = false

-- the slots one after the other, from a place on, and then the line's end
unfoldable pub read_slots : List ℕ → List Slot → ℕ → Operands → Result Operands Fault
read_slots line [] from o = ended (next_token line from).start o (next_token line from).kind
read_slots line (slot ∷ slots) from o =
    if ends_before slot (next_token line from).kind then Ok o
    else (at_place (next_token line from).start (filled_in line slot (next_token line from) o) >>= λ o'.
    read_slots line slots (next_token line from).end o')

-- a mnemonic
abbrev pub mnemonic_in : List ℕ → Kind → Result Mnemonic Rule
mnemonic_in text Name = ok_or (mnemonic_of text) NoMnemonic
mnemonic_in text Directive = ok_or (mnemonic_of text) NoMnemonic
mnemonic_in text kind = Err (not_due NoMnemonic kind)

-- the statement that begins with a token. Where the program is full, no more statements may come
unfoldable pub read_statement : List ℕ → Token → Bool → Result Statement Fault
read_statement line t full =
    at_place t.start (mnemonic_in (text_of line t) t.kind) >>= λ m.
    (if full then Err (fault Surplus t.start) else read_slots line (slots_of m) t.end no_operands) >>= λ o.
    Ok (record { mnemonic = m; operands = o })

-- ---- the line

-- a name and a colon begin a label
abbrev pub is_label : Kind → Kind → Bool
is_label Name (Mark b) = b == 58
is_label first second = false

abbrev pub with_statement : List ℕ → Option Token → Token → Bool → Kind → Result Line Fault
with_statement line label t full End = Ok (record { label = label; statement = None })
with_statement line label t full kind = read_statement line t full >>= λ s. Ok
    (record { label = label; statement = Some s })

-- a label, a statement and a comment, each of which may be missing
unfoldable pub read_line : List ℕ → Bool → Result Line Fault
read_line line full =
    let first = next_token line 0 in
    let second = next_token line first.end in
    let third = next_token line second.end in
    if is_label first.kind second.kind then with_statement line (Some first) third full third.kind
    else with_statement line None first full first.kind

-- the registers are below 32
pub record HasRegisters (registers : Registers) : Type 0 where
  pub rd : registers.rd < 32
  pub rs1 : registers.rs1 < 32
  pub rs2 : registers.rs2 < 32
  pub rs3 : registers.rs3 < 32

-- what holds of each statement that was read in a line of n bytes: its number lies in its field, and its label in the
-- line
pub record IsRead (n : ℕ) (s : Statement) : Type 0 where
  pub named : is_statement s.mnemonic ≡ true
  pub in_field : fits (field_of s.mnemonic) s.operands.number ≡ true
  pub in_line : IfSome s.operands.label (λ t. t.start ≤ n)
  pub registers : HasRegisters s.operands.registers

-- the same of a line
pub record IsLineOf (n : ℕ) (l : Line) : Type 0 where
  pub label : IfSome l.label (λ t. t.start ≤ n)
  pub statement : IfSome l.statement (IsRead n)

-- ---- the instruction

abbrev pub signed_value : Number → ℤ
signed_value n = if n.negative then neg_ℤ (pos n.magnitude) else pos n.magnitude

-- which hidden result is read: the second where the number 1 says so
abbrev pub result_index : ℕ → ℕ
result_index n = if n == 1 then 1 else 0

-- the instruction of a statement with these registers and this number
abbrev pub insn_of : Mnemonic → Registers → ℤ → Insn
insn_of (RegisterRegister op) r n = insn.Alu op r.rd r.rs1 r.rs2
insn_of (RegisterImmediate op) r n = insn.AluImm op r.rd r.rs1 n
insn_of Lui r n = insn.Lui r.rd (4096 * unsigned_abs n)
insn_of Auipc r n = insn.Auipc r.rd (4096 * unsigned_abs n)
insn_of Jal r n = insn.Jal r.rd n
insn_of Jalr r n = insn.Jalr r.rd r.rs1 n
insn_of (Branch cond) r n = insn.Branch cond r.rs1 r.rs2 n
insn_of (Load kind) r n = insn.Load kind r.rd r.rs1 n
insn_of (Store width) r n = insn.Store width r.rs1 r.rs2 n
insn_of Fence r n = insn.Fence (unsigned_abs n) r.rs1 r.rd
insn_of Ecall r n = insn.Ecall
insn_of Ebreak r n = insn.Ebreak
insn_of Custom r n = insn.Unit (unsigned_abs n) r.rd r.rs1 r.rs2 r.rs3
insn_of Cput r n = insn.Cput r.rs1 r.rs2
insn_of Cread r n = insn.Cread r.rd (result_index (unsigned_abs n))
insn_of Data r n = insn.Illegal (unsigned_abs n)
