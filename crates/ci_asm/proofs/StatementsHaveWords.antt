-- Each statement that was read has a word.
use Rattle.std.proofs.Common.{◌≡◌, ℕ, ◌*◌, ◌%◌, ◌^◌, ◌<◌, ◌≤◌, Bool, true, false, cond, eqb, ℤ, pos, negsuc, neg_ℤ, ◌≤ℤ◌, ◌<ℤ◌, refl, arith, lit<, lit≤}
use Rattle.std.specs.Prelude.{unsigned_abs}
use Rattle.std.proofs.lemmas.Int.{ints}
use Rattle.ci_word.specs.declared.arithmetic.Op.{Op}
use Rattle.ci_word.specs.declared.arithmetic.Op.TheVariants.{Add, Sll, Slt, Sltu, Xor, Srl, Sra, Or, And}
use Rattle.ci_isa.specs.Table.{constant_form, IsWellFormed}
use Rattle.ci_isa.proofs.WellFormed as isa
use Rattle.ci_isa.specs.FieldBounds.{IsOfWidth, ConstantFits, FieldsFit}
use Rattle.ci_asm.specs.declared.mnemonics.Mnemonic.{Mnemonic}
use Rattle.ci_asm.specs.declared.mnemonics.Mnemonic.TheVariants.{RegisterRegister, RegisterImmediate, Lui, Auipc, Jal, Jalr, Branch, Load, Store, Fence, Ecall}
use Rattle.ci_asm.specs.declared.mnemonics.Mnemonic.TheVariants.{Ebreak, Custom, Cput, Cread, Data}
use Rattle.ci_asm.specs.declared.slots.Field.TheVariants.{Immediate, UpperBits}
use Rattle.ci_asm.specs.declared.statements.Registers.{Registers}
use Rattle.ci_asm.specs.private.Shapes.{is_statement, field_of}
use Rattle.ci_asm.specs.private.Statements.{HasRegisters, result_index, insn_of}
use Rattle.ci_asm.specs.Forms.{IsIn}

-- ---- numbers in their fields

-- a signed number between two limits
between : (low high half : ℕ) (n : ℤ) → low ≤ half → high < half → neg_ℤ (pos low) ≤ℤ n → n ≤ℤ pos high → (neg_ℤ (pos half) ≤ℤ n) × (n <ℤ pos half)
between low high half (pos n) a b least most = (omega (arith, ints), omega (arith, ints))
between low high half (negsuc n) a b least most = (omega (arith, ints), omega (arith, ints))

width_12 : (n : ℤ) → IsIn Immediate n → IsOfWidth 12 n
width_12 n h = between 2048 2047 2048 n (lit≤ tt) (lit< tt) h.0 h.1

-- an amount isn't below 0
amount_between : (n : ℤ) → pos 0 ≤ℤ n → n ≤ℤ pos 31 → (pos 0 ≤ℤ n) × (n <ℤ pos 32)
amount_between (pos n) least most = (least, omega (arith, ints))
amount_between (negsuc n) least most = absurd (omega (arith, ints, least))

-- a number that is no greater than another
abs_below : (n : ℤ) (high limit : ℕ) → high < limit → pos 0 ≤ℤ n → n ≤ℤ pos high → unsigned_abs n < limit
abs_below (pos n) high limit below least most = omega (arith, ints)
abs_below (negsuc n) high limit below least most = absurd (omega (arith, ints, least))

-- ---- instructions

constant_fits : (op : Op) (n : ℤ) → is_statement (RegisterImmediate op) ≡ true → IsIn (field_of (RegisterImmediate op)) n → ConstantFits (constant_form op) n
constant_fits Add n named h = width_12 n h
constant_fits Slt n named h = width_12 n h
constant_fits Sltu n named h = width_12 n h
constant_fits Xor n named h = width_12 n h
constant_fits Or n named h = width_12 n h
constant_fits And n named h = width_12 n h
constant_fits Sll n named h = amount_between n h.0 h.1
constant_fits Srl n named h = amount_between n h.0 h.1
constant_fits Sra n named h = amount_between n h.0 h.1
constant_fits other n named h = absurd (cc)

-- the upper bits of a word
upper_whole : (n : ℤ) → IsIn UpperBits n → (4096 * unsigned_abs n < 2 ^ 32) × (4096 * unsigned_abs n % 2 ^ 12 ≡ 0)
upper_whole n h = let below = abs_below n 0xfffff (2 ^ 20) (lit< tt) h.0 h.1 in (omega arith, omega arith)

-- there are two hidden results
index_below : (n : ℕ) → result_index n < 2
index_below n = by (eqb n 1)
  where
    by : (b : Bool) → cond b 1 0 < 2
    by true = lit< tt
    by false = lit< tt

fields_fit : (m : Mnemonic) (registers : Registers) (n : ℤ) → is_statement m ≡ true → HasRegisters registers → IsIn (field_of m) n
    → FieldsFit (insn_of m registers n)
fields_fit (RegisterRegister op) registers n named r h = (r.rd, r.rs1, r.rs2)
fields_fit (RegisterImmediate op) registers n named r h = (r.rd, r.rs1, constant_fits op n named h)
fields_fit Lui registers n named r h = let u = upper_whole n h in (r.rd, u.0, u.1)
fields_fit Auipc registers n named r h = let u = upper_whole n h in (r.rd, u.0, u.1)
fields_fit Jal registers n named r h = (r.rd, between 1048576 1048574 1048576 n (lit≤ tt) (lit< tt) h.0 h.1, h.2 refl)
fields_fit Jalr registers n named r h = (r.rd, r.rs1, width_12 n h)
fields_fit (Branch c) registers n named r h = (r.rs1, r.rs2, between 4096 4094 4096 n (lit≤ tt) (lit< tt) h.0 h.1, h.2 refl)
fields_fit (Load k) registers n named r h = (r.rd, r.rs1, width_12 n h)
fields_fit (Store w) registers n named r h = (r.rs1, r.rs2, width_12 n h)
fields_fit Fence registers n named r h = (abs_below n 4095 (2 ^ 12) (lit< tt) h.0 h.1, r.rs1, r.rd)
fields_fit Ecall registers n named r h = tt
fields_fit Ebreak registers n named r h = tt
fields_fit Custom registers n named r h = (abs_below n 31 32 (lit< tt) h.0 h.1, r.rd, r.rs1, r.rs2, r.rs3)
fields_fit Cput registers n named r h = (r.rs1, r.rs2)
fields_fit Cread registers n named r h = (r.rd, index_below (unsigned_abs n))
fields_fit Data registers n named r h = abs_below n 0xffff_ffff (2 ^ 32) (lit< tt) h.0 h.1

-- each statement that was read has a word
pub well_formed : (m : Mnemonic) (registers : Registers) (n : ℤ) → is_statement m ≡ true → HasRegisters registers → IsIn (field_of m) n
    → IsWellFormed (insn_of m registers n)
well_formed m registers n named r h = isa.well_formed (insn_of m registers n) (fields_fit m registers n named r h)
