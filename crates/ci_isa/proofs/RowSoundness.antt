-- What a row answers is what the word reads as.
use Rattle.std.proofs.Common.{◌≡◌, ℕ, ◌<◌, ◌^◌, Bool, ◌||◌, List, [], ◌∷◌, Option, Some, None, pos, refl, sym, arith}
use Rattle.std.specs.Prelude.{⊤, if◌then◌else◌, ◌==◌, nat_lt, IfSome, option_map, find}
use Rattle.std.specs.List.{AllByRecursion}
use Rattle.std.proofs.lemmas.Bool.{cond_both, eqb-true, ltb-true}
use Rattle.std.proofs.lemmas.Option.{IfSome_then}
use Rattle.ci_word.specs.declared.arithmetic.Op.{Op}
use Rattle.ci_word.specs.declared.arithmetic.Op.TheVariants.{Add, Sub, Sll, Slt, Sltu, Xor, Srl, Sra, Or, And, Mul, Mulh, Mulhsu, Mulhu, Div, Divu, Rem, Remu}
use Rattle.ci_isa.specs.declared.instruction.Cond.TheVariants.{Eq, Ne, Lt, Ge, Ltu, Geu}
use Rattle.ci_isa.specs.declared.instruction.LoadKind.TheVariants.{B, H, W, Bu, Hu}
use Rattle.ci_isa.specs.declared.instruction.Width.TheVariants.{Byte, Half, Word}
use Rattle.ci_isa.specs.declared.instruction.Insn.{Insn}
use Rattle.ci_isa.specs.declared.instruction.Insn.TheVariants.{Alu, AluImm, Lui, Auipc, Jal, Jalr, Branch, Load, Store}
use Rattle.ci_isa.specs.declared.instruction.Insn.TheVariants.{Fence, Ecall, Ebreak, Unit, Cread, Cput, Illegal}
use Rattle.ci_isa.specs.Fields.{field, opcode, rd_field, funct3, rs1_field, rs2_field, funct7, immediate_format}
use Rattle.ci_isa.specs.Fields.{store_format, branch_format, upper_format, jump_format, immediate, signed_immediate}
use Rattle.ci_isa.specs.Table.{operation_codes, condition_code, load_code, store_code, constant_form, HoldsConstant, HasFieldsOf, HasFieldsOfX, Reads, ReadsX}
use Rattle.ci_isa.specs.private.Decoding.{condition_at, load_at, width_at, operation_among, base_at, other_at, product_at}
use Rattle.ci_isa.specs.private.Decoding.{immediate_at, operation_at, shift_at, jump_row, branch_row, load_row, store_row}
use Rattle.ci_isa.specs.private.Decoding.{immediate_row, shift_row, constant_row, operation_row, fence_row, environment_row}
use Rattle.ci_isa.specs.private.Decoding.{unit_row, cread_row, cput_row, hidden_row, plain_row, extended_row}

-- ---- choices

-- what has a code is found by it
by_code : {X : Type 0} (code : X → ℕ) (P : X → Type 0) (n : ℕ) (xs : List X) → AllByRecursion P xs
    → IfSome (find (λ x. code x == n) xs) (λ x. (n ≡ code x) × P x)
by_code code P n [] all = tt
by_code code P n (x ∷ xs) all =
    cond_both (code x == n) (Some x) (find (λ x. code x == n) xs) (λ o. IfSome o (λ x. (n ≡ code x) × P x))
    (λ e. (sym (eqb-true _ _ e), all.0)) (λ _. by_code code P n xs all.1)

-- what holds of each value of one answer holds of each of the other
mapped : {X Y : Type 0} (f : X → Y) (o : Option X) (P : X → Type 0) (Q : Y → Type 0) → IfSome o P → ((x : X) → P x → Q (f x)) → IfSome (option_map f o) Q
mapped f None P Q held gives = tt
mapped f (Some x) P Q held gives = gives x held

-- an answer that a test chooses
chosen : (b : Bool) (x y : Option Insn) (P : Insn → Type 0) → IfSome x P → IfSome y P → IfSome (if b then x else y) P
chosen b x y P hit miss = cond_both b x y (λ o. IfSome o P) (λ _. hit) (λ _. miss)

-- an answer that a number's test chooses
tested : {X : Type 0} (n m : ℕ) (x y : Option X) (P : X → Type 0) → (n ≡ m → IfSome x P) → IfSome y P → IfSome (if n == m then x else y) P
tested n m x y P hit miss = cond_both (n == m) x y (λ o. IfSome o P) (λ e. hit (eqb-true _ _ e)) (λ _. miss)

-- ---- the rows of the plain table

jump_found : (w : ℕ) → opcode w ≡ 0x67 → IfSome (jump_row w) (HasFieldsOf w)
unfolding jump_row
jump_found w e = tested (funct3 w) 0 (Some (Jalr (rd_field w) (rs1_field w) (signed_immediate immediate_format w)))
    None (HasFieldsOf w) (λ h. (e, h, refl, refl, refl)) tt

branch_found : (w : ℕ) → opcode w ≡ 0x63 → IfSome (branch_row w) (HasFieldsOf w)
unfolding branch_row
branch_found w e =
    mapped (λ cond. Branch cond (rs1_field w) (rs2_field w) (signed_immediate branch_format w))
    (condition_at (funct3 w)) (λ cond. (funct3 w ≡ condition_code cond) × ⊤) (HasFieldsOf w)
    (by_code condition_code (λ _. ⊤) (funct3 w) (Eq ∷ Ne ∷ Lt ∷ Ge ∷ Ltu ∷ Geu ∷ []) (tt, (tt, (tt, (tt, (tt, (tt, tt)))))))
    (λ cond h. (e, h.0, refl, refl, refl))

load_found : (w : ℕ) → opcode w ≡ 0x03 → IfSome (load_row w) (HasFieldsOf w)
unfolding load_row
load_found w e =
    mapped (λ kind. Load kind (rd_field w) (rs1_field w) (signed_immediate immediate_format w)) (load_at (funct3 w))
    (λ kind. (funct3 w ≡ load_code kind) × ⊤) (HasFieldsOf w)
    (by_code load_code (λ _. ⊤) (funct3 w) (B ∷ H ∷ W ∷ Bu ∷ Hu ∷ []) (tt, (tt, (tt, (tt, (tt, tt))))))
    (λ kind h. (e, h.0, refl, refl, refl))

store_found : (w : ℕ) → opcode w ≡ 0x23 → IfSome (store_row w) (HasFieldsOf w)
unfolding store_row
store_found w e =
    mapped (λ width. Store width (rs1_field w) (rs2_field w) (signed_immediate store_format w))
    (width_at (funct3 w)) (λ width. (funct3 w ≡ store_code width) × ⊤) (HasFieldsOf w)
    (by_code store_code (λ _. ⊤) (funct3 w) (Byte ∷ Half ∷ Word ∷ []) (tt, (tt, (tt, tt))))
    (λ width h. (e, h.0, refl, refl, refl))

-- an operation among some that have a fact, found by its funct3
among : (P : Op → Type 0) (operations : List Op) (n : ℕ) → AllByRecursion P operations
    → IfSome (operation_among operations n) (λ op. (n ≡ (operation_codes op).0) × P op)
among P operations n all = by_code (λ op. (operation_codes op).0) P n operations all

immediate_found : (w : ℕ) → opcode w ≡ 0x13 → IfSome (immediate_row w) (HasFieldsOf w)
unfolding immediate_row
immediate_found w e =
    let P = λ (op : Op). HoldsConstant w (constant_form op) (operation_codes op).1 (signed_immediate immediate_format w) in
    mapped (λ op. AluImm op (rd_field w) (rs1_field w) (signed_immediate immediate_format w))
    (immediate_at (funct3 w)) (λ op. (funct3 w ≡ (operation_codes op).0) × P op) (HasFieldsOf w)
    (among P (Add ∷ Slt ∷ Sltu ∷ Xor ∷ Or ∷ And ∷ []) (funct3 w) (refl, (refl, (refl, (refl, (refl, (refl, tt)))))))
    (λ op h. (e, h.0, refl, refl, h.1))

shift_found : (w : ℕ) → opcode w ≡ 0x13 → IfSome (shift_row w) (HasFieldsOf w)
unfolding shift_row
shift_found w e =
    let P = λ (op : Op). HoldsConstant w (constant_form op) (operation_codes op).1 (pos (rs2_field w)) in
    let Q = λ (op : Op). (funct3 w ≡ (operation_codes op).0) × P op in
    mapped (λ op. AluImm op (rd_field w) (rs1_field w) (pos (rs2_field w))) (shift_at (funct3 w) (funct7 w)) Q (HasFieldsOf w)
    (tested (funct7 w) 0x00 (operation_among (Sll ∷ Srl ∷ []) (funct3 w)) _ Q (λ h. among P (Sll ∷ Srl ∷ []) (funct3 w) ((h, refl), ((h, refl), tt)))
    (tested (funct7 w) 0x20 (operation_among (Sra ∷ []) (funct3 w)) None Q (λ h. among P (Sra ∷ []) (funct3 w) ((h, refl), tt)) tt))
    (λ op h. (e, h.0, refl, refl, h.1))

constant_found : (w : ℕ) → opcode w ≡ 0x13 → IfSome (constant_row w) (HasFieldsOf w)
unfolding constant_row
constant_found w e = chosen (funct3 w == 1 || funct3 w == 5) (shift_row w) (immediate_row w) (HasFieldsOf w) (shift_found w e) (immediate_found w e)

operation_found : (w : ℕ) → opcode w ≡ 0x33 → IfSome (operation_row w) (HasFieldsOf w)
unfolding operation_row
operation_found w e =
    let P = λ (op : Op). funct7 w ≡ (operation_codes op).1 in
    let Q = λ (op : Op). (funct3 w ≡ (operation_codes op).0) × P op in
    mapped (λ op. Alu op (rd_field w) (rs1_field w) (rs2_field w)) (operation_at (funct3 w) (funct7 w)) Q (HasFieldsOf w)
    (tested (funct7 w) 0x00 (base_at (funct3 w)) _ Q
    (λ h. among P (Add ∷ Sll ∷ Slt ∷ Sltu ∷ Xor ∷ Srl ∷ Or ∷ And ∷ []) (funct3 w)
    (h, (h, (h, (h, (h, (h, (h, (h, tt)))))))))
    (tested (funct7 w) 0x20 (other_at (funct3 w)) _ Q (λ h. among P (Sub ∷ Sra ∷ []) (funct3 w) (h, (h, tt)))
    (tested (funct7 w) 0x01 (product_at (funct3 w)) None Q
    (λ h. among P (Mul ∷ Mulh ∷ Mulhsu ∷ Mulhu ∷ Div ∷ Divu ∷ Rem ∷ Remu ∷ []) (funct3 w)
    (h, (h, (h, (h, (h, (h, (h, (h, tt))))))))) tt)))
    (λ op h. (e, h.0, h.1, refl, refl, refl))

fence_found : (w : ℕ) → opcode w ≡ 0x0f → IfSome (fence_row w) (HasFieldsOf w)
unfolding fence_row
fence_found w e = tested (funct3 w) 0 (Some (Fence (field w 31 20) (rs1_field w) (rd_field w))) None (HasFieldsOf w) (λ h. (e, h, refl, refl, refl)) tt

environment_found : (w : ℕ) → IfSome (environment_row w) (HasFieldsOf w)
unfolding environment_row
environment_found w = tested w 0x0000_0073 (Some Ecall) _ (HasFieldsOf w) (λ h. h) (tested w 0x0010_0073 (Some Ebreak) None (HasFieldsOf w) (λ h. h) tt)

plain_found : (w : ℕ) → IfSome (plain_row w) (HasFieldsOf w)
unfolding plain_row
plain_found w =
    tested (opcode w) 0x37 (Some (Lui (rd_field w) (immediate upper_format w))) _ (HasFieldsOf w) (λ e. (e, refl, refl))
    (tested (opcode w) 0x17 (Some (Auipc (rd_field w) (immediate upper_format w))) _ (HasFieldsOf w) (λ e. (e, refl, refl))
    (tested (opcode w) 0x6f (Some (Jal (rd_field w) (signed_immediate jump_format w))) _ (HasFieldsOf w) (λ e. (e, refl, refl))
    (tested (opcode w) 0x67 (jump_row w) _ (HasFieldsOf w) (jump_found w)
    (tested (opcode w) 0x63 (branch_row w) _ (HasFieldsOf w) (branch_found w)
    (tested (opcode w) 0x03 (load_row w) _ (HasFieldsOf w) (load_found w)
    (tested (opcode w) 0x23 (store_row w) _ (HasFieldsOf w) (store_found w)
    (tested (opcode w) 0x13 (constant_row w) _ (HasFieldsOf w) (constant_found w)
    (tested (opcode w) 0x33 (operation_row w) _ (HasFieldsOf w) (operation_found w)
    (tested (opcode w) 0x0f (fence_row w) (environment_row w) (HasFieldsOf w) (fence_found w) (environment_found w))))))))))

-- ---- the extended table

-- the fields of a row of the plain table are those of the extended one
pub in_extended : (w : ℕ) (insn : Insn) → HasFieldsOf w insn → HasFieldsOfX w insn
in_extended w (Alu op rd rs1 rs2) fields = fields
in_extended w (AluImm op rd rs1 imm) fields = fields
in_extended w (Lui rd upper) fields = fields
in_extended w (Auipc rd upper) fields = fields
in_extended w (Jal rd offset) fields = fields
in_extended w (Jalr rd rs1 offset) fields = fields
in_extended w (Branch cond rs1 rs2 offset) fields = fields
in_extended w (Load kind rd rs1 offset) fields = fields
in_extended w (Store width rs1 rs2 offset) fields = fields
in_extended w (Fence bits rs1 rd) fields = fields
in_extended w Ecall fields = fields
in_extended w Ebreak fields = fields
in_extended w (Unit number rd rs1 rs2 rs3) fields = absurd fields
in_extended w (Cread rd index) fields = absurd fields
in_extended w (Cput rs1 rs2) fields = absurd fields
in_extended w (Illegal word) fields = absurd fields

unit_found : (w : ℕ) → opcode w ≡ 0x0b → IfSome (unit_row w) (HasFieldsOfX w)
unfolding unit_row
unit_found w e = (e, omega arith, omega arith, refl, refl, refl, refl)

cread_found : (w : ℕ) → opcode w ≡ 0x2b → funct7 w ≡ 0 → funct3 w ≡ 0 → IfSome (cread_row w) (HasFieldsOfX w)
unfolding cread_row
cread_found w e high low =
    tested (rs1_field w) 0 (if nat_lt (rs2_field w) 2 then Some (Cread (rd_field w) (rs2_field w)) else None) None (HasFieldsOfX w)
    (λ zero. cond_both (nat_lt (rs2_field w) 2) (Some (Cread (rd_field w) (rs2_field w))) None (λ answer. IfSome answer (HasFieldsOfX w))
    (λ is. (e, low, high, refl, zero, refl, ltb-true (rs2_field w) 2 is)) (λ none. tt)) tt

cput_found : (w : ℕ) → opcode w ≡ 0x2b → funct7 w ≡ 0 → funct3 w ≡ 1 → IfSome (cput_row w) (HasFieldsOfX w)
unfolding cput_row
cput_found w e high low = tested (rd_field w) 0 (Some (Cput (rs1_field w) (rs2_field w))) None (HasFieldsOfX w) (λ zero. (e, low, high, zero, refl, refl)) tt

hidden_found : (w : ℕ) → opcode w ≡ 0x2b → IfSome (hidden_row w) (HasFieldsOfX w)
unfolding hidden_row
hidden_found w e =
    tested (funct7 w) 0 (if funct3 w == 0 then cread_row w else (if funct3 w == 1 then cput_row w else None)) None (HasFieldsOfX w)
    (λ high.
    tested (funct3 w) 0 (cread_row w) _ (HasFieldsOfX w) (cread_found w e high)
    (tested (funct3 w) 1 (cput_row w) None (HasFieldsOfX w) (cput_found w e high) tt)) tt

extended_found : (w : ℕ) → IfSome (extended_row w) (HasFieldsOfX w)
unfolding extended_row
extended_found w =
    tested (opcode w) 0x0b (unit_row w) _ (HasFieldsOfX w) (unit_found w)
    (tested (opcode w) 0x2b (hidden_row w) (plain_row w) (HasFieldsOfX w) (hidden_found w) (IfSome_then (plain_row w) (plain_found w) (in_extended w)))

-- ---- what the calls answer

pub plain_reads : (w : ℕ) → w < 2 ^ 32 → IfSome (plain_row w) (Reads w)
plain_reads w below = IfSome_then (plain_row w) (plain_found w) (λ insn fields. (below, fields))

pub extended_reads : (w : ℕ) → w < 2 ^ 32 → IfSome (extended_row w) (ReadsX w)
extended_reads w below = IfSome_then (extended_row w) (extended_found w) (λ insn fields. (below, fields))
