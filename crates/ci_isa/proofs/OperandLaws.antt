-- Operands and results of instructions, and what an instruction is that may be part of a unit.
use Rattle.std.proofs.Common.{◌≡◌, ℕ, ◌<◌, ◌≤◌, refl, arith, List, [], ◌∷◌, length, slice_index}
use Rattle.std.specs.Prelude.{true, false, not, ◌==◌}
use Rattle.std.specs.List.{list_any}
use Rattle.std.proofs.lemmas.Bool.{and_parts}
use Rattle.std.proofs.lemmas.Bool.Decides.{nat_tests}
use Rattle.ci_isa.specs.declared.instruction.Insn.{Insn}
use Rattle.ci_isa.specs.declared.instruction.Insn.TheVariants.{Alu, AluImm, Lui, Auipc, Jal, Jalr, Branch, Load, Store}
use Rattle.ci_isa.specs.declared.instruction.Insn.TheVariants.{Ecall, Unit, Cread, Cput}
use Rattle.ci_isa.specs.FieldBounds.{FieldsFit}
use Rattle.ci_isa.specs.Effects.{operands, results, is_kept, is_among, is_division, reads_register, writes_register}
use Rattle.ci_isa.specs.Effects.{is_access, is_unit, is_cread, is_cput, may_join, ends_block}

-- ---- operands

pub operand_below : (insn : Insn) (r : ℕ) → FieldsFit insn → list_any (λ n. n == r) (operands insn) ≡ true → r < 32
operand_below (Alu op rd rs1 rs2) r fit among = grind (arith, nat_tests, fit.1, fit.2)
operand_below (AluImm op rd rs1 imm) r fit among = grind (arith, nat_tests, fit.1)
operand_below (Jalr rd rs1 offset) r fit among = grind (arith, nat_tests, fit.1)
operand_below (Branch cond rs1 rs2 offset) r fit among = grind (arith, nat_tests, fit.0, fit.1)
operand_below (Load load rd rs1 offset) r fit among = grind (arith, nat_tests, fit.1)
operand_below (Store width rs1 rs2 offset) r fit among = grind (arith, nat_tests, fit.0, fit.1)
operand_below Ecall r fit among = grind (arith, nat_tests)
operand_below (Unit number rd rs1 rs2 rs3) r fit among = grind (arith, nat_tests, fit.2, fit.3, fit.4)
operand_below (Cput rs1 rs2) r fit among = grind (arith, nat_tests, fit.0, fit.1)
operand_below insn r fit among = cc

pub read_below : (insn : Insn) (r : ℕ) → FieldsFit insn → reads_register insn r ≡ true → r < 32
read_below insn r fit is = operand_below insn r fit (and_parts (is_kept r) (list_any (λ n. n == r) (operands insn)) is).1

-- ---- results

pub result_below : (insn : Insn) → FieldsFit insn → slice_index (results insn) 0 < 32
result_below (Alu op rd rs1 rs2) fit = fit.0
result_below (AluImm op rd rs1 imm) fit = fit.0
result_below (Lui rd upper) fit = fit.0
result_below (Auipc rd upper) fit = fit.0
result_below (Jal rd offset) fit = fit.0
result_below (Jalr rd rs1 offset) fit = fit.0
result_below (Load load rd rs1 offset) fit = fit.0
result_below (Unit number rd rs1 rs2 rs3) fit = fit.1
result_below (Cread rd index) fit = fit.0
result_below insn fit = omega arith

few_results : (insn : Insn) → length (results insn) ≤ 1
few_results (Alu op rd rs1 rs2) = omega arith
few_results insn = omega arith

-- the register that an instruction writes is its only result
pub single_result : (insn : Insn) (r : ℕ) → writes_register insn r ≡ true → slice_index (results insn) 0 ≡ r
single_result insn r is = only (results insn) (few_results insn) is
  where
    only : (registers : List ℕ) → length registers ≤ 1 → is_among registers r ≡ true → slice_index registers 0 ≡ r
    only [] few among = grind (arith, nat_tests)
    only (n ∷ []) few among = grind (arith, nat_tests)
    only (n ∷ m ∷ more) few among = absurd (omega arith)

-- ---- instructions that may be part of a unit

-- they act, go to no memory, are no bundles, and write their result
pub record Joins (insn : Insn) : Type 0 where
  pub acts : ends_block insn ≡ false
  pub no_access : is_access insn ≡ false
  pub no_unit : is_unit insn ≡ false
  pub no_cread : is_cread insn ≡ false
  pub no_cput : is_cput insn ≡ false
  pub writes : writes_register insn (slice_index (results insn) 0) ≡ true

kept_among : (r : ℕ) → not (r == 0) ≡ true → is_among (r ∷ []) r ≡ true
kept_among r is = grind (arith, nat_tests)

pub joins : (insn : Insn) → may_join insn ≡ true → Joins insn
joins (Alu op rd rs1 rs2) is = record {
  acts = refl;
  no_access = refl;
  no_unit = refl;
  no_cread = refl;
  no_cput = refl;
  writes = kept_among rd (and_parts (not (is_division op)) (not (rd == 0)) is).1;
}
joins (AluImm op rd rs1 imm) is = record {
  acts = refl;
  no_access = refl;
  no_unit = refl;
  no_cread = refl;
  no_cput = refl;
  writes = kept_among rd (and_parts (not (is_division op)) (not (rd == 0)) is).1;
}
joins (Lui rd upper) is = record { acts = refl; no_access = refl; no_unit = refl; no_cread = refl; no_cput = refl; writes = kept_among rd is }
joins insn is = cc
