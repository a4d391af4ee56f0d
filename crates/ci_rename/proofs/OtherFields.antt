-- What an instruction with other registers reads and writes, and what it stays.
use Rattle.std.proofs.Common.{◌≡◌, ℕ, refl, [], ◌∷◌, inl, inr, ◌⊎◌, arith}
use Rattle.std.specs.Prelude.{true, false, map, slice_index}
use Rattle.std.proofs.lemmas.Bool.Decides.{nat_tests}
use Rattle.ci_isa.specs.declared.instruction.Insn.{Insn}
use Rattle.ci_isa.specs.declared.instruction.Insn.TheVariants.{Alu, AluImm, Lui, Load, Store, Ecall, Unit, Cread, Cput}
use Rattle.ci_isa.specs.Effects.{ends_block, is_access, is_among, is_cput, is_cread, is_unit, operands, results, writes_register}
use Rattle.ci_rename.specs.OtherRegisters.{with_operands, with_result}
use Rattle.ci_rename.specs.Steps.{IsPlainInsn}

module _ (to : ℕ → ℕ) where
  pub same_results : (insn : Insn) → results (with_operands to insn) ≡ results insn
  same_results (Alu op rd rs1 rs2) = refl
  same_results insn = refl

  pub other_operands : (insn : Insn) → IsPlainInsn insn → (insn ≡ Ecall) ⊎ (operands (with_operands to insn) ≡ map to (operands insn))
  other_operands Ecall plain = inl refl
  other_operands (Unit number rd rs1 rs2 rs3) plain = let never = plain.0 in cc
  other_operands (Cput rs1 rs2) plain = let never = plain.2 in cc
  other_operands insn plain = inr refl

  pub calls_stay : with_operands to Ecall ≡ Ecall
  calls_stay = refl

pub same_operands : (result : ℕ) (insn : Insn) → operands (with_result result insn) ≡ operands insn
same_operands result (Alu op rd rs1 rs2) = refl
same_operands result insn = refl

-- a plain instruction that ends no block and writes a register has this one as its result
pub other_result : (result : ℕ) (insn : Insn) (r : ℕ) → IsPlainInsn insn → ends_block insn ≡ false → writes_register insn r ≡ true
    → results (with_result result insn) ≡ result ∷ []
other_result result (Alu op rd rs1 rs2) r plain acts writes = refl
other_result result (AluImm op rd rs1 imm) r plain acts writes = refl
other_result result (Lui rd upper) r plain acts writes = refl
other_result result (Load kind rd rs1 offset) r plain acts writes = refl
other_result result (Store width rs1 rs2 offset) r plain acts writes = absurd (never r writes)
  where
    never : (r : ℕ) → is_among [] r ≡ true → ⊥
    never r writes = grind (arith, nat_tests)
other_result result (Unit number rd rs1 rs2 rs3) r plain acts writes = let never = plain.0 in cc
other_result result (Cread rd index) r plain acts writes = let never = plain.1 in cc
other_result result (Cput rs1 rs2) r plain acts writes = let never = plain.2 in cc
other_result result insn r plain acts writes = cc

-- with its own result it is itself
pub own_result : (insn : Insn) → with_result (slice_index (results insn) 0) insn ≡ insn
own_result (Alu op rd rs1 rs2) = refl
own_result insn = refl

-- ---- what it stays

pub record IsOfOneKind (old new : Insn) : Type 0 where
  pub ends : ends_block new ≡ ends_block old
  pub access : is_access new ≡ is_access old
  pub unit : is_unit new ≡ is_unit old
  pub cread : is_cread new ≡ is_cread old
  pub cput : is_cput new ≡ is_cput old

pub operands_kind : (to : ℕ → ℕ) (insn : Insn) → IsOfOneKind insn (with_operands to insn)
operands_kind to (Alu op rd rs1 rs2) = record { ends = refl; access = refl; unit = refl; cread = refl; cput = refl }
operands_kind to insn = record { ends = refl; access = refl; unit = refl; cread = refl; cput = refl }

pub result_kind : (result : ℕ) (insn : Insn) → IsOfOneKind insn (with_result result insn)
result_kind result (Alu op rd rs1 rs2) = record { ends = refl; access = refl; unit = refl; cread = refl; cput = refl }
result_kind result insn = record { ends = refl; access = refl; unit = refl; cread = refl; cput = refl }
