-- How the words of OP-IMM hold the operand of each operation, and the numbers that signed values are.
use Rattle.std.proofs.Common.{◌≡◌, ℕ, ◌<◌, ◌^◌, ℤ, pos, refl, sym, subst, ◌∙◌}
use Rattle.std.specs.Int.{w32, cast_unsigned, cast_signed}
use Rattle.std.proofs.lemmas.Int.{to_z-of_z, of_z-to_z}
use Rattle.ci_isa.specs.Fields.{funct7, rs2_field, immediate_format, signed_immediate}
use Rattle.ci_isa.specs.Table.{ConstantForm, SignedImmediate, ShiftAmount, NoForm, HoldsConstant}

-- for `grind`: a signed value is passed as it is
pub ruleset passed = (to_z-of_z)

-- what has no amount for a shift has an immediate
pub held_immediate : (w : ℕ) (form : ConstantForm) (code : ℕ) (n : ℤ) → (form ≡ ShiftAmount → ⊥)
    → HoldsConstant w form code n → signed_immediate immediate_format w ≡ n
held_immediate w SignedImmediate code n other held = held
held_immediate w ShiftAmount code n other held = absurd (other refl)
held_immediate w NoForm code n other held = absurd held

-- an amount stands beside its funct7
pub held_amount : (w : ℕ) (form : ConstantForm) (code : ℕ) (n : ℤ) → form ≡ ShiftAmount
    → HoldsConstant w form code n → (funct7 w ≡ code) × (pos (rs2_field w) ≡ n)
held_amount w form code n is held = subst (λ f. HoldsConstant w f code n) is held

-- an amount is passed as it is
pub passed_amount : (m : ℕ) (n : ℤ) (v : ℕ) → m < 2 ^ 32 → pos m ≡ n → v ≡ cast_unsigned w32 (cast_signed w32 (cast_unsigned w32 n)) → m ≡ v
passed_amount m n v below is given = sym (given ∙ rw (← is) (of_z-to_z w32 m below))
