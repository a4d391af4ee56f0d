-- Instructions that stand in the text: the first ones of a list, and the one behind these.
use Rattle.std.proofs.Common.{◌≡◌, ℕ, zero, suc, ◌<◌, ◌≤◌, refl, ap, arith, List, [], ◌∷◌, length, take, Option, Some}
use Rattle.std.specs.Prelude.{true}
use Rattle.std.specs.List.{list_all}
use Rattle.ci_isa.specs.declared.instruction.Insn.{Insn}
use Rattle.ci_isa.specs.Sequences.{nth_insn}
use Rattle.ci_machine.specs.Accesses.{addresses}
use Rattle.ci_machine.specs.Programs.{Program, in_text}
use Rattle.ci_machine.specs.Steps.{Meaning, insn_in, following}
use Rattle.ci_machine.specs.Blocks.{StandAt, behind}

-- the first n of a list, where it has so many
pub length_first : (insns : List Insn) (n : ℕ) → n ≤ length insns → length (take n insns) ≡ n
length_first insns zero within = refl
length_first [] (suc n) within = absurd (omega arith)
length_first (insn ∷ insns) (suc n) within = ap suc (length_first insns n (omega arith))

-- the address behind a list depends on its length alone
pub behind_same : (first second : List Insn) (address : ℕ) → length first ≡ length second → behind first address ≡ behind second address
behind_same [] [] address same = refl
behind_same [] (y ∷ second) address same = cc
behind_same (x ∷ first) [] address same = cc
behind_same (x ∷ first) (y ∷ second) address same = behind_same first second (following address) (omega arith)

module _ (meaning : Meaning) (program : Program) (memory : ℕ → Option ℕ) where
  pub stand_first : (insns : List Insn) (n address : ℕ) → StandAt meaning program memory address insns → StandAt meaning program memory address (take n insns)
  stand_first insns zero address stand = tt
  stand_first [] (suc n) address stand = tt
  stand_first (insn ∷ insns) (suc n) address (there, all, stand) = (there, all, stand_first insns n (following address) stand)

  pub stands_last : (insns : List Insn) (n address : ℕ) → n < length insns → StandAt meaning program memory address insns
      → (insn_in meaning program memory (behind (take n insns) address) ≡ Some (nth_insn insns n))
      × (list_all (in_text program) (addresses 4 (behind (take n insns) address)) ≡ true)
  stands_last [] n address below stand = absurd (omega arith)
  stands_last (insn ∷ insns) zero address below (there, all, stand) = (there, all)
  stands_last (insn ∷ insns) (suc n) address below (there, all, stand) = stands_last insns n (following address) (omega arith) stand
