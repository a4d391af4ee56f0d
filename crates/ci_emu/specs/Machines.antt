-- What a machine makes of the instructions that are the project's own. For the readers of machines.
use Rattle.std.specs.Prelude.{◌≡◌, ℕ, Bool, if◌then◌else◌, List, [], ◌∷◌}
use Rattle.ci_isa.specs.declared.instruction.Insn.{Insn}
use Rattle.ci_isa.specs.declared.instruction.Insn.TheVariants.{Unit, Cread, Cput, Illegal}
use Rattle.ci_isa.specs.Laws.{IsInsnAtX}
use Rattle.ci_machine.specs.Actions.{Units}
use Rattle.ci_machine.specs.Cores.{hidden_operands}
use Rattle.ci_machine.specs.Steps.{Meaning}

-- The unit takes the registers of its word and the hidden operands, and gives these three results of these values.
pub record Gives (units : Units) (number : ℕ) (values : List ℕ) (given : ℕ × ℕ × ℕ) : Type 0 where
  pub further : units.further number ≡ hidden_operands
  pub results : units.results number values ≡ given.0 ∷ given.1 ∷ given.2 ∷ []

-- what stands at a word for which the extended table has this reading, on a machine that has these units, and maybe
-- `cread` and `cput`: the bare word where the machine has not what the word reads as
abbrev pub standing : (ℕ → Bool) → Bool → ℕ → Insn → Insn
standing has_unit has_hidden word (Unit number rd rs1 rs2 rs3) =
    if has_unit number then Unit number rd rs1 rs2 rs3 else Illegal word
standing has_unit has_hidden word (Cread rd index) = if has_hidden then Cread rd index else Illegal word
standing has_unit has_hidden word (Cput rs1 rs2) = if has_hidden then Cput rs1 rs2 else Illegal word
standing has_unit has_hidden word insn = insn

-- so it is by these meanings
abbrev pub StandAs : (Meaning → Type 0) → (ℕ → Bool) → Bool → Type 0
StandAs Means has_unit has_hidden =
    (meaning : Meaning) → Means meaning → (word : ℕ) (reading : Insn) → IsInsnAtX word reading
    → meaning.insn word ≡ standing has_unit has_hidden word reading
