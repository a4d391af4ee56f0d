-- For the contracts of ci_asm: what the calls promise.
use Rattle.std.specs.Prelude.{◌≡◌, ℕ, List, [], ◌∷◌, ◌++◌, codes}
use Rattle.ci_isa.specs.declared.instruction.Insn.{Insn}
use Rattle.ci_isa.specs.Table.{IsWordOf}
use Rattle.ci_asm.specs.declared.faults.AsmFault.{AsmFault}
use Rattle.ci_asm.specs.declared.faults.AsmFault.TheVariants.{Bad, NoMemory}
use Rattle.ci_asm.specs.Assembly.{HasFault, IsAssembly}

-- no other words are the assembly of the text, and it has no fault
pub record IsOnlyAssembly (text words : List ℕ) : Type 0 where
  pub no_others : (others : List ℕ) → IsAssembly text others → others ≡ words
  pub no_fault : (kind line column : ℕ) → ¬ HasFault text kind line column

-- the fault is the text's, or memory ran out
abbrev pub IsFaultOf : List ℕ → AsmFault → Type 0
IsFaultOf text (Bad kind line column) = HasFault text kind line column
IsFaultOf text NoMemory = Unit {0}

-- each word that stands for the instruction is the assembly of the line
abbrev pub IsLineOf : List ℕ → Insn → Type 0
IsLineOf line insn = (w : ℕ) → IsWordOf w insn → IsAssembly (line ++ codes "\n") (w ∷ [])
