-- For private contracts: instructions whose words were appended to a text.
use Rattle.std.specs.Prelude.{◌≡◌, ℕ, List, ◌++◌}
use Rattle.std.specs.List.{AllZip}
use Rattle.ci_isa.specs.declared.instruction.Insn.{Insn}
use Rattle.ci_isa.specs.Table.{IsWordOf}

-- the word stands for the instruction, and is the only one that does
pub record IsOnlyWordOf (word : ℕ) (insn : Insn) : Type 0 where
  pub stands : IsWordOf word insn
  pub only : (other : ℕ) → IsWordOf other insn → other ≡ word

abbrev pub AreOnlyWordsOf : List ℕ → List Insn → Type 0
AreOnlyWordsOf words insns = AllZip IsOnlyWordOf words insns

-- the words of these instructions were appended, whatever the words before stand for
abbrev pub ArePushed : List ℕ → List ℕ → List Insn → Type 0
ArePushed before after insns =
    (done : List Insn) → AreOnlyWordsOf before done → AreOnlyWordsOf after (done ++ insns)
