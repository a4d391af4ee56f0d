-- The file of the program of a seed, for everybody.
use Rattle.std.specs.Prelude.{◌≡◌, ℕ, List, [], ◌∷◌}
use Rattle.std.specs.List.{AllZip}
use Rattle.ci_isa.specs.declared.instruction.Insn.{Insn}
use Rattle.ci_isa.specs.Table.{IsWordOf}
use Rattle.ci_elf.specs.Frames.{frame_of}
use Rattle.ci_gen.specs.Texts.{text_of}

-- the words stand for the instructions, place by place
abbrev pub AreWordsOf : List ℕ → List Insn → Type 0
AreWordsOf words insns = AllZip IsWordOf words insns

-- Its text are the words of the seed's instructions. It has no constants, and the one value 0.
pub record IsProgramOf (seed : ℕ) (bytes : List ℕ) : Type 0 where
  pub words : List ℕ
  pub words_are : AreWordsOf words (text_of seed)
  pub bytes_are : bytes ≡ frame_of words [] (0 ∷ [])

-- the file is the only one of the seed's program
abbrev pub IsOnlyProgramOf : ℕ → List ℕ → Type 0
IsOnlyProgramOf seed bytes = (others : List ℕ) → IsProgramOf seed others → others ≡ bytes
