-- An executable whose blocks are renamed, with the live sets of the original. For every reader.
use Rattle.std.specs.Prelude.{◌≡◌, ℕ, ◌+◌, ◌*◌, ◌<◌, nat_lt, List, [], ◌∷◌, length, filter, sum_by, Ok}
use Rattle.std.specs.List.{Contains}
use Rattle.ci_isa.specs.Sequences.{nth_insn}
use Rattle.ci_isa.specs.Table.{IsWordOf}
use Rattle.ci_isa.specs.declared.instruction.Insn.{Insn}
use Rattle.ci_elf.specs.Executables.{Executable, IsTextWord, text_word}
use Rattle.ci_elf.specs.Rules.{IsReadAs}
use Rattle.ci_elf.specs.TextChanges.{ChangeText}
use Rattle.ci_block.specs.CustomWords.{HasNoCustomWord}
use Rattle.ci_block.specs.declared.blocks.Block.{Block}
use Rattle.ci_live.specs.Analyses.{IsAnalysis}
use Rattle.ci_live.specs.Sets.{Sets, after_block}
use Rattle.ci_rename.specs.Renaming.{IsRenamed}

module _ (live : Sets) (new : Executable) where
  -- The block is renamed, with the registers that are live behind it in the original, and stands in the new file: so
  -- many of its values are renamed.
  pub record IsRenamedAt (block : Block) (values : ℕ) : Type 0 where
    pub insns : List Insn
    pub renamed : IsRenamed (after_block live block.leader) block.insns.items insns values
    pub words :
        (k : ℕ) → k < length insns → IsWordOf (text_word new (block.leader + 4 * k)) (nth_insn insns k)

  -- each block is, in their order
  pub data AreRenamedAt : List Block → List ℕ → Type 0 where
    none : AreRenamedAt [] []
    more :
        (block : Block) (blocks : List Block) (values : ℕ) (all : List ℕ)
        → IsRenamedAt block values → AreRenamedAt blocks all → AreRenamedAt (block ∷ blocks) (values ∷ all)

-- the address is in no block
abbrev pub IsOutside : List Block → ℕ → Type 0
IsOutside blocks address =
    (block : Block) → Contains blocks block
    → (k : ℕ) → k < length block.insns.items → ¬ (address ≡ block.leader + 4 * k)

-- The file with all its blocks renamed in place: `values` of their values are, and in `changed` of them some. No byte
-- outside the text differs, and no word of the text that is in no block.
pub record IsRenamedFile (old new : Executable) (live : Sets) (values changed : ℕ) : Type 0 where
  pub targets : List ℕ
  pub named : List ℕ
  pub blocks : List Block
  pub old_bytes : List ℕ
  pub old_is : IsReadAs old_bytes (Ok old)
  pub plain : HasNoCustomWord old
  pub analysis : IsAnalysis old targets named blocks live
  pub new_is : new ≡ record old { bytes = new.bytes }
  pub text_alone : ChangeText old new.bytes
  pub others_stay :
      (address : ℕ) → IsTextWord old.ranges address → IsOutside blocks address
      → text_word new address ≡ text_word old address
  pub each : List ℕ
  pub renamed : AreRenamedAt live new blocks each
  pub values_are : values ≡ sum_by (λ count. count) each
  pub changed_are : changed ≡ length (filter (λ count. nat_lt 0 count) each)
