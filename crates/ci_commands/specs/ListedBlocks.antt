-- For every reader: the block at a listed leader of an executable file.
use Rattle.std.specs.Prelude.{◌≡◌, ℕ, List, []}
use Rattle.std.specs.FinSet as set
use Rattle.std.specs.List.{Contains}
use Rattle.std.specs.Ordering.{nat_cmp}
use Rattle.ci_isa.specs.declared.instruction.Insn.{Insn}
use Rattle.ci_elf.specs.Executables.{Executable}
use Rattle.ci_block.specs.declared.blocks.Block.{Block}
use Rattle.ci_block.specs.CustomWords.{HasNoCustomWord, IsFirstCustomWord}
use Rattle.ci_block.specs.Leaders.{IsListing}
use Rattle.ci_live.specs.Analyses.{IsAnalysis}
use Rattle.ci_live.specs.Sets.{Sets, after_block}

module _ (file : Executable) (named : List ℕ) (address : ℕ) where
  -- The file has this block at the address, and these registers are live after it. `named` are the addresses that the
  -- user names as leaders.
  pub record IsListedBlock (insns : List Insn) (live_out : set.FinSet nat_cmp) : Type 0 where
    pub no_custom : HasNoCustomWord file
    pub blocks : List Block
    pub sets : Sets
    pub analysis : IsAnalysis file [] named blocks sets
    pub block : Block
    pub there : Contains blocks block
    pub leader : block.leader ≡ address
    pub insns_are : insns ≡ block.insns.items
    pub live_out_is : live_out ≡ after_block sets address

  -- Why it has none, as a position and a word: the first word of a custom opcode, or the address, where no block
  -- begins, and 0.
  pub data IsNoListedBlock : ℕ → ℕ → Type 0 where
    custom_word : {position word : ℕ} → IsFirstCustomWord file position word → IsNoListedBlock position word
    no_leader :
        (leaders : List ℕ) → HasNoCustomWord file → IsListing file [] named leaders → ¬ Contains leaders address
        → IsNoListedBlock address 0
