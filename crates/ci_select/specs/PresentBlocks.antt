-- The present program: the blocks of the file, in which each cut that was taken is folded.
use Rattle.std.specs.Prelude.{◌≡◌, ℕ, false, List, [], ◌∷◌}
use Rattle.std.specs.FinSet as finite
use Rattle.std.specs.List.{Contains}
use Rattle.std.specs.Ordering.{nat_cmp}
use Rattle.ci_isa.specs.declared.instruction.Insn.{Insn}
use Rattle.ci_block.specs.declared.blocks.Block.{Block}
use Rattle.ci_live.specs.Sets.{after_block}
use Rattle.ci_cut.specs.FlowGraph.{FlowGraph}
use Rattle.ci_dfg.specs.BlockGraph.{graph_of}
use Rattle.ci_log.specs.declared.book.Entry.{Entry}
use Rattle.ci_log.specs.declared.book.Entry.TheVariants.{Take}
use Rattle.ci_rewrite.specs.FoldedBlock.{IsFolded}
use Rattle.ci_select.specs.Histories.{History, HasCut, is_take_of}
use Rattle.ci_select.specs.Instances.{Instance}

module _ (instance : Instance) where
  -- The graph of these instructions as the block at the leader. What is live after it stays that of the file.
  abbrev pub graph_at : ℕ → List Insn → FlowGraph
  graph_at leader insns = graph_of insns (after_block instance.live leader) instance.table

  -- the instructions are those of the block of the file
  abbrev pub IsOriginal : ℕ → List Insn → Type 0
  IsOriginal leader insns =
      (block : Block) × Contains instance.blocks block × (block.leader ≡ leader) × (insns ≡ block.insns.items)

  -- The instructions of the block at the leader in the present program.
  pub data IsPresent : History → ℕ → List Insn → Type 0 where
    original : {leader : ℕ} {insns : List Insn} → IsOriginal leader insns → IsPresent [] leader insns
    unchanged :
        {history : History} {entry : Entry} {leader : ℕ} {insns : List Insn}
        → is_take_of leader entry ≡ false → IsPresent history leader insns → IsPresent (entry ∷ history) leader insns
    folded :
        {history : History} {leader unit : ℕ} {insns new : List Insn} (cut : finite.FinSet nat_cmp)
        → IsPresent history leader insns → HasCut history leader cut
        → IsFolded insns (graph_at leader insns) (finite.contains cut) unit new
        → IsPresent (Take leader unit ∷ history) leader new

  -- In the present program the block has these instructions, and its last search found this cut of them.
  pub record HasPresentCut (history : History) (leader : ℕ) (insns : List Insn)
      (cut : finite.FinSet nat_cmp) : Type 0 where
    pub present : IsPresent history leader insns
    pub has_cut : HasCut history leader cut
