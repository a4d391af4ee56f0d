-- What the blocks of a renamed executable share with those of the original. For every reader.
use Rattle.std.specs.Prelude.{◌≡◌, ℕ, Bool, ◌≤ℤ◌, List}
use Rattle.std.specs.List.{Contains}
use Rattle.ci_elf.specs.Executables.{Executable}
use Rattle.ci_lat.specs.Latencies.{Latencies}
use Rattle.ci_cut.specs.declared.graph.Limits.{Limits}
use Rattle.ci_cut.specs.FlowGraph.{FlowGraph}
use Rattle.ci_cut.specs.Gain.{Fits, gain}
use Rattle.ci_cut.specs.Best.{HasNoCut, IsBest}
use Rattle.ci_block.specs.declared.blocks.Block.{Block}
use Rattle.ci_live.specs.Analyses.{IsAnalysis}
use Rattle.ci_live.specs.Laws.{AgreeAt}
use Rattle.ci_live.specs.Sets.{Sets, after_block}
use Rattle.ci_dfg.specs.BlockGraph.{graph_of}
use Rattle.ci_rename.specs.FewerArcs.{HasFewerArcs}
use Rattle.ci_rename.specs.RenamedFiles.{IsRenamedFile}

-- Both executables are analysed by the same targets of JALR and the same addresses named by the user. The original's
-- live sets are those that it was renamed by.
pub record AreAnalysedAlike (old new : Executable) (live : Sets) (before after : List Block) (sets : Sets)
    : Type 0 where
  pub targets : List ℕ
  pub named : List ℕ
  pub old_analysis : IsAnalysis old targets named before live
  pub new_analysis : IsAnalysis new targets named after sets

-- Then a renamed file has the leaders of the original, and the same registers are live at them and behind their blocks.
abbrev pub RenamedFilesAnalyseAlike : Type 0
RenamedFilesAnalyseAlike =
    (old new : Executable) (live : Sets) (values changed : ℕ) → IsRenamedFile old new live values changed
    → (before after : List Block) (sets : Sets) → AreAnalysedAlike old new live before after sets
    → (sets.leaders ≡ live.leaders) × ((leader : ℕ) → Contains live.leaders leader → AgreeAt sets live leader)

-- The second graph has the nodes of the first one, with the same sources and the same live values, and no arc that this
-- hasn't. So each set that fits in the first fits in the second with the same gain; and where the first has a best cut,
-- so has the second, which gains no less.
pub record KeepsCuts (old new : FlowGraph) : Type 0 where
  pub fewer : HasFewerArcs old new
  pub each :
      (limits : Limits) (cut : ℕ → Bool) → Fits old limits cut → Fits new limits cut × (gain new cut ≡ gain old cut)
  pub some : (limits : Limits) (cut : ℕ → Bool) → IsBest old limits cut → ¬ HasNoCut new limits
  pub best :
      (limits : Limits) (cut best : ℕ → Bool) → IsBest old limits cut → IsBest new limits best
      → gain old cut ≤ℤ gain new best

-- The blocks of both files begin at the same leaders, and each block of the second file keeps the cuts of that of the
-- first file at its leader, by every table.
abbrev pub BlocksKeepCuts : (old new : Executable) (live : Sets) → Type 0
BlocksKeepCuts old new live =
    (before after : List Block) (sets : Sets) → AreAnalysedAlike old new live before after sets
    → (sets.leaders ≡ live.leaders)
    × ((block renamed : Block) (table : Latencies) → Contains before block → Contains after renamed
    → renamed.leader ≡ block.leader
    → KeepsCuts (graph_of block.insns.items (after_block live block.leader) table)
    (graph_of renamed.insns.items (after_block sets renamed.leader) table))

-- So do those of a renamed file.
abbrev pub RenamedFilesKeepCuts : Type 0
RenamedFilesKeepCuts =
    (old new : Executable) (live : Sets) (values changed : ℕ) → IsRenamedFile old new live values changed
    → BlocksKeepCuts old new live
