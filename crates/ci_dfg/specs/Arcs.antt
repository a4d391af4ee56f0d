-- The arcs of a block, rule by rule: which earlier node has to stay before which later one.
use Rattle.std.specs.Prelude.{◌≡◌, ℕ, suc, ◌+◌, ◌<◌, ◌≤◌, true, false, ◌↔◌, List, length, IsTrue}
use Rattle.std.specs.Ordering.{nat_cmp}
use Rattle.std.specs.FinSet as set
use Rattle.ci_isa.specs.declared.instruction.Insn.{Insn}
use Rattle.ci_isa.specs.FieldBounds.{FieldsFit}
use Rattle.ci_isa.specs.Effects.{ends_block, reads_register, writes_register, is_access}
use Rattle.ci_isa.specs.Sequences.{nth_insn, IsLastWriter}
use Rattle.ci_lat.specs.Latencies.{Latencies}
use Rattle.ci_cut.specs.FlowGraph.{HasArc}
use Rattle.ci_dfg.specs.BlockGraph.{is_joined, has_arc_into, graph_of}
use Rattle.ci_dfg.specs.BundleArcs as bundles
use Rattle.ci_dfg.specs.BundleArcs.{IsSpan}
use Rattle.ci_dfg.specs.Bundles.{AreBundled}

-- The arcs that nodes have of their own, by one of these rules.
-- True: k reads a register that j was the last to write. Anti: j reads a register that k writes. Output: both write one
-- register. Memory: both are loads or stores. Control: k ends the block.
pub data IsOwnArc (insns : List Insn) : ℕ → ℕ → Type 0 where
  true_arc : (j k r : ℕ) → IsLastWriter insns r k j → reads_register (nth_insn insns k) r ≡ true → IsOwnArc insns j k
  anti_arc :
      (j k r : ℕ) → j < k → reads_register (nth_insn insns j) r ≡ true → writes_register (nth_insn insns k) r ≡ true
      → IsOwnArc insns j k
  output_arc :
      (j k r : ℕ) → j < k → writes_register (nth_insn insns j) r ≡ true → writes_register (nth_insn insns k) r ≡ true
      → IsOwnArc insns j k
  memory_arc :
      (j k : ℕ) → j < k → is_access (nth_insn insns j) ≡ true → is_access (nth_insn insns k) ≡ true → IsOwnArc insns j k
  control_arc : (j k : ℕ) → j < k → ends_block (nth_insn insns k) ≡ true → IsOwnArc insns j k

-- all arcs: with those that bundles add
abbrev pub IsArc : List Insn → ℕ → ℕ → Type 0
IsArc insns = bundles.IsArc (is_joined insns) (IsOwnArc insns)

-- the arcs of the definition by tests are these
abbrev pub ArcsAreThese : Type 0
ArcsAreThese = (insns : List Insn) (j k : ℕ) → j < k → IsTrue (has_arc_into insns k j) ↔ IsArc insns j k

-- and so are the arcs of a block's graph, whatever is live behind the block, and by any table
abbrev pub GraphHasTheseArcs : Type 0
GraphHasTheseArcs =
    (insns : List Insn) (live_out : set.FinSet nat_cmp) (table : Latencies) (j k : ℕ)
    → HasArc (graph_of insns live_out table) j k ↔ ((k < length insns) × IsArc insns j k)

-- ---- whole bundles

-- The nodes from the first to the last are one bundle, and no node before or behind them is of it.
pub record IsBundle (insns : List Insn) (first last : ℕ) : Type 0 where
  pub one : IsSpan (is_joined insns) first last
  pub begins : is_joined insns first ≡ false
  pub ends : is_joined insns (suc last) ≡ false

-- where the words of a block are of the table and its bundles are whole, each bundle has at most four words
abbrev pub BundlesAreShort : Type 0
BundlesAreShort =
    (insns : List Insn) (first last : ℕ) → ((k : ℕ) → k < length insns → FieldsFit (nth_insn insns k))
    → AreBundled insns → IsBundle insns first last → last ≤ first + 3

-- The nodes of a bundle move together. There is an arc from each to the next; each arc that enters one of them from an
-- earlier node outside also enters the first; and each arc that leaves one of them for a later node outside also leaves
-- the last.
pub record MoveTogether (insns : List Insn) (first last : ℕ) : Type 0 where
  pub between : (k : ℕ) → first ≤ k → k < last → IsTrue (has_arc_into insns (suc k) k)
  pub entering :
      (j k : ℕ) → j < first → first ≤ k → k ≤ last → IsTrue (has_arc_into insns k j)
      → IsTrue (has_arc_into insns first j)
  pub leaving :
      (j k : ℕ) → first ≤ j → j ≤ last → last < k → IsTrue (has_arc_into insns k j)
      → IsTrue (has_arc_into insns k last)

abbrev pub BundlesMoveTogether : Type 0
BundlesMoveTogether = (insns : List Insn) (first last : ℕ) → IsBundle insns first last → MoveTogether insns first last
