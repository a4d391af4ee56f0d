-- For private contracts: branches that wait for what is found where their nodes are left out.
use Rattle.std.specs.Prelude.{◌≡◌, ℕ, zero, suc, ◌+◌, ◌<◌, true, false, List, ◌∷◌, length, slice_index_or, IsTrue}
use Rattle.ci_region.specs.BoundedMap.{BoundedMap}
use Rattle.ci_cut.specs.declared.graph.Limits.{Limits}
use Rattle.ci_cut.specs.FlowGraph.{FlowGraph}
use Rattle.ci_log.specs.declared.log.Item.TheVariants.{F}
use Rattle.ci_log.specs.declared.flattening.Child.{Child}
use Rattle.ci_log.specs.declared.flattening.Child.TheVariants.{Leaf}
use Rattle.ci_log.specs.declared.flattening.LogNode.{LogNode}
use Rattle.ci_cut.specs.declared.prefix.PrefixTerms.{PrefixTerms}
use Rattle.ci_cut.specs.declared.incumbent.Incumbent.{Incumbent}
use Rattle.ci_cut.specs.Prefixes.{Prefix, eligible_nodes, is_next}
use Rattle.ci_cut.specs.Need.{IsOpen}
use Rattle.ci_check.specs.Representation.{IsMeasured}
use Rattle.ci_search.specs.private.Searched.{IsReady}
use Rattle.ci_search.specs.private.Trees.{IsSearched}

-- the child of this number
abbrev pub child_at : List Child → ℕ → Child
child_at children k = slice_index_or children k (Leaf F)

-- the children below a number are the same
abbrev pub AreKeptBelow : ℕ → List Child → List Child → Type 0
AreKeptBelow end before after = (k : ℕ) → k < end → child_at after k ≡ child_at before k

-- The prefix is open, and what goes on from it with the next node has been searched: `child` is the tree of that. It
-- took the region from `before` to `between`, and the best cut so far from `best` to `later`.
pub record IsWaiting (graph : FlowGraph) (limits : Limits) (prefix : Prefix) (best later : Incumbent)
    (before between : BoundedMap LogNode) (child : Child) : Type 0 where
  pub terms : PrefixTerms
  pub delays : List ℕ
  pub ready : IsReady graph limits terms delays best prefix
  pub measured : IsMeasured graph limits best
  pub node : ℕ
  pub next : IsTrue (is_next graph prefix node)
  pub some : length prefix < eligible_nodes graph
  pub is_open : IsOpen graph limits prefix
  pub searched : IsSearched graph limits (true ∷ prefix) best later before between child

-- So many branches wait, one below the other, from the prefix `start` to another one, which leaves the nodes of all
-- these out. Their children are those from number `bottom` on.
abbrev pub AreWaiting : FlowGraph → Limits → Prefix → Incumbent → BoundedMap LogNode → List Child → ℕ → ℕ → Prefix
    → Incumbent → BoundedMap LogNode → Type 0
AreWaiting graph limits start first before children bottom zero prefix best region =
    (prefix ≡ start) × (best ≡ first) × (region ≡ before)
AreWaiting graph limits start first before children bottom (suc n) prefix best region =
    (above : Prefix) × (earlier : Incumbent) × (held : BoundedMap LogNode)
    × AreWaiting graph limits start first before children bottom n above earlier held
    × IsWaiting graph limits above earlier best held region (child_at children (bottom + n))
    × (prefix ≡ false ∷ above)

-- Branches wait below the number `left`, from number `bottom` on, and this is the tree of the prefix behind them.
pub record IsJoined (graph : FlowGraph) (limits : Limits) (start : Prefix) (first later : Incumbent)
    (before : BoundedMap LogNode) (children : List Child) (bottom left : ℕ) (region : BoundedMap LogNode)
    (root : Child)
    : Type 0 where
  pub count : ℕ
  pub is_left : left ≡ bottom + count
  pub prefix : Prefix
  pub best : Incumbent
  pub held : BoundedMap LogNode
  pub waits : AreWaiting graph limits start first before children bottom count prefix best held
  pub searched : IsSearched graph limits prefix best later held region root
