-- For private contracts: the tree that a search has made at a prefix.
use Rattle.std.specs.Prelude.{◌≡◌, ℕ, ◌≤◌, true, List, ◌∷◌, Option, Some, None, MatchOption, IsTrue}
use Rattle.ci_region.specs.BoundedMap.{BoundedMap, used}
use Rattle.ci_cut.specs.declared.graph.Limits.{Limits}
use Rattle.ci_cut.specs.FlowGraph.{FlowGraph}
use Rattle.ci_log.specs.declared.log.Item.{Item}
use Rattle.ci_log.specs.declared.flattening.Child.{Child}
use Rattle.ci_log.specs.declared.flattening.LogNode.{LogNode}
use Rattle.ci_log.specs.RegionTrees.{IsTreeIn}
use Rattle.ci_cut.specs.declared.prefix.PrefixTerms.{PrefixTerms}
use Rattle.ci_cut.specs.declared.incumbent.Incumbent.{Incumbent}
use Rattle.ci_cut.specs.Prefixes.{Prefix, is_next}
use Rattle.ci_check.specs.Rules.{Given}
use Rattle.ci_check.specs.private.Walked.{IsWalked}
use Rattle.ci_search.specs.declared.searching.Found.{Found}
use Rattle.ci_search.specs.declared.searching.Found.TheVariants as variants
use Rattle.ci_search.specs.private.Searched.{undecided, IsReady, IsLogged, IsSpentAt}

-- The tree is new in the region, its items are the log of the prefix, and its slots are as many as the open prefixes
-- from this one on. This is the best cut before the search of the prefix, and `later` the one behind it.
pub record IsSearched (graph : FlowGraph) (limits : Limits) (prefix : Prefix) (best later : Incumbent)
    (before after : BoundedMap LogNode) (root : Child) : Type 0 where
  pub items : List Item
  pub tree : IsTreeIn after.values root items before.values
  pub same_capacity : after.capacity ≡ before.capacity
  pub within : used after ≤ after.capacity
  pub logged : IsLogged graph limits prefix best later items
  pub walked : IsWalked graph limits before.capacity (undecided graph prefix) prefix
      (record { «open» = used before; reached = best.gain })
      (record { «open» = used after; reached = later.gain })

-- what the search of a prefix answers: its tree, or none where slots are wanting
abbrev pub IsSearchOf : FlowGraph → Limits → Prefix → Incumbent → Incumbent → BoundedMap LogNode → BoundedMap LogNode
    → Option Child → Type 0
IsSearchOf graph limits prefix best later before after root =
    MatchOption root (IsSpentAt graph limits prefix before after)
    (IsSearched graph limits prefix best later before after)

-- the terms are ready at some prefix, of which the node is the next
abbrev pub IsReadyFor : FlowGraph → Limits → PrefixTerms → List ℕ → Incumbent → ℕ → Type 0
IsReadyFor graph limits terms delays best node =
    (prefix : Prefix) × IsReady graph limits terms delays best prefix × IsTrue (is_next graph prefix node)

-- at each prefix of which the node is the next, what the search answers where the node is taken in
abbrev pub IsSearchWith : FlowGraph → Limits → PrefixTerms → List ℕ → ℕ → Incumbent → Incumbent → BoundedMap LogNode
    → BoundedMap LogNode → Option Child → Type 0
IsSearchWith graph limits terms delays node best later before after root =
    (prefix : Prefix) → IsReady graph limits terms delays best prefix → IsTrue (is_next graph prefix node)
    → IsSearchOf graph limits (true ∷ prefix) best later before after root

-- what is answered with a best cut, or none, and with a tree
abbrev pub found_at : Given → Child → Found
found_at (Some cut) root = variants.Best cut root
found_at None root = variants.NoCut root

abbrev pub answer_of : Option Child → Given → ℕ → Found
answer_of (Some root) best budget = found_at best root
answer_of None best budget = variants.Spent budget
