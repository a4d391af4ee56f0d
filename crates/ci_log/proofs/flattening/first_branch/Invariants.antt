use Rattle.std.proofs.Common.{List, [], ◌∷◌, ◌++◌, ◌≤◌, length}
use Rattle.ci_region.specs.private.TreeReading.{IsReadUpTo}
use Rattle.ci_log.specs.declared.log.Item.{Item}
use Rattle.ci_log.specs.RegionTrees.{Slots, log_tree}
use Rattle.ci_log.proofs.flattening.first_branch.Given as goal

pub record IsListedFrom (l : goal.Live-loop-child) : Type 0 where
  pub listed : (slots : Slots) (all : List Item)
      → IsReadUpTo log_tree slots (l.fn.waiting.items ++ l.fn.child ∷ []) l.fn.items.items all
      → IsReadUpTo log_tree slots (l.waiting.items ++ l.child ∷ []) l.items.items all
  pub longer : length l.fn.items.items ≤ length l.items.items

abbrev pub invariant-loop-child : goal.invariant-loop-child
invariant-loop-child l = IsListedFrom l

abbrev pub decreases-loop-child : goal.decreases-loop-child
decreases-loop-child l = goal.left-loop-child l
