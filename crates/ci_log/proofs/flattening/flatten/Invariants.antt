use Rattle.std.proofs.Common.{List, [], ◌∷◌, ◌++◌, ◌+◌, ◌-◌, ◌*◌, length}
use Rattle.ci_region.specs.BoundedMap.{used}
use Rattle.ci_region.specs.private.TreeReading.{IsReadUpTo}
use Rattle.ci_log.specs.declared.log.Item.{Item}
use Rattle.ci_log.specs.declared.flattening.Child.TheVariants.{Inner}
use Rattle.ci_log.specs.RegionTrees.{Slots, IsTreeIn, log_tree}
use Rattle.ci_log.proofs.flattening.flatten.Given as goal

abbrev pub invariant-loop-waiting : goal.invariant-loop-waiting
invariant-loop-waiting l =
    (listed : List Item) (rest : Slots) → IsTreeIn l.region.values l.fn.root listed rest
    → IsReadUpTo log_tree l.region.values (l.waiting.items ++ Inner l.slot ∷ []) l.items.items listed

-- each round reads an item, of at most so many
abbrev pub decreases-loop-waiting : goal.decreases-loop-waiting
decreases-loop-waiting l = 2 * used l.region + 1 - length l.items.items
