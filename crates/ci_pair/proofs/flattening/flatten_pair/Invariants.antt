use Rattle.std.proofs.Common.{List, ◌+◌, ◌-◌, ◌*◌, length}
use Rattle.ci_region.specs.BoundedMap.{used}
use Rattle.ci_region.specs.private.TreeReading.{IsReadUpTo}
use Rattle.ci_pair.specs.declared.log.PairItem.{PairItem}
use Rattle.ci_pair.specs.RegionTrees.{Slots, IsTreeIn, pair_tree}
use Rattle.ci_pair.proofs.flattening.flatten_pair.Given as goal

abbrev pub invariant-loop-child : goal.invariant-loop-child
invariant-loop-child l =
    (listed : List PairItem) (rest : Slots) → IsTreeIn l.region.values l.fn.root listed rest
    → IsReadUpTo pair_tree l.region.values l.waiting.items l.items.items listed

-- each round reads an item, of at most so many
abbrev pub decreases-loop-child : goal.decreases-loop-child
decreases-loop-child l = 3 * used l.region + 1 - length l.items.items
