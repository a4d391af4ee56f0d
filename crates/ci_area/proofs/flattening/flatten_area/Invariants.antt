use Rattle.std.proofs.Common.{List, ◌+◌, ◌-◌, ◌*◌, length}
use Rattle.ci_region.specs.BoundedMap.{used}
use Rattle.ci_region.specs.private.TreeReading.{IsReadUpTo}
use Rattle.ci_area.specs.declared.log.AreaItem.{AreaItem}
use Rattle.ci_area.specs.AreaRegionTrees.{Slots, IsTreeIn, area_tree}
use Rattle.ci_area.proofs.flattening.flatten_area.Given as goal

abbrev pub invariant-loop-child : goal.invariant-loop-child
invariant-loop-child l =
    (listed : List AreaItem) (rest : Slots) → IsTreeIn l.region.values l.fn.root listed rest
    → IsReadUpTo area_tree l.region.values l.waiting.items l.items.items listed

-- each round reads an item, of at most so many
abbrev pub decreases-loop-child : goal.decreases-loop-child
decreases-loop-child l = 2 * used l.region + 1 - length l.items.items
