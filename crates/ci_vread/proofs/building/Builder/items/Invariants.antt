use Rattle.std.proofs.Common.{◌-◌, drop}
use Rattle.ci_vread.specs.private.Building.{left, begins_item, item_of, items_of}
use Rattle.ci_vread.proofs.ManyTokens.{IsReadUpTo}
use Rattle.ci_vread.proofs.building.Builder.items.Given as goal

abbrev pub invariant-loop-count : goal.invariant-loop-count
invariant-loop-count l =
    IsReadUpTo begins_item (λ k rest. item_of (drop 1 rest)) (64 - l._count) l._count l.items (left l.self)
    (items_of (left l.fn.self))
