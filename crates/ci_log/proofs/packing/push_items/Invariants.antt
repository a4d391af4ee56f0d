use Rattle.std.proofs.Common.{◌≤◌, take}
use Rattle.ci_log.specs.private.Packing.{IsHalf, nothing, Writes}
use Rattle.ci_log.proofs.packing.push_items.Given as goal

abbrev pub invariant-loop-item : goal.invariant-loop-item
invariant-loop-item l =
    Writes l.initial.text.items nothing (take l.item-index l.items) l.text.items l.waiting × IsHalf l.waiting.high × (l.waiting.more ≤ l.item-index)
