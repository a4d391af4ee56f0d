use Rattle.std.proofs.Common.{◌≡◌, ◌++◌, length, take}
use Rattle.ci_log.specs.Trees.{letters}
use Rattle.ci_log.proofs.writing.push_letters.Given as goal

abbrev pub invariant-loop-rest : goal.invariant-loop-rest
invariant-loop-rest l = l.text.items ++ letters l.rest ≡ l.initial.text.items ++ letters l.items

abbrev pub decreases-loop-rest : goal.decreases-loop-rest
decreases-loop-rest l = length l.rest

abbrev pub invariant-loop-item : goal.invariant-loop-item
invariant-loop-item l = l.text.items ≡ l.initial.text.items ++ letters (take l.item-index l.item-items)
