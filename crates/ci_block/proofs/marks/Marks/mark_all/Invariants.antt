use Rattle.std.proofs.Common.{take}
use Rattle.std.specs.List.{Contains}
use Rattle.ci_block.specs.private.Marks.{Adds}
use Rattle.ci_block.proofs.marks.Marks.mark_all.Given as goal

abbrev pub invariant-loop-address : goal.invariant-loop-address
invariant-loop-address l = Adds l.initial.self l.self (λ a. Contains (take l.address-index l.addresses) a)
