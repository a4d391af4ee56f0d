use Rattle.std.proofs.Common.{◌≡◌, map, take}
use Rattle.ci_live.proofs.live_sets.leaders_of.Given as goal

abbrev pub invariant-loop-block : goal.invariant-loop-block
invariant-loop-block l = l.leaders.items ≡ map (λ block. block.leader) (take l.block-index l.blocks)
