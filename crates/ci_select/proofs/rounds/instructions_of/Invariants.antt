use Rattle.std.proofs.Common.{◌≡◌, map, take}
use Rattle.ci_select.proofs.rounds.instructions_of.Given as goal

abbrev pub invariant-loop-block : goal.invariant-loop-block
invariant-loop-block l =
    map (λ insns. insns.items) l.present.items ≡ map (λ block. block.insns.items) (take l.block-index l.blocks)
