use Rattle.std.proofs.Common.{◌≡◌, map, take}
use Rattle.ci_isa.specs.Effects.{without_x0}
use Rattle.ci_dfg.specs.BlockGraph.{source_of}
use Rattle.ci_dfg.proofs.operand_sources.sources.Given as goal

abbrev pub invariant-loop-register : goal.invariant-loop-register
invariant-loop-register l =
    l.sources ≡ map (source_of l.insns l.k) (without_x0 (take l.register-index l.register-items))
