use Rattle.ci_block.specs.Patches.{PatchesWords}
use Rattle.ci_block.proofs.patching.patch_block.Given as goal

abbrev pub invariant-loop-k : goal.invariant-loop-k
invariant-loop-k l = PatchesWords l.initial.image l.image l.leader l.insns l.k
