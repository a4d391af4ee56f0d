use Rattle.ci_block.specs.private.Stretches.{AreInsns}
use Rattle.ci_block.proofs.blocks.insns_from.Given as goal

abbrev pub invariant-loop-word : goal.invariant-loop-word
invariant-loop-word l = AreInsns l.image l.start l.word l.insns.items
