use Rattle.std.proofs.Common.{take}
use Rattle.ci_rename.specs.private.FilesSoFar.{AreRenamedSoFar}
use Rattle.ci_rename.proofs.file.rename.Given as goal

abbrev pub invariant-loop-block : goal.invariant-loop-block
invariant-loop-block l = AreRenamedSoFar l.image l.new l.live (take l.block-index l.blocks) l.values l.changed
