use Rattle.std.proofs.Common.{length}
use Rattle.ci_select.proofs.NewImageLaws.{blocks_of, insns_of}
use Rattle.ci_select.proofs.PatchLaws.{PatchesBlocks}
use Rattle.ci_select.proofs.rounds.Rounds.new_image.Given as goal

abbrev pub invariant-loop-block : goal.invariant-loop-block
invariant-loop-block l = PatchesBlocks l.image l.new (blocks_of l.self) (insns_of l.self) (length l.yielded)
