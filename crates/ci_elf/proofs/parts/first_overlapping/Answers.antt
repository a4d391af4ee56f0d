use Rattle.std.proofs.Common.{below_more, arith}
use Rattle.std.proofs.lemmas.Bool.Decides.{not_from_Decides}
use Rattle.ci_elf.proofs.PartLaws.{overlap_read, apart_read}
use Rattle.ci_elf.proofs.parts.first_overlapping.Goals as goal

pub returns-then-overlaps-clause-overlapping : goal.returns-then-overlaps-clause-overlapping
returns-then-overlaps-clause-overlapping c below =
    overlap_read c.args.parts.now c.loop-k.k c.args.n (omega arith) c.requires (c.overlaps.ensures.0 c.if-overlaps.true)

pub loop-k-preserved : goal.loop-k-preserved
loop-k-preserved c =
    below_more _ _ c.loop-k.invariant
    (apart_read c.args.parts.now c.loop-k.k c.args.n (omega arith) c.requires (not_from_Decides _ c.overlaps.ensures c.if-overlaps.false))
