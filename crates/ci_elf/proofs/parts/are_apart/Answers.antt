use Rattle.std.proofs.Common.{get_or, refl, sym, arith, true≢false}
use Rattle.ci_elf.proofs.PartLaws.{no_part, so_far_none, so_far_more, so_far_empty, overlaps_earlier}
use Rattle.ci_elf.proofs.parts.are_apart.Goals as goal
use Rattle.ci_elf.proofs.parts.are_apart.Goals.{then-part+else-part-end, else-part}

pub loop-part-init : goal.loop-part-init
loop-part-init c = so_far_none c.args.parts.now

pub loop-part-preserved : goal.loop-part-preserved
loop-part-preserved c =
    elim c.if-part.branch [
      | then-part+else-part-end w ↦ rw w.end-is
          (so_far_more c.args.parts.now c.loop-part.part-index c.loop-part.end (get_or c.args.parts.now c.loop-part.part-index no_part)
          c.loop-part-test.true refl w.if-part.true w.if-part-end.false c.loop-part.invariant)
      | else-part w ↦ rw w.end-is
          (so_far_empty c.args.parts.now c.loop-part.part-index c.loop-part.end (get_or c.args.parts.now c.loop-part.part-index no_part)
          c.loop-part-test.true refl w.if-part.false c.loop-part.invariant)
    ]

pub returns-then-part-end : goal.returns-then-part-end
returns-then-part-end c = (
  (λ is. absurd (true≢false (sym is))),
  (λ apart. absurd (overlaps_earlier c.args.parts.now c.loop-part.part-index c.loop-part.end (get_or c.args.parts.now c.loop-part.part-index no_part)
      c.loop-part-test.true refl c.requires c.loop-part.invariant c.if-part.true c.if-part-end.true apart)),
)

pub returns : goal.returns
returns c = ((λ _ i j d h l. c.loop-part.invariant.apart i j d h (omega arith)), (λ _. refl))
