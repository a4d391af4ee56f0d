use Rattle.ci_elf.proofs.PartLaws.{first_from}
use Rattle.ci_elf.proofs.parts.first_overlap.Goals as goal

pub returns : goal.returns
returns c =
    first_from c.args.parts.now c.first_overlapping-earlier.result c.in_ok-later.later c.in_ok-later.ensures.below c.in_ok-later.ensures.apart
    c.in_ok-later.ensures.next c.first_overlapping-earlier.ensures.within c.first_overlapping-earlier.ensures.overlapping
    c.first_overlapping-earlier.ensures.apart
