use Rattle.ci_elf.proofs.PartLaws.{IsApartSoFar}
use Rattle.ci_elf.proofs.parts.are_apart.Given as goal

abbrev pub invariant-loop-part : goal.invariant-loop-part
invariant-loop-part l = IsApartSoFar l.parts l.part-index l.end
