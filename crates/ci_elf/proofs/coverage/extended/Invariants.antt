use Rattle.ci_elf.proofs.CoverageLaws.{IsExtended}
use Rattle.ci_elf.proofs.coverage.extended.Given as goal

abbrev pub invariant-loop-part : goal.invariant-loop-part
invariant-loop-part l = IsExtended l.sorted l.part-index l.coverage.items l.end
