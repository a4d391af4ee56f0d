use Rattle.ci_elf.proofs.WordPlaceLaws.{AreFirstsBelow}
use Rattle.ci_elf.proofs.places.Places.new.Given as goal

abbrev pub invariant-loop-range : goal.invariant-loop-range
invariant-loop-range l = AreFirstsBelow l.text l.range-index l.firsts.items l.count
