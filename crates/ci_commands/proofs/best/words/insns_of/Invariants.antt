use Rattle.ci_commands.proofs.WordLaws.{IsReadTo}
use Rattle.ci_commands.proofs.best.words.insns_of.Given as goal

abbrev pub invariant-loop-place : goal.invariant-loop-place
invariant-loop-place l = IsReadTo l.bytes l.insns.items l.place
