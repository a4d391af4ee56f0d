use Rattle.ci_gates.specs.private.Wired.{AreWords}
use Rattle.ci_gates.proofs.modules.words_of.Given as goal

abbrev pub invariant-loop-k : goal.invariant-loop-k
invariant-loop-k l = AreWords l.fn.module l.builder l.words.items l.k
