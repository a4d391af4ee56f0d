use Rattle.ci_gates.specs.private.Wired.{AreInputs}
use Rattle.ci_gates.proofs.modules.input_words.Given as goal

abbrev pub invariant-loop-input : goal.invariant-loop-input
invariant-loop-input l = AreInputs l.words.items l.input
