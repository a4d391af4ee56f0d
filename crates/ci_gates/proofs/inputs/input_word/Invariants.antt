use Rattle.std.proofs.Common.{slice_index}
use Rattle.ci_gates.proofs.LowBitLaws.{AreLowBits}
use Rattle.ci_gates.proofs.inputs.input_word.Given as goal

abbrev pub invariant-loop-k : goal.invariant-loop-k
invariant-loop-k l = AreLowBits (λ arguments. slice_index arguments l.input) l.bits.items l.k
