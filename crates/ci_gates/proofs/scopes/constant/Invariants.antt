use Rattle.ci_gates.proofs.LowBitLaws.{AreLowBits}
use Rattle.ci_gates.proofs.scopes.constant.Given as goal

abbrev pub invariant-loop-k : goal.invariant-loop-k
invariant-loop-k l = AreLowBits (λ arguments. l.value) l.bits.items l.k
