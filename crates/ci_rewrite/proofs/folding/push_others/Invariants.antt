use Rattle.std.specs.Prelude.{not}
use Rattle.std.specs.FinSet as set
use Rattle.ci_rewrite.proofs.FoldLaws.{PutBelow}
use Rattle.ci_rewrite.proofs.folding.push_others.Given as goal

abbrev pub invariant-loop-k : goal.invariant-loop-k
invariant-loop-k l = PutBelow l.insns l.fn.list.items (λ k. not (set.contains l.numbers k)) l.list.items l.k
