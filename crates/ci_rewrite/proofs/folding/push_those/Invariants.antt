use Rattle.std.specs.FinSet as set
use Rattle.ci_rewrite.proofs.FoldLaws.{PutBelow}
use Rattle.ci_rewrite.proofs.folding.push_those.Given as goal

abbrev pub invariant-loop-k : goal.invariant-loop-k
invariant-loop-k l = PutBelow l.insns l.fn.list.items (set.contains l.numbers) l.list.items l.k
