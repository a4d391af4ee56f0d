use Rattle.std.proofs.Common.{◌≡◌, ◌+◌, ◌-◌, ◌≤◌, ◌++◌, replicate}
use Rattle.std.specs.FinSet as set
use Rattle.ci_cut.specs.Gain.{further_words}
use Rattle.ci_cut.specs.Ports.{size}
use Rattle.ci_rewrite.specs.FoldedBlock.{no_op}
use Rattle.ci_rewrite.proofs.folding.push_no_ops.Given as goal

abbrev pub invariant-loop : goal.invariant-loop
invariant-loop l =
    let cut = set.contains l.cut in
    let first = 1 + further_words l.graph cut in
    record {
      from : first ≤ l.counter;
      within : l.counter ≤ size l.graph cut;
      put : l.list.items ≡ l.fn.list.items ++ replicate (l.counter - first) no_op;
    }
