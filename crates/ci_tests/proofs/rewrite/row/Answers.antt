use Rattle.std.proofs.Common.{ℕ, ◌<◌, IsTrue, get_or, sym, subst, arith}
use Rattle.std.specs.FinSet as set
use Rattle.ci_cut.proofs.SetLaws.{below_empty, below_insert}
use Rattle.ci_tests.proofs.rewrite.row.Goals as goal

pub loop-n-init : goal.loop-n-init
loop-n-init g c =
    subst (λ row. (k : ℕ) → IsTrue (set.contains row k) → k < c.args.count) (sym c.empty-row.ensures)
    (below_empty c.args.count)

pub loop-n-preserved : goal.loop-n-preserved
loop-n-preserved g c =
    subst (λ row. (k : ℕ) → IsTrue (set.contains row k) → k < c.args.count) (sym c.insert.ensures)
    (below_insert c.loop-n.row (get_or c.args.numbers.now c.loop-n.n-index 0) c.args.count c.loop-n.invariant
    (omega arith))
