use Rattle.std.proofs.Common.{ℕ, ◌+◌, ◌<◌, IsTrue, sym, subst, arith}
use Rattle.std.specs.FinSet as set
use Rattle.ci_cut.proofs.SetLaws.{below_empty, below_insert}
use Rattle.ci_unit_tests.proofs.unit.all_below.Goals as goal

pub loop-k-init : goal.loop-k-init
loop-k-init c = subst (λ row. (j : ℕ) → IsTrue (set.contains row j) → j < 0) (sym c.empty-row.ensures) (below_empty 0)

pub loop-k-preserved : goal.loop-k-preserved
loop-k-preserved c =
    subst (λ row. (j : ℕ) → IsTrue (set.contains row j) → j < c.loop-k.k + 1) (sym c.insert.ensures)
    (below_insert c.loop-k.row c.loop-k.k (c.loop-k.k + 1)
    (λ j is. omega (arith, c.loop-k.invariant j is)) (omega arith))
