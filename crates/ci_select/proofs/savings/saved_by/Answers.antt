use Rattle.std.proofs.Common.{◌∙◌, sym, ap, subst, arith}
use Rattle.std.specs.List.{sum_by}
use Rattle.std.proofs.lemmas.List.{take_all}
use Rattle.std.proofs.lemmas.List.Sums.{sum_by_more_le_part}
use Rattle.ci_select.specs.Savings.{IsSavedBy}
use Rattle.ci_select.specs.Takes.{cycles_of}
use Rattle.ci_select.proofs.TakenSavings.{at_most_all, cycles_by, saved_in_order}
use Rattle.ci_select.proofs.savings.saved_by.Goals as goal

pub overflow_add-saved : goal.overflow_add-saved
overflow_add-saved c = omega (
  arith,
  sum_by_more_le_part (cycles_by c.args.unit) cycles_of c.args.takes.now c.loop-taken.taken-index c.taken-item.result
      c.loop-taken-test.true (at_most_all c.args.unit),
  ap cycles_of c.taken-item.is,
)

pub returns : goal.returns
returns c = λ instance history are.
    let whole = ap (sum_by (cycles_by c.args.unit)) (take_all c.loop-taken.taken-index c.args.takes.now c.loop-taken-test.false) in
    subst (IsSavedBy instance c.args.unit history) (sym (c.loop-taken.invariant ∙ whole))
    (saved_in_order instance history c.args.takes.now c.args.unit are)
