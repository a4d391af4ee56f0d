use Rattle.std.proofs.Common.{true≢false, sym, ap, ◌∙◌}
use Rattle.std.specs.FinSet as set
use Rattle.std.specs.Ordering.{nat_cmp}
use Rattle.ci_cut.proofs.BestOfTries.{best_of_tries}
use Rattle.ci_cut.proofs.choice.best_of_all.Goals as goal

pub try_below-requires-clause-decided : goal.try_below-requires-clause-decided
try_below-requires-clause-decided c k here =
    absurd (true≢false (sym here ∙ (ap (λ s. set.contains s k) c.empty.ensures ∙ set.contains-empty nat_cmp k)))

pub returns : goal.returns
returns c = best_of_tries _ _ _ (rw (c.nodes.ensures.value, c.empty.ensures) at c.try_below.ensures)
