use Rattle.std.proofs.Common.{◌∙◌, subst, IsTrue}
use Rattle.std.specs.FinSet as set
use Rattle.ci_pair.proofs.OrderLaws.{same_outside}
use Rattle.ci_pair.proofs.pair.differing.Goals as goal

pub returns : goal.returns
returns c k out =
    same_outside c.args.first.now c.args.second.now k
    (subst (λ s. ¬ IsTrue (set.contains s k))
    (c.union.ensures.value ∙ (λ i. set.union (c.minus.ensures.value i) (c.minus-2.ensures.value i))) out)
