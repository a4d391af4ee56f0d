use Rattle.std.proofs.Common.{subst, IsTrue}
use Rattle.std.specs.FinSet as set
use Rattle.ci_pair.specs.Pairs.{label_of}
use Rattle.ci_pair.proofs.OrderLaws.{in_left, in_right}
use Rattle.ci_pair.proofs.pair.differences.Goals as goal

pub returns : goal.returns
returns c k out =
    let neither = subst (λ s. ¬ IsTrue (set.contains s k)) c.union.ensures.value out in
    (λ i. label_of
    (c.differing-firsts.ensures k (λ in_. neither (in_left c.differing-firsts.result c.differing-seconds.result k in_)) i)
    (c.differing-seconds.ensures k (λ in_. neither (in_right c.differing-firsts.result c.differing-seconds.result k in_)) i))
