use Rattle.std.proofs.Common.{◌≡◌, ◌↔◌, IsTrue}
use Rattle.std.specs.FinSet as set
use Rattle.ci_pair.specs.Pairs.{HasGreatest, First, Second}
use Rattle.ci_pair.specs.Prefixes.{labelled}
use Rattle.ci_pair.proofs.SetTests.{both_as}
use Rattle.ci_pair.proofs.terms.PairTerms.is_mirrored.Goals as goal

pub returns : goal.returns
returns c graph prefix delays represents =
    let second : set.contains c.args.self.now.second.taken ≡ labelled graph Second prefix = λ i k. represents.second.is_taken k i in
    let first : set.contains c.args.self.now.first.taken ≡ labelled graph First prefix = λ i k. represents.first.is_taken k i in
    both_as (λ s t. IsTrue c.has_greatest.result ↔ HasGreatest s t) second first c.has_greatest.ensures
