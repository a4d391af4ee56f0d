use Rattle.std.proofs.Common.{◌≡◌, ◌↔◌, IsTrue, subst}
use Rattle.std.specs.FinSet as set
use Rattle.ci_cut.specs.Gain.{Fits}
use Rattle.ci_pair.specs.Pairs.{HasGreatest, First, Second}
use Rattle.ci_pair.specs.Prefixes.{labelled}
use Rattle.ci_pair.proofs.PrefixLaws.{chosen_completes}
use Rattle.ci_pair.proofs.SetTests.{both_tests, both_as, not_test, some_test, through}
use Rattle.ci_pair.proofs.rules.fit_so_far.Goals as goal

pub returns : goal.returns
returns c prefix delays represents =
    let graph = c.args.graph.now in
    let terms = c.args.terms.now in
    let limits = c.args.limits.now in
    let first : set.contains terms.first.taken ≡ labelled graph First prefix = λ i k. represents.first.is_taken k i in
    let second : set.contains terms.second.taken ≡ labelled graph Second prefix = λ i k. represents.second.is_taken k i in
    let parts = both_tests _ _
    (both_tests c.is_some-first.result c.is_some-second.result
    (subst (λ s. IsTrue c.is_some-first.result ↔ Fits graph limits s) first
    (some_test _ _ _ c.is_some-first.result c.is_some-first.ensures c.fitting_gain.ensures))
    (subst (λ s. IsTrue c.is_some-second.result ↔ Fits graph limits s) second
    (some_test _ _ _ c.is_some-second.result c.is_some-second.ensures c.fitting_gain-2.ensures)))
    (both_tests c.has_greatest.result _
    (both_as (λ s t. IsTrue c.has_greatest.result ↔ HasGreatest s t) first second c.has_greatest.ensures)
    (not_test c.is_crossing.result (c.is_crossing.ensures graph prefix delays represents))) in
    through parts (
      λ ((fits, also), (greatest, uncrossed)). record {
        first_fits = fits;
        second_fits = also;
        disjoint = (chosen_completes graph prefix).disjoint;
        has_greatest = greatest;
        uncrossed = uncrossed;
      },
      λ together. ((together.first_fits, together.second_fits), (together.has_greatest, together.uncrossed)),
    )
