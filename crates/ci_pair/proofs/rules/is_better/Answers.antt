use Rattle.std.proofs.Common.{◌≡◌, ◌↔◌, ◌≤◌, Bool, ◌⊎◌, IsTrue, length, sym, ◌∙◌, subst, arith, rules, w64, SFits, ◌<ℤ◌, true≢false}
use Rattle.std.proofs.lemmas.Bool.{ne_eqb}
use Rattle.ci_cut.specs.declared.graph.Limits.{Limits}
use Rattle.ci_cut.specs.FlowGraph.{FlowGraph}
use Rattle.ci_cut.specs.Prefixes as cuts
use Rattle.ci_pair.specs.Pairs.{NodePair, FitTogether, pair_gain, First}
use Rattle.ci_pair.specs.Prefixes.{PairPrefix, chosen}
use Rattle.ci_pair.specs.PairSets.{given}
use Rattle.ci_pair.specs.private.States.{Represents}
use Rattle.ci_pair.specs.declared.terms.PairTerms.{PairTerms}
use Rattle.ci_pair.specs.declared.terms.PairDelays.{PairDelays}
use Rattle.ci_pair.specs.Rules.{Given, best_gain, IsBeforeBest, IsBetter}
use Rattle.ci_pair.proofs.PrefixLaws.{length-choices}
use Rattle.ci_pair.proofs.ChoiceLaws.{whole_pair_gain}
use Rattle.ci_cut.proofs.GainTests.{of_z_same, less_by_test, above_by_tests, decides_less, decides_at_same, decides_above}
use Rattle.ci_pair.proofs.rules.is_better.Goals as goal

-- a pair that fits together is better if its gain, or else the order, says so
by_gain : (graph : FlowGraph) (limits : Limits) (best : Given) (pair : NodePair) (result : Bool) → FitTogether graph limits pair
    → IsTrue result ↔ ((best_gain graph best <ℤ pair_gain graph pair) ⊎ ((best_gain graph best ≡ pair_gain graph pair) × IsBeforeBest best pair))
    → IsTrue result ↔ IsBetter graph limits best pair
by_gain graph limits best pair result fit decides = (λ e. record { fit = fit; more = decides.0 e }, λ better. decides.1 better.more)

-- one choice that the terms represent is whole where another is
also_whole : (graph : FlowGraph) (terms : PairTerms) (one prefix : PairPrefix) (held delays : PairDelays) → Represents graph one terms held
    → Represents graph prefix terms delays → cuts.eligible_nodes graph ≤ length one → cuts.eligible_nodes graph ≤ length prefix
also_whole graph terms one prefix held delays first second whole =
    omega (arith, whole, first.first.decided, second.first.decided, length-choices First one, length-choices First prefix)

pub returns-then-not-fit_so_far : goal.returns-then-not-fit_so_far
returns-then-not-fit_so_far c prefix delays represents = (
  λ e. absurd (true≢false (sym e)),
  λ better. absurd (true≢false (sym ((c.fit_so_far.ensures prefix delays represents).1 better.fit) ∙ c.if-not-fit_so_far.true)),
)

pub returns-then-gained-best : goal.returns-then-gained-best
returns-then-gained-best c prefix delays represents =
    let graph = c.args.graph.now in
    let some = c.requires.whole in
    let whole = also_whole graph c.args.terms.now some.0 prefix some.1 delays some.2 represents some.3 in
    let before : SFits w64 c.args.best.now.gain = search rules in
    let now : SFits w64 c.bound-gained.result = search rules in
    let is = c.bound-gained.ensures prefix delays represents ∙ whole_pair_gain graph prefix whole in
    by_gain graph c.args.limits.now (given c.args.best.now.pair) (chosen graph prefix) _
    ((c.fit_so_far.ensures prefix delays represents).0 c.if-not-fit_so_far.false)
    (decides_less _ _ _ _ (less_by_test _ _ before now c.if-gained-best.true c.requires.measured.gain_is is) c.if-gained-best.true)

pub returns-then-gained-best-2 : goal.returns-then-gained-best-2
returns-then-gained-best-2 c prefix delays represents =
    let graph = c.args.graph.now in
    let some = c.requires.whole in
    let whole = also_whole graph c.args.terms.now some.0 prefix some.1 delays some.2 represents some.3 in
    let before : SFits w64 c.args.best.now.gain = search rules in
    let now : SFits w64 c.bound-gained.result = search rules in
    let is = c.bound-gained.ensures prefix delays represents ∙ whole_pair_gain graph prefix whole in
    by_gain graph c.args.limits.now (given c.args.best.now.pair) (chosen graph prefix) _
    ((c.fit_so_far.ensures prefix delays represents).0 c.if-not-fit_so_far.false)
    (decides_at_same _ _ _ _
    (sym c.requires.measured.gain_is ∙ sym (of_z_same _ _ now before c.if-gained-best-2.true) ∙ is)
    (subst (λ p. IsTrue c.is_before_best.result ↔ IsBeforeBest (given c.args.best.now.pair) p)
    (c.chosen.ensures graph prefix delays represents) c.is_before_best.ensures))

pub returns-else-gained-best-2 : goal.returns-else-gained-best-2
returns-else-gained-best-2 c prefix delays represents =
    let graph = c.args.graph.now in
    let some = c.requires.whole in
    let whole = also_whole graph c.args.terms.now some.0 prefix some.1 delays some.2 represents some.3 in
    let before : SFits w64 c.args.best.now.gain = search rules in
    let now : SFits w64 c.bound-gained.result = search rules in
    let is = c.bound-gained.ensures prefix delays represents ∙ whole_pair_gain graph prefix whole in
    by_gain graph c.args.limits.now (given c.args.best.now.pair) (chosen graph prefix) _
    ((c.fit_so_far.ensures prefix delays represents).0 c.if-not-fit_so_far.false)
    (decides_above _ _ _ _
    (above_by_tests _ _ before now c.if-gained-best.false (λ same. c.if-gained-best-2.false (sym same)) c.requires.measured.gain_is is)
    (ne_eqb _ _ c.if-gained-best-2.false))
