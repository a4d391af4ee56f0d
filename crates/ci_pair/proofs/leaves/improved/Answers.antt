use Rattle.std.proofs.Common.{◌≡◌, ℤ, ap, inl, inr, refl, sym, subst, ◌∙◌, true≢false, rules, w64, SFits, ◌≤ℤ◌}
use Rattle.std.proofs.lemmas.Int.{to_z-of_z}
use Rattle.ci_cut.specs.FlowGraph.{FlowGraph}
use Rattle.ci_pair.specs.declared.pair.Pair.{Pair}
use Rattle.ci_pair.specs.declared.terms.PairTerms.{PairTerms}
use Rattle.ci_pair.specs.declared.terms.PairDelays.{PairDelays}
use Rattle.ci_pair.specs.Pairs.{FitTogether, pair_gain}
use Rattle.ci_pair.specs.Prefixes.{PairPrefix, chosen}
use Rattle.ci_pair.specs.PairSets.{sets}
use Rattle.ci_pair.specs.private.States.{Represents}
use Rattle.ci_cut.proofs.GainTests.{less_by_test, not_less_by_test}
use Rattle.ci_pair.proofs.ChoiceLaws.{whole_pair_gain, also_whole}
use Rattle.ci_pair.proofs.leaves.improved.Goals as goal

abbrev pair_of : PairTerms → Pair
pair_of terms = record { first = terms.first.taken; second = terms.second.taken }

same_pair : (graph : FlowGraph) (prefix : PairPrefix) (terms : PairTerms) (delays : PairDelays) → Represents graph prefix terms delays
    → sets (pair_of terms) ≡ chosen graph prefix
same_pair graph prefix terms delays represents = λ i. record {
  first = λ k. represents.first.is_taken k i;
  second = λ k. represents.second.is_taken k i;
}

pub returns-then-not-fit_so_far : goal.returns-then-not-fit_so_far
returns-then-not-fit_so_far c prefix delays represents =
    let same = same_pair c.args.graph.now prefix c.args.terms.now delays represents in (
      pair_of c.args.terms.now,
      same,
      inl (refl, λ fit. absurd (true≢false (sym ((c.fit_so_far.ensures prefix delays represents).1 (subst (FitTogether c.args.graph.now c.args.limits.now) same fit)) ∙ c.if-not-fit_so_far.true))),
    )

pub returns-then-gain-best : goal.returns-then-gain-best
returns-then-gain-best c prefix delays represents =
    let graph = c.args.graph.now in
    let some = c.requires in
    let whole = also_whole graph c.args.terms.now some.0 prefix some.1 delays some.2 represents some.3 in
    let before : SFits w64 c.args.best.now.gain = search rules in
    let now : SFits w64 c.bound-gain.result = search rules in
    let same = c.chosen.ensures graph prefix delays represents in
    let is = c.bound-gain.ensures prefix delays represents ∙ whole_pair_gain graph prefix whole in (
      c.chosen.result,
      same,
      inr (
        refl,
        subst (FitTogether graph c.args.limits.now) (sym same) ((c.fit_so_far.ensures prefix delays represents).0 c.if-not-fit_so_far.false),
        to_z-of_z w64 c.bound-gain.result now ∙ is ∙ ap (pair_gain graph) (sym same),
        less_by_test _ _ before now c.if-gain-best.true refl (sym (to_z-of_z w64 c.bound-gain.result now)),
      ),
    )

pub returns-else-gain-best : goal.returns-else-gain-best
returns-else-gain-best c prefix delays represents =
    let graph = c.args.graph.now in
    let some = c.requires in
    let whole = also_whole graph c.args.terms.now some.0 prefix some.1 delays some.2 represents some.3 in
    let before : SFits w64 c.args.best.now.gain = search rules in
    let now : SFits w64 c.bound-gain.result = search rules in
    let same = same_pair graph prefix c.args.terms.now delays represents in
    let is = c.bound-gain.ensures prefix delays represents ∙ whole_pair_gain graph prefix whole in (
      pair_of c.args.terms.now,
      same,
      inl (refl, λ _. subst (λ p. pair_gain graph p ≤ℤ c.args.best.now.gain) (sym same) (subst (λ (z : ℤ). z ≤ℤ c.args.best.now.gain) is (not_less_by_test _ _ before now c.if-gain-best.false))),
    )
