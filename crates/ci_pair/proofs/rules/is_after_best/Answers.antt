use Rattle.std.proofs.Common.{sym, subst}
use Rattle.ci_pair.specs.PairSets.{ComesBeforeFrom}
use Rattle.ci_pair.proofs.ChoiceLaws.{before_prefix, before_chosen}
use Rattle.ci_pair.proofs.rules.is_after_best.Goals as goal

pub returns-in-Some : goal.returns-in-Some
returns-in-Some c prefix delays represents =
    let graph = c.args.graph.now in
    let terms = c.args.terms.now in
    let good = rw c.in-Some.is at c.requires.measured.good in
    let same = c.chosen.ensures graph prefix delays represents in
    rw c.in-Some.is (
      λ e. before_prefix graph prefix terms delays represents _ good.0.first_fits.eligible good.0.second_fits.eligible
          (subst (ComesBeforeFrom terms.first.place _) same (c.comes_before.ensures.0 e)),
      λ before. c.comes_before.ensures.1 (subst (ComesBeforeFrom terms.first.place _) (sym same)
          (before_chosen graph prefix terms delays represents _ good.0.first_fits.eligible good.0.second_fits.eligible before)),
    )
