use Rattle.ci_check.proofs.ChoiceLaws.{before_prefix, before_taken}
use Rattle.ci_check.proofs.rules.is_after_best.Goals as goal

pub returns-in-Some : goal.returns-in-Some
returns-in-Some c prefix delays represents =
    let good = rw c.in-Some.is at c.requires.measured.good in
    rw c.in-Some.is (
      λ e. before_prefix c.args.graph.now prefix c.args.terms.now delays represents _ good.0.eligible (c.comes_before.ensures.0 e),
      λ before. c.comes_before.ensures.1 (before_taken c.args.graph.now prefix c.args.terms.now delays represents _ before),
    )
