use Rattle.std.proofs.Common.{◌↔◌, ℤ, IsTrue, subst, ◌∙◌, rules, w64, SFits}
use Rattle.std.proofs.lemmas.Int.{to_z-of_z}
use Rattle.ci_pair.specs.PairSets.{given}
use Rattle.ci_pair.specs.private.Judged.{IsTooLittle}
use Rattle.ci_pair.proofs.rules.gains_too_little.Goals as goal

pub returns : goal.returns
returns c prefix delays represents =
    let fits : SFits w64 c.bound.result = search rules in
    subst (λ (z : ℤ). IsTrue c.is_too_little.result ↔ IsTooLittle c.args.graph.now (given c.args.best.now.pair) prefix z)
    (to_z-of_z w64 c.bound.result fits ∙ c.bound.ensures prefix delays represents) (c.is_too_little.ensures prefix delays represents)
