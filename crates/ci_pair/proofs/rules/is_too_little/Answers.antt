use Rattle.std.proofs.Common.{refl, ◌∙◌, rules, w64, SFits}
use Rattle.std.proofs.lemmas.Bool.{ne_eqb}
use Rattle.ci_pair.specs.PairSets.{given}
use Rattle.ci_pair.specs.Rules.{best_gain, IsAfterBest}
use Rattle.ci_cut.proofs.GainTests.{of_z_same, less_by_test, above_by_tests, decides_less, decides_at_same, decides_above}
use Rattle.ci_pair.proofs.rules.is_too_little.Goals as goal

pub returns-then-bound-best : goal.returns-then-bound-best
returns-then-bound-best c prefix delays represents =
    let bounded : SFits w64 c.args.bound = search rules in
    let gained : SFits w64 c.args.best.now.gain = search rules in
    decides_less c.args.bound (best_gain c.args.graph.now (given c.args.best.now.pair)) (IsAfterBest c.args.graph.now (given c.args.best.now.pair) prefix) _
    (less_by_test _ _ bounded gained c.if-bound-best.true refl c.requires.measured.gain_is)
    c.if-bound-best.true

pub returns-then-bound-best-2 : goal.returns-then-bound-best-2
returns-then-bound-best-2 c prefix delays represents =
    let bounded : SFits w64 c.args.bound = search rules in
    let gained : SFits w64 c.args.best.now.gain = search rules in
    let same = of_z_same _ _ bounded gained c.if-bound-best-2.true in
    decides_at_same c.args.bound (best_gain c.args.graph.now (given c.args.best.now.pair)) (IsAfterBest c.args.graph.now (given c.args.best.now.pair) prefix) _
    (same ∙ c.requires.measured.gain_is)
    (c.is_after_best.ensures prefix delays represents)

pub returns-else-bound-best-2 : goal.returns-else-bound-best-2
returns-else-bound-best-2 c prefix delays represents =
    let bounded : SFits w64 c.args.bound = search rules in
    let gained : SFits w64 c.args.best.now.gain = search rules in
    decides_above c.args.bound (best_gain c.args.graph.now (given c.args.best.now.pair)) (IsAfterBest c.args.graph.now (given c.args.best.now.pair) prefix) _
    (above_by_tests _ _ bounded gained c.if-bound-best.false c.if-bound-best-2.false refl
    c.requires.measured.gain_is)
    (ne_eqb _ _ c.if-bound-best-2.false)
