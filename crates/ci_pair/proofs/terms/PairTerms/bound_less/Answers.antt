use Rattle.std.proofs.Common.{◌*◌, ◌^◌, ◌<◌, pos, ◌-ℤ◌, refl, sym, ◌∙◌, arith}
use Rattle.ci_cut.specs.Gain.{software}
use Rattle.ci_cut.specs.Ports.{size}
use Rattle.ci_cut.specs.Prefixes as cuts
use Rattle.ci_pair.specs.Pairs.{First, Second}
use Rattle.ci_pair.specs.Prefixes.{choices}
use Rattle.ci_pair.specs.private.States.{undecided, shared}
use Rattle.ci_pair.proofs.SetTests.{bound_small}
use Rattle.ci_pair.proofs.Numbers.{shared_software-few, shared_pads-few}
use Rattle.ci_pair.proofs.BoundSums.{bound_by_sets}
use Rattle.ci_pair.proofs.FallLaws.{less_fits}
use Rattle.ci_pair.proofs.terms.PairTerms.bound_less.Goals as goal

pub overflow_sub-result : goal.overflow_sub-result
overflow_sub-result c =
    let graph = c.args.graph.now in
    let some = c.requires in
    let cost : c.args.cost < 2 ^ 32 = omega arith in
    let one_longest : c.args.self.now.first.longest < 2 ^ 32 = omega arith in
    let two_longest : c.args.self.now.second.longest < 2 ^ 32 = omega arith in
    (less_fits (cuts.bound graph (choices First some.0)) (cuts.bound graph (choices Second some.0)) (shared graph some.0) c.bound.result
    (software graph (undecided graph some.0)) (size graph (undecided graph some.0) * graph.pad) c.args.cost c.from.result
    (bound_small graph (choices First some.0) c.args.self.now.first some.1.first some.2.first one_longest (omega (arith, c.read-read.ensures)) (omega (arith, c.pad-pad.ensures)))
    (bound_small graph (choices Second some.0) c.args.self.now.second some.1.second some.2.second two_longest (omega (arith, c.read-read.ensures)) (omega (arith, c.pad-pad.ensures)))
    refl (shared_software-few graph some.2.first.kept some.0) (shared_pads-few graph some.2.first.kept some.0 (omega (arith, c.pad-pad.ensures)))
    (bound_by_sets graph some.0 ∙ sym (c.bound.ensures some.0 some.1 some.2)) cost c.from.ensures).0

pub returns : goal.returns
returns c prefix delays represents =
    let graph = c.args.graph.now in
    let cost : c.args.cost < 2 ^ 32 = omega arith in
    let one_longest : c.args.self.now.first.longest < 2 ^ 32 = omega arith in
    let two_longest : c.args.self.now.second.longest < 2 ^ 32 = omega arith in
    (less_fits (cuts.bound graph (choices First prefix)) (cuts.bound graph (choices Second prefix)) (shared graph prefix) c.bound.result
    (software graph (undecided graph prefix)) (size graph (undecided graph prefix) * graph.pad) c.args.cost c.from.result
    (bound_small graph (choices First prefix) c.args.self.now.first delays.first represents.first one_longest (omega (arith, c.read-read.ensures)) (omega (arith, c.pad-pad.ensures)))
    (bound_small graph (choices Second prefix) c.args.self.now.second delays.second represents.second two_longest (omega (arith, c.read-read.ensures)) (omega (arith, c.pad-pad.ensures)))
    refl (shared_software-few graph represents.first.kept prefix) (shared_pads-few graph represents.first.kept prefix (omega (arith, c.pad-pad.ensures)))
    (bound_by_sets graph prefix ∙ sym (c.bound.ensures prefix delays represents)) cost c.from.ensures).1
    ∙ (λ i. c.bound.ensures prefix delays represents i -ℤ pos c.args.cost)
