use Rattle.std.proofs.Common.{◌*◌, ◌^◌, ◌<◌, sym, ◌∙◌, subst, arith, ◌+ℤ◌, ◌-ℤ◌}
use Rattle.ci_cut.specs.Gain.{software}
use Rattle.ci_cut.specs.Ports.{size}
use Rattle.ci_pair.specs.Pairs.{First, Second}
use Rattle.ci_pair.specs.Prefixes.{choices}
use Rattle.ci_pair.specs.private.States.{undecided}
use Rattle.ci_pair.proofs.SetTests.{IsSmall, bound_small, sum_fits, rest_fits, rest_is}
use Rattle.ci_pair.proofs.Numbers.{shared_software-few, shared_pads-few}
use Rattle.ci_pair.proofs.BoundSums.{bound_by_sets}
use Rattle.ci_pair.proofs.terms.PairTerms.bound.Goals as goal

pub overflow_add-result : goal.overflow_add-result
overflow_add-result c =
    let some = c.requires in
    let one_longest : c.args.self.now.first.longest < 2 ^ 32 = omega arith in
    let one : IsSmall c.bound.result = subst IsSmall (sym (c.bound.ensures (choices First some.0) some.1.first some.2.first))
    (bound_small c.args.graph.now (choices First some.0) c.args.self.now.first some.1.first some.2.first one_longest
    (omega (arith, c.read-read.ensures)) (omega (arith, c.pad-pad.ensures))) in
    let two_longest : c.args.self.now.second.longest < 2 ^ 32 = omega arith in
    let two : IsSmall c.bound-2.result = subst IsSmall (sym (c.bound-2.ensures (choices Second some.0) some.1.second some.2.second))
    (bound_small c.args.graph.now (choices Second some.0) c.args.self.now.second some.1.second some.2.second two_longest
    (omega (arith, c.read-read.ensures)) (omega (arith, c.pad-pad.ensures))) in
    sum_fits c.bound.result c.bound-2.result one two

pub overflow_sub-result : goal.overflow_sub-result
overflow_sub-result c =
    let graph = c.args.graph.now in
    let some = c.requires in
    let one_longest : c.args.self.now.first.longest < 2 ^ 32 = omega arith in
    let one : IsSmall c.bound.result = subst IsSmall (sym (c.bound.ensures (choices First some.0) some.1.first some.2.first))
    (bound_small c.args.graph.now (choices First some.0) c.args.self.now.first some.1.first some.2.first one_longest
    (omega (arith, c.read-read.ensures)) (omega (arith, c.pad-pad.ensures))) in
    let two_longest : c.args.self.now.second.longest < 2 ^ 32 = omega arith in
    let two : IsSmall c.bound-2.result = subst IsSmall (sym (c.bound-2.ensures (choices Second some.0) some.1.second some.2.second))
    (bound_small c.args.graph.now (choices Second some.0) c.args.self.now.second some.1.second some.2.second two_longest
    (omega (arith, c.read-read.ensures)) (omega (arith, c.pad-pad.ensures))) in
    rest_fits c.bound.result c.bound-2.result one two c.args.self.now.shared
    (software graph (undecided graph some.0)) (size graph (undecided graph some.0) * graph.pad) some.2.shared_is
    (shared_software-few graph some.2.first.kept some.0) (shared_pads-few graph some.2.first.kept some.0 (omega (arith, c.pad-pad.ensures)))

pub returns : goal.returns
returns c prefix delays represents =
    let graph = c.args.graph.now in
    let some = c.requires in
    let one_longest : c.args.self.now.first.longest < 2 ^ 32 = omega arith in
    let one : IsSmall c.bound.result = subst IsSmall (sym (c.bound.ensures (choices First some.0) some.1.first some.2.first))
    (bound_small c.args.graph.now (choices First some.0) c.args.self.now.first some.1.first some.2.first one_longest
    (omega (arith, c.read-read.ensures)) (omega (arith, c.pad-pad.ensures))) in
    let two_longest : c.args.self.now.second.longest < 2 ^ 32 = omega arith in
    let two : IsSmall c.bound-2.result = subst IsSmall (sym (c.bound-2.ensures (choices Second some.0) some.1.second some.2.second))
    (bound_small c.args.graph.now (choices Second some.0) c.args.self.now.second some.1.second some.2.second two_longest
    (omega (arith, c.read-read.ensures)) (omega (arith, c.pad-pad.ensures))) in
    rest_is c.bound.result c.bound-2.result one two c.args.self.now.shared
    (software graph (undecided graph prefix)) (size graph (undecided graph prefix) * graph.pad) represents.shared_is
    (shared_software-few graph represents.first.kept prefix) (shared_pads-few graph represents.first.kept prefix (omega (arith, c.pad-pad.ensures)))
    ∙ (λ i. (c.bound.ensures (choices First prefix) delays.first represents.first i
    +ℤ c.bound-2.ensures (choices Second prefix) delays.second represents.second i) -ℤ represents.shared_is i)
    ∙ bound_by_sets graph prefix
