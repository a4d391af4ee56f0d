use Rattle.std.proofs.Common.{◌+ℤ◌, sym, ◌∙◌, subst, arith}
use Rattle.std.specs.FinSet as set
use Rattle.ci_pair.proofs.SetTests.{IsSmall, gain_small, sum_fits, sum_is}
use Rattle.ci_pair.proofs.rules.pair_gain.Goals as goal

pub overflow_add-result : goal.overflow_add-result
overflow_add-result c =
    let graph = c.args.graph.now in
    let one : IsSmall c.gain.result = subst IsSmall (sym c.gain.ensures) (gain_small graph c.nodes-nodes.ensures.kept
    (set.contains c.args.pair.now.first) (omega (arith, c.hardware-first.ensures)) (omega (arith, c.read-read.ensures)) (omega (arith, c.pad-pad.ensures))) in
    let two : IsSmall c.gain-2.result = subst IsSmall (sym c.gain-2.ensures) (gain_small graph c.nodes-nodes.ensures.kept
    (set.contains c.args.pair.now.second) (omega (arith, c.hardware-second.ensures)) (omega (arith, c.read-read.ensures)) (omega (arith, c.pad-pad.ensures))) in
    sum_fits c.gain.result c.gain-2.result one two

pub returns : goal.returns
returns c =
    let graph = c.args.graph.now in
    let one : IsSmall c.gain.result = subst IsSmall (sym c.gain.ensures) (gain_small graph c.nodes-nodes.ensures.kept
    (set.contains c.args.pair.now.first) (omega (arith, c.hardware-first.ensures)) (omega (arith, c.read-read.ensures)) (omega (arith, c.pad-pad.ensures))) in
    let two : IsSmall c.gain-2.result = subst IsSmall (sym c.gain-2.ensures) (gain_small graph c.nodes-nodes.ensures.kept
    (set.contains c.args.pair.now.second) (omega (arith, c.hardware-second.ensures)) (omega (arith, c.read-read.ensures)) (omega (arith, c.pad-pad.ensures))) in
    sum_is c.gain.result c.gain-2.result one two ∙ (λ i. c.gain.ensures i +ℤ c.gain-2.ensures i)
