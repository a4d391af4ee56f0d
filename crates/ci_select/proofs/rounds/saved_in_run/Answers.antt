use Rattle.std.proofs.Common.{arith, pos, ◌<ℤ◌, subst, sym, ℤ, ◌≤ℤ◌}
use Rattle.std.specs.FinSet as finite
use Rattle.ci_select.proofs.GainBounds.{gain_most, saved_is_small}
use Rattle.ci_select.proofs.rounds.saved_in_run.Goals as goal

pub returns-clause-small : goal.returns-clause-small
returns-clause-small c =
    let most =
    gain_most c.args.graph.now (finite.contains c.args.cut.now) c.nodes.ensures.kept c.requires.fits in
    let small =
    saved_is_small c.gain.result c.from.result
    (subst (λ (z : ℤ). pos 0 <ℤ z) (sym c.gain.ensures) c.requires.gains)
    (subst (λ (z : ℤ). z ≤ℤ pos 256000) (sym c.gain.ensures) most) (omega arith) in
    small
