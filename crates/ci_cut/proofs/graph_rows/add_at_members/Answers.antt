use Rattle.std.proofs.Common.{nat_eq, refl}
use Rattle.std.specs.FinSet as set
use Rattle.ci_cut.proofs.FilledRows.{one_added, all_added}
use Rattle.ci_cut.proofs.SetLaws.{fewer_left}
use Rattle.ci_cut.proofs.graph_rows.add_at_members.Goals as goal

pub loop-place-init : goal.loop-place-init
loop-place-init c = λ j m. refl

pub loop-place-smaller : goal.loop-place-smaller
loop-place-smaller c = rw c.remove.ensures (fewer_left c.loop-place.rest c.in-Some.place c.in-Some.ensures.0)

pub loop-place-preserved : goal.loop-place-preserved
loop-place-preserved c =
    rw c.remove.ensures
    (one_added c.args.rows.now c.loop-place.rows _ c.loop-place.rest c.in-Some.place (set.contains c.args.places.now)
    (λ k. nat_eq k c.args.number) c.in-Some.ensures.0 c.add_at.ensures c.loop-place.invariant)

pub returns : goal.returns
returns c =
    all_added c.args.rows.now c.loop-place.rows c.loop-place.rest (set.contains c.args.places.now) (λ k. nat_eq k c.args.number)
    c.in_default.ensures c.loop-place.invariant
