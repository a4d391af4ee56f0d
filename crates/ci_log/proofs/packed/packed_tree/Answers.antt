use Rattle.std.proofs.Common.{arith, sym, ◌∙◌, subst}
use Rattle.std.proofs.lemmas.Result.{err_from_is_err_and}
use Rattle.ci_log.specs.private.Reading.{Fails}
use Rattle.ci_log.proofs.PackedLoops.{next_pair, pair_fails, pair_length, next_place, none_due_behind}
use Rattle.ci_log.proofs.packed.packed_tree.Goals as goal

pub returns-in_err-pair : goal.returns-in_err-pair
returns-in_err-pair c =
    let p = err_from_is_err_and c.from_residual.result c.from_residual.ensures.1 in
    let e = c.in_err-pair.field-0.0 in
    rw (p.1, p.2) (subst (Fails e) c.loop-place.invariant.0
    (pair_fails e c.loop-place.items.items c.loop-place.place c.loop-place.rest.now c.loop-place-test.true
    c.in_err-pair.ensures))

pub loop-place-smaller : goal.loop-place-smaller
loop-place-smaller c = omega (arith, pair_length c.loop-place.place c.loop-place.rest.now c.in_ok-pair.after.now c.in_ok-pair.pair c.in_ok-pair.ensures)

pub loop-place-preserved : goal.loop-place-preserved
loop-place-preserved c =
    let rest = c.loop-place.rest.now in
    let after = c.in_ok-pair.after.now in
    let pair = c.in_ok-pair.pair in
    let place = next_place c.loop-place.place rest after pair c.loop-place.invariant.1 c.loop-place-test.true c.in_ok-pair.ensures in (
      rw (c.in_ok-push_step-2.ensures, c.in_ok-push_step.ensures)
          (sym (next_pair c.loop-place.items.items c.loop-place.place rest after pair c.loop-place-test.true c.in_ok-pair.ensures)
          ∙ c.loop-place.invariant.0),
      place.0,
      omega (arith, place.1, c.loop-place.invariant.2, pair_length c.loop-place.place rest after pair c.in_ok-pair.ensures),
    )

pub returns : goal.returns
returns c = sym c.loop-place.invariant.0 ∙ none_due_behind c.loop-place.items.items c.loop-place.place c.loop-place.rest.now (omega (arith, c.loop-place-test.false))
