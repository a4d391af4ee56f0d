use Rattle.std.proofs.Common.{arith, refl, sym, ◌∙◌, ◌≤◌, ◌++◌, ◌∷◌, [], length, ap, subst, append_assoc}
use Rattle.std.proofs.lemmas.Result.{err_from_is_err_and}
use Rattle.ci_reading.specs.LineReading.{with_front}
use Rattle.ci_log.specs.private.Reading.{Fails}
use Rattle.ci_log.specs.private.BookReading.{rounds}
use Rattle.ci_log.proofs.BookReading.{search_shorter, take_shorter}
use Rattle.ci_log.proofs.Loops.{next_round, take_fails, round_fails, no_round}
use Rattle.ci_log.proofs.entries.rounds.Goals as goal

pub returns-in_err-take : goal.returns-in_err-take
returns-in_err-take c =
    let p = err_from_is_err_and c.from_residual.result c.from_residual.ensures.1 in
    let e = c.in_err-take.field-0.0 in
    rw (p.1, p.2) (record {
      entries = subst (Fails e) c.loop-version.invariant.0
          (take_fails c.args.version c.loop-version.entries.items c.loop-version.rest.now e (sym c.loop-version-test.ensures) c.in_err-take.ensures);
      left = tt;
    })

pub search-requires : goal.search-requires
search-requires c =
    let few : length c.loop-version.rest.now ≤ 268435456 = omega (arith, c.loop-version.invariant.1, c.requires) in
    omega (arith, few, take_shorter c.loop-version.rest.now c.in_ok-take.after.now c.in_ok-take.take few c.in_ok-take.ensures)

pub returns-in_err-search : goal.returns-in_err-search
returns-in_err-search c =
    let p = err_from_is_err_and c.from_residual-in_err-search.result c.from_residual-in_err-search.ensures.1 in
    let e = c.in_err-search.field-0.0 in
    rw (p.1, p.2) (record {
      entries = subst (Fails e) c.loop-version.invariant.0
          (round_fails c.args.version c.loop-version.entries.items c.loop-version.rest.now e c.in_ok-take.take c.in_ok-take.after.now (sym c.loop-version-test.ensures)
          c.in_ok-take.ensures c.in_err-search.ensures);
      left = tt;
    })

pub loop-version-init : goal.loop-version-init
loop-version-init c = (refl, omega arith)

pub loop-version-smaller : goal.loop-version-smaller
loop-version-smaller c =
    let few : length c.loop-version.rest.now ≤ 268435456 = omega (arith, c.loop-version.invariant.1, c.requires) in
    let first = take_shorter c.loop-version.rest.now c.in_ok-take.after.now c.in_ok-take.take few c.in_ok-take.ensures in
    omega (
      arith,
      first,
      search_shorter c.args.version c.in_ok-take.after.now c.in_ok-search.after.now c.in_ok-search.search
          (omega (arith, few, first)) c.in_ok-search.ensures,
    )

pub loop-version-preserved : goal.loop-version-preserved
loop-version-preserved c =
    let rest = c.loop-version.rest.now in
    let mid = c.in_ok-take.after.now in
    let after = c.in_ok-search.after.now in
    let t = c.in_ok-take.take in
    let s = c.in_ok-search.search in
    let before = c.loop-version.entries.items in
    let few : length rest ≤ 268435456 = omega (arith, c.loop-version.invariant.1, c.requires) in
    let first = take_shorter rest mid t few c.in_ok-take.ensures in
    let second = search_shorter c.args.version mid after s (omega (arith, few, first)) c.in_ok-search.ensures in
    let items = c.in_ok-push-2.ensures.items ∙ (ap (λ v. v ++ s ∷ []) c.in_ok-push.ensures.items ∙ append_assoc before (t ∷ []) (s ∷ [])) in (
      ap (λ entries. with_front entries (rounds c.args.version after)) items
          ∙ (next_round c.args.version before rest t s mid after (sym c.loop-version-test.ensures) c.in_ok-take.ensures c.in_ok-search.ensures (omega (arith, first, second))
          ∙ c.loop-version.invariant.0),
      omega (arith, first, second, c.loop-version.invariant.1),
    )

pub returns : goal.returns
returns c = record {
  entries = sym c.loop-version.invariant.0 ∙ no_round c.args.version c.loop-version.entries.items c.loop-version.rest.now (sym c.loop-version-test.ensures);
  left = c.loop-version.invariant.1;
}
