use Rattle.std.proofs.Common.{arith, sym, ◌∙◌, subst}
use Rattle.std.proofs.lemmas.Result.{err_from_is_err_and}
use Rattle.ci_reading.proofs.Repetitions.{no_front}
use Rattle.ci_log.specs.private.Reading.{Fails}
use Rattle.ci_log.specs.private.BookReading.{searches}
use Rattle.ci_log.proofs.BookReading.{search_shorter}
use Rattle.ci_log.proofs.Loops.{next_search, search_fails, no_search}
use Rattle.ci_log.proofs.entries.searches.Goals as goal

pub loop-version-init : goal.loop-version-init
loop-version-init c = (rw c.new-entries.ensures.items (no_front (searches c.args.version c.args.bytes.now)), omega arith)

pub returns-in_err-entry : goal.returns-in_err-entry
returns-in_err-entry c =
    let p = err_from_is_err_and c.from_residual.result c.from_residual.ensures.1 in
    let e = c.in_err-entry.field-0.0 in
    rw (p.1, p.2) (record {
      entries = subst (Fails e) c.loop-version.invariant.0
          (search_fails c.args.version c.loop-version.entries.items c.loop-version.rest.now e (sym c.loop-version-test.ensures) c.in_err-entry.ensures);
      left = tt;
    })

pub loop-version-smaller : goal.loop-version-smaller
loop-version-smaller c =
    search_shorter c.args.version c.loop-version.rest.now c.in_ok-entry.after.now c.in_ok-entry.entry (omega (arith, c.loop-version.invariant.1, c.requires)) c.in_ok-entry.ensures

pub loop-version-preserved : goal.loop-version-preserved
loop-version-preserved c =
    let rest = c.loop-version.rest.now in
    let after = c.in_ok-entry.after.now in
    let s = c.in_ok-entry.entry in
    let less = search_shorter c.args.version rest after s (omega (arith, c.loop-version.invariant.1, c.requires)) c.in_ok-entry.ensures in (
      rw c.in_ok-push.ensures.items
          (next_search c.args.version c.loop-version.entries.items rest s after (sym c.loop-version-test.ensures) c.in_ok-entry.ensures less ∙ c.loop-version.invariant.0),
      omega (arith, less, c.loop-version.invariant.1),
    )

pub returns : goal.returns
returns c = record {
  entries = sym c.loop-version.invariant.0 ∙ no_search c.args.version c.loop-version.entries.items c.loop-version.rest.now (sym c.loop-version-test.ensures);
  left = c.loop-version.invariant.1;
}
