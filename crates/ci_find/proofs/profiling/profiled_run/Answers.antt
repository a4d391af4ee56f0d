-- The profile of the plain machine's run tells whether the text is touched.
use Rattle.std.proofs.Common.{inl, subst}
use Rattle.std.proofs.lemmas.Result.{err_from_is_err_and}
use Rattle.ci_machine.specs.Words.{AreBytes}
use Rattle.ci_machine.proofs.PlainMeaning.{plain_exists}
use Rattle.ci_find.specs.Profiled.{touches}
use Rattle.ci_find.proofs.ProfiledRuns.{first_touch, custom_refused}
use Rattle.ci_find.proofs.profiling.profiled_run.Goals as goal

pub returns-in_err-refuse_custom_words-clause-cause : goal.returns-in_err-refuse_custom_words-clause-cause
returns-in_err-refuse_custom_words-clause-cause c =
    let p = err_from_is_err_and c.from_residual.result c.from_residual.ensures.1 in
    rw (p.1, p.2) (custom_refused c.args.image.now c.args.input.items c.args.steps
    c.in_err-refuse_custom_words.field-0.0 c.in_err-refuse_custom_words.ensures.cause)

pub returns-in-Some-clause-cause : goal.returns-in-Some-clause-cause
returns-in-Some-clause-cause c =
    let plain = plain_exists in
    let image = c.args.image.now in
    let input = c.args.input.items in
    let steps = c.args.steps in
    let counted = c.in_ok-profile.ensures plain.0 plain.1 in
    inl (touches c.in_ok-refuse_custom_words.ensures.none plain.1
    (first_touch plain.0 image input steps c.in_ok-profile.profile.touched c.in-Some.pc c.in-Some.address (cc) counted.touched))

pub returns-clause-done : goal.returns-clause-done
returns-clause-done c =
    let plain = plain_exists in
    record {
      no_custom = c.in_ok-refuse_custom_words.ensures.none;
      of_bytes = subst AreBytes c.as_slice.ensures.value c.bytes_are_small.ensures;
      meaning = plain.0;
      plain = plain.1;
      profile_is = c.in_ok-profile.ensures plain.0 plain.1;
      leaves_text = cc;
      analysis = rw c.targets.ensures at c.in_ok-analysis.ensures;
    }
