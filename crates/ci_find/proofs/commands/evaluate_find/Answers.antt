-- The settings are those that the words say, and the numbers are in the ranges of the options of `find`.
use Rattle.std.proofs.Common.{◌≡◌, ◌∙◌, inl, ap, arith}
use Rattle.std.proofs.lemmas.Result.{err_from_is_err_and}
use Rattle.ci_arguments.specs.Read.{reading_of}
use Rattle.ci_calls.proofs.InputLaws.{nothing_read}
use Rattle.ci_find.specs.ChoiceReading.{find_output}
use Rattle.ci_find.specs.FindCommand.{FindOutput, find_inputs, IsFindMade, IsFindRefused}
use Rattle.ci_find.specs.Profiled.{Settings}
use Rattle.ci_find.proofs.ChoiceWords.{find_ranges, answered_by}
use Rattle.ci_find.proofs.commands.evaluate_find.Goals as goal

pub choice_settings-settings-requires : goal.choice_settings-settings-requires
choice_settings-settings-requires g c = find_ranges (reading_of c.args.words.now) c.requires.ranges

pub evaluate-requires : goal.evaluate-requires
evaluate-requires g c =
    let same = c.choice_settings-settings.ensures.settings (c.as_slice.ensures.value ∙ c.in_ok-leaders.ensures) in
    let steps = ap (λ (s : Settings). s.steps) same in
    omega (arith, steps, (find_ranges (reading_of c.args.words.now) c.requires.ranges).steps)

pub returns-in_err-leaders : goal.returns-in_err-leaders
returns-in_err-leaders g c =
    let p = err_from_is_err_and c.from_residual.result c.from_residual.ensures.1 in
    rw (p.1, p.2)
    (inl (nothing_read g.F.Shelf.read_may_fail g.F.Shelf.write_may_fail (g.F.Shelf.state c.args.shelf.now) _))

pub returns : goal.returns
returns g c =
    let reading = reading_of c.args.words.now in
    let output : FindOutput = record {
      new = c.name_at.result.now;
      units = c.name_at-2.result.now;
      logs = c.name_at-3.result.now;
      report = c.name_at-4.result.now;
      version = c.log_version.result;
    } in
    let output_is : output ≡ find_output reading =
    λ i. record {
      new = c.name_at.ensures i;
      units = c.name_at-2.ensures i;
      logs = c.name_at-3.ensures i;
      report = c.name_at-4.ensures i;
      version = c.log_version.ensures i;
    } in
    answered_by reading c.choice_settings-settings.result.plan c.choice_settings-settings.ensures.plan
    g.F.Shelf.read_may_fail g.F.Shelf.write_may_fail (g.F.Shelf.state c.args.shelf.now)
    (g.F.Shelf.state c.evaluate.new.shelf)
    (λ file output settings. find_inputs file settings.table settings.input) IsFindMade IsFindRefused
    c.evaluate.result c.name_at-5.ensures output_is
    (c.choice_settings-settings.ensures.settings (c.as_slice.ensures.value ∙ c.in_ok-leaders.ensures)) c.evaluate.ensures
