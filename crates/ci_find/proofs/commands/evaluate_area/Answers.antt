-- The settings are those that the words say, and the numbers are in the ranges of the options of `area`.
use Rattle.std.proofs.Common.{◌∙◌, inl, ap, arith}
use Rattle.std.proofs.lemmas.Result.{err_from_is_err_and}
use Rattle.ci_arguments.specs.Read.{reading_of}
use Rattle.ci_calls.proofs.InputLaws.{nothing_read}
use Rattle.ci_find.specs.FindCommand.{find_inputs, IsFindRefused}
use Rattle.ci_find.specs.AreaCommand.{IsAreaMade}
use Rattle.ci_find.specs.Profiled.{Settings}
use Rattle.ci_find.proofs.ChoiceWords.{answered_by, area_ranges, limit_range}
use Rattle.ci_find.proofs.commands.evaluate_area.Goals as goal

pub choice_settings-settings-requires : goal.choice_settings-settings-requires
choice_settings-settings-requires g c = area_ranges (reading_of c.args.words.now) c.requires

pub evaluate-requires : goal.evaluate-requires
evaluate-requires g c =
    let same = c.choice_settings-settings.ensures.settings (c.as_slice.ensures.value ∙ c.in_ok-leaders.ensures) in
    let steps = ap (λ (s : Settings). s.steps) same in
    omega (arith, steps, (area_ranges (reading_of c.args.words.now) c.requires).steps)

pub overflow_cast-limit : goal.overflow_cast-limit
overflow_cast-limit g c =
    let few = limit_range (reading_of c.args.words.now) c.requires in omega (arith, c.number-limit.ensures, few)

pub returns-in_err-leaders : goal.returns-in_err-leaders
returns-in_err-leaders g c =
    let p = err_from_is_err_and c.from_residual.result c.from_residual.ensures.1 in
    rw (p.1, p.2)
    (inl (nothing_read g.F.Shelf.read_may_fail g.F.Shelf.write_may_fail (g.F.Shelf.state c.args.shelf.now) _))

pub returns : goal.returns
returns g c =
    let reading = reading_of c.args.words.now in
    answered_by reading c.choice_settings-settings.result.plan c.choice_settings-settings.ensures.plan
    g.F.Shelf.read_may_fail g.F.Shelf.write_may_fail (g.F.Shelf.state c.args.shelf.now)
    (g.F.Shelf.state c.evaluate.new.shelf)
    (λ file limit settings. find_inputs file settings.table settings.input) (λ limit settings. IsAreaMade settings limit)
    IsFindRefused c.evaluate.result c.name_at.ensures (c.number-limit.ensures)
    (c.choice_settings-settings.ensures.settings (c.as_slice.ensures.value ∙ c.in_ok-leaders.ensures)) c.evaluate.ensures
