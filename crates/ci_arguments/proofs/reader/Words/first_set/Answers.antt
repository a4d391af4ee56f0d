-- The first setting of the option.
use Rattle.std.proofs.Common.{◌∙◌, ap, map, sym}
use Rattle.std.specs.Prelude.{slice_get}
use Rattle.ci_arguments.specs.Words.{settings_in}
use Rattle.ci_arguments.specs.Read.{setting_in}
use Rattle.ci_arguments.proofs.Elements.{no_setting}
use Rattle.ci_arguments.proofs.SettingLaws.{first_setting}
use Rattle.ci_arguments.proofs.reader.Words.first_set.Goals as goal

pub returns-then-eq : goal.returns-then-eq
returns-then-eq c =
    sym (ap (λ settings. slice_get (settings_in (map setting_in settings) c.args.option) 0)
    (sym c.deref-setting-items.ensures.value)
    ∙ first_setting c.args.option c.deref-setting-items.result.now c.loop-setting.setting-index no_setting
    c.loop-setting-test.true c.loop-setting.invariant (sym c.eq.ensures ∙ c.if-eq.true))
