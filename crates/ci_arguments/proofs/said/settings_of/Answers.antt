-- An option that its values don't set; or one more that they set.
use Rattle.std.proofs.Common.{◌≡◌, ◌∙◌, ◌++◌, ◌∷◌, [], ap, arith, get_or, map, subst, sym, take}
use Rattle.std.proofs.lemmas.List.{length-map, get_or-map}
use Rattle.std.proofs.lemmas.Simd.{map-map}
use Rattle.clap.specs.Words.{found_of, rows_of}
use Rattle.clap.proofs.TakesLemmas.{passed_up}
use Rattle.ci_arguments.specs.Words.{AreSet, Sets}
use Rattle.ci_arguments.specs.private.Parses.{option_row, values_in}
use Rattle.ci_arguments.specs.Read.{setting_in, value_in}
use Rattle.ci_arguments.proofs.Elements.{no_option, shown_more}
use Rattle.ci_arguments.proofs.SettingLaws.{no_option_row, set_at, set_more, texts}
use Rattle.ci_arguments.proofs.said.settings_of.Goals as goal

pub returns-in_err-values-clause-none : goal.returns-in_err-values-clause-none
returns-in_err-values-clause-none c =
    passed_up _ _ _ c.from_residual-in_err-values.ensures.1 (λ e set are.
    let options = c.args.options.now in
    let given = values_in (rows_of (found_of c.args.matches.now)) in
    let i = c.loop-option.option-index in
    let lt = c.loop-option-test.true in
    let at = set_at given (map option_row options) set i no_option_row (omega (arith, lt, length-map options option_row)) are in
    let row = option_row (get_or options i no_option) in
    let here : Sets row (given row.name) at.0 =
    subst (λ option. Sets option (given option.name) at.0) (get_or-map option_row options i no_option no_option_row lt) at.1 in
    let words : texts c.deref.result.now ≡ given row.name = ap texts c.deref.ensures.value ∙ c.in_ok-texts.ensures in
    c.in_err-values.ensures.none e at.0 (subst (λ values. Sets row values at.0) (sym words) here))

pub loop-option-preserved : goal.loop-option-preserved
loop-option-preserved c =
    let options = c.args.options.now in
    let given = values_in (rows_of (found_of c.args.matches.now)) in
    let i = c.loop-option.option-index in
    let lt = c.loop-option-test.true in
    let row = option_row (get_or options i no_option) in
    let values = map value_in c.in_ok-values.values.items in
    let words : texts c.deref.result.now ≡ given row.name = ap texts c.deref.ensures.value ∙ c.in_ok-texts.ensures in
    let sets : Sets row (given row.name) values = subst (λ given. Sets row given values) words c.in_ok-values.ensures.ok in
    let labelled : map setting_in c.push_settings.new.settings.items
    ≡ map setting_in c.loop-option.settings.items ++ map (λ value. (row.option, value)) values =
    c.in_ok-push_settings.ensures
    ∙ ap (λ set. map setting_in c.loop-option.settings.items ++ set)
    (ap (map (λ value. (row.option, value_in value))) c.deref-in-loop-option.ensures.value
    ∙ sym (map-map (λ value. (row.option, value)) value_in c.in_ok-values.values.items)) in
    subst (λ options. AreSet options given (map setting_in c.push_settings.new.settings.items)) (sym (shown_more option_row options i no_option lt))
    (subst (AreSet (map option_row (take i options) ++ row ∷ []) given) (sym labelled)
    (set_more given (map option_row (take i options)) row (map setting_in c.loop-option.settings.items) values c.loop-option.invariant sets))
