-- One more option.
use Rattle.std.proofs.Common.{◌≡◌, ◌∙◌, ap, map, sym, take_all}
use Rattle.ci_arguments.specs.private.Parses.{app_for, names_in, option_row}
use Rattle.ci_arguments.proofs.Elements.{no_option, shown_at, shown_more}
use Rattle.std.proofs.lemmas.List.{map-append}
use Rattle.ci_arguments.proofs.parse.with_options.Goals as goal

pub loop-option-preserved : goal.loop-option-preserved
loop-option-preserved c = λ word repeats is all.
    let options = c.args.options.now in
    let i = c.loop-option.option-index in
    c.in_ok-parser.ensures word _ (c.loop-option.invariant word repeats is all)
    (shown_at option_row (λ option. option.repeatable ≡ repeats option.name) options i no_option c.loop-option-test.true all)
    ∙ ap (λ names. app_for word (record { names = names; repeats = repeats }))
    (sym (ap names_in (shown_more option_row options i no_option c.loop-option-test.true)
    ∙ map-append (λ option. option.name) _ _))

pub returns : goal.returns
returns c = λ word repeats is all. c.loop-option.invariant word repeats is all
    ∙ ap (λ options. app_for word (record { names = names_in (map option_row options); repeats = repeats }))
    (take_all c.loop-option.option-index c.args.options.now c.loop-option-test.false)
