-- A text that is not of the option's kind; or one more that is.
use Rattle.std.proofs.Common.{[], arith, subst, sym}
use Rattle.std.proofs.lemmas.List.{get_or-map, length-map}
use Rattle.ci_arguments.specs.Words.{Says}
use Rattle.ci_arguments.specs.private.Parses.{option_row}
use Rattle.ci_arguments.specs.Read.{value_in}
use Rattle.ci_arguments.proofs.Elements.{no_text, not_zipped, zipped_shown}
use Rattle.ci_arguments.proofs.SettingLaws.{given_sets, texts}
use Rattle.ci_arguments.proofs.said.values_set.Goals as goal

pub returns-in_default-clause-none : goal.returns-in_default-clause-none
returns-in_default-clause-none c = λ e values sets.
    let words = c.args.texts.now in
    let option = option_row c.args.option.now in
    let i = c.loop-text.text-index in
    let lt = c.loop-text-test.true in
    let long = length-map words (λ word. word.now) in
    not_zipped (Says option.kind) (texts words) values i [] (omega (arith, lt, long))
    (λ value. subst (λ text. Says option.kind text value → ⊥) (sym (get_or-map (λ word. word.now) words i no_text [] lt))
    (c.in_default.ensures.none value))
    (given_sets option (texts words) values (omega (arith, lt, long)) sets)

pub loop-text-preserved : goal.loop-text-preserved
loop-text-preserved c =
    let words = c.args.texts.now in
    let kind = (option_row c.args.option.now).kind in
    let i = c.loop-text.text-index in
    let lt = c.loop-text-test.true in
    zipped_shown (Says kind) value_in (texts words) c.loop-text.values.items c.push.new.self.items i [] c.in-Some.value
    c.in_ok-push.ensures.items (omega (arith, lt, length-map words (λ word. word.now))) c.loop-text.invariant
    (subst (λ text. Says kind text (value_in c.in-Some.value)) (sym (get_or-map (λ word. word.now) words i no_text [] lt))
    c.in-Some.ensures.some)
