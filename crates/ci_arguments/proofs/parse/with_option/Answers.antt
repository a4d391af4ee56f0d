-- The option stands after those that are known.
use Rattle.std.proofs.Common.{◌≡◌, ◌∙◌, [], ◌∷◌, ◌++◌, ap, ap₂, rules, sym}
use Rattle.std.proofs.lemmas.List.{map-append}
use Rattle.std.proofs.lemmas.Result.{IfOk-weaker}
use Rattle.clap.specs.Words.{AddsArg, app_of, rule_of, with_rule}
use Rattle.ci_arguments.specs.private.Parses.{app_for, names_given, option_by, option_given}
use Rattle.ci_arguments.proofs.parse.with_option.Goals as goal

pub returns : goal.returns
returns c = λ word known is same.
    let name = c.args.name.now in
    let made : rule_of c.action.result ≡ option_by c.args.repeatable name = search rules in
    let rule : rule_of c.action.result ≡ option_given known name = made ∙ ap (λ b. option_by b name) same in
    let rules_are = map-append (option_given known) known.names (name ∷ []) in
    IfOk-weaker c.arg.result (AddsArg c.args.parser c.action.result)
    (λ more. app_of more ≡ app_for word (record known { names = known.names ++ name ∷ [] }))
    (λ more adds. adds.shape (search rules) ∙ (ap₂ with_rule is rule
    ∙ ap (λ gs. record (app_for word known) { top = record (app_for word known).top { rules = names_given ∷ gs } })
    (sym rules_are)))
    c.arg.ensures
