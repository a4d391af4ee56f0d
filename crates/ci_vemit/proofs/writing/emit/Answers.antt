use Rattle.std.proofs.Common.{rules, ◌≡◌, sym, subst, IfOk}
use Rattle.std.proofs.lemmas.Result.{IfOk-weaker}
use Rattle.ci_vread.specs.Spelling.{Spell}
use Rattle.ci_vemit.specs.Templates.{modules_of}
use Rattle.ci_vemit.specs.Texts.{text_of}
use Rattle.ci_vemit.proofs.UnitTexts.{units_spelt}
use Rattle.ci_vemit.proofs.writing.emit.Goals as goal

pub returns-clause-spells : goal.returns-clause-spells
returns-clause-spells c =
    let units = c.args.units.now in
    let value : IfOk c.text.result (λ bytes. bytes.items ≡ text_of (modules_of units)) = search rules in
    IfOk-weaker c.text.result (λ bytes. bytes.items ≡ text_of (modules_of units)) (λ bytes. Spell bytes.items (modules_of units))
    (λ bytes same. subst (λ t. Spell t (modules_of units)) (sym same) (units_spelt units c.as_slice-units.ensures.kept)) value
