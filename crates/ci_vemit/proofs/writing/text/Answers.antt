use Rattle.std.proofs.Common.{◌≡◌, sym, subst, arith}
use Rattle.std.proofs.lemmas.Grind.{common_steps}
use Rattle.ci_vread.specs.Spelling.{Spell}
use Rattle.ci_vemit.specs.Texts.{text_of}
use Rattle.ci_vemit.proofs.SpeltModules.{spelt}
use Rattle.ci_vemit.proofs.writing.text.Goals as goal

pub returns-clause-spells : goal.returns-clause-spells
returns-clause-spells c = λ are.
    let whole : c.loop-module.text.items ≡ text_of c.args.modules.now = grind (arith, common_steps) in
    subst (λ t. Spell t c.args.modules.now) (sym whole) (spelt c.args.modules.now are)
