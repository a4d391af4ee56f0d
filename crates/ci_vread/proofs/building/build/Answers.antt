use Rattle.std.proofs.Common.{◌∙◌}
use Rattle.std.proofs.lemmas.Result.{IfOk-weaker}
use Rattle.ci_vread.proofs.OneSpelling.{built_is, built_keeps}
use Rattle.ci_vread.proofs.building.build.Goals as goal

pub units-requires : goal.units-requires
units-requires c = built_keeps c.args.text.now c.args.tokens.now c.requires.0 c.requires.1

pub returns : goal.returns
returns c = λ modules built.
    IfOk-weaker c.units.result _ _ (λ v e. e ∙ built_is c.args.text.now c.args.tokens.now modules built) c.units.ensures
