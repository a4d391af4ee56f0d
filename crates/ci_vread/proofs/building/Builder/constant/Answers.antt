use Rattle.std.proofs.Common.{ap, sym, ◌∙◌}
use Rattle.ci_vread.specs.private.Building.{front, left, token_in, constant_in}
use Rattle.ci_vread.proofs.FrontTokens.{no_constant}
use Rattle.ci_vread.proofs.building.Builder.constant.Goals as goal

pub returns-in-Constant : goal.returns-in-Constant
unfolding constant_in
returns-in-Constant c =
    sym (ap (λ s. constant_in (token_in s)) (c.constant_of-width.ensures c.in-Constant.is)) ∙ ap constant_in c.front-token.ensures

pub returns-in_default : goal.returns-in_default
returns-in_default c =
    no_constant c.args.self.now.text.now c.front-token.result (front (left c.args.self.now)) c.front-token.ensures c.in_default.not-Constant
