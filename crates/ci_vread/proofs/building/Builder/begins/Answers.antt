use Rattle.std.proofs.Common.{ap, ◌∙◌}
use Rattle.ci_vread.specs.declared.tokens.Kind.TheVariants as kind
use Rattle.ci_vread.specs.private.Building.{front, left, is_sign}
use Rattle.ci_vread.proofs.FrontTokens.{of_kind, no_sign}
use Rattle.ci_vread.proofs.building.Builder.begins.Goals as goal

pub returns-in-Sign : goal.returns-in-Sign
unfolding is_sign
returns-in-Sign c =
    let is = of_kind c.args.self.now.text.now c.front.result (front (left c.args.self.now)) c.front.ensures
    (kind.Sign c.in-Sign.found) c.in-Sign.is in
    c.eq.ensures ∙ ap (is_sign c.args.sign) is

pub returns-in_default : goal.returns-in_default
returns-in_default c =
    no_sign c.args.self.now.text.now c.front.result (front (left c.args.self.now)) c.front.ensures c.args.sign
    c.in_default.not-Sign
