use Rattle.std.proofs.Common.{ap}
use Rattle.ci_vread.specs.declared.tokens.Kind.TheVariants as kind
use Rattle.ci_vread.specs.private.Building.{front, left, operator_in}
use Rattle.ci_vread.proofs.FrontTokens.{of_kind, no_operator}
use Rattle.ci_vread.proofs.building.Builder.operator.Goals as goal

pub returns-in-Operator : goal.returns-in-Operator
unfolding operator_in
returns-in-Operator c =
    ap operator_in
    (of_kind c.args.self.now.text.now c.front.result (front (left c.args.self.now)) c.front.ensures
    (kind.Operator c.in-Operator.operator) c.in-Operator.is)

pub returns-in_default : goal.returns-in_default
returns-in_default c =
    no_operator c.args.self.now.text.now c.front.result (front (left c.args.self.now)) c.front.ensures c.in_default.not-Operator
