use Rattle.std.proofs.Common.{ap}
use Rattle.ci_vread.specs.declared.tokens.Kind.TheVariants as kind
use Rattle.ci_vread.specs.private.Building.{front, left, is_number}
use Rattle.ci_vread.proofs.FrontTokens.{of_kind, no_number}
use Rattle.ci_vread.proofs.building.Builder.begins_number.Goals as goal

pub returns-in-Number : goal.returns-in-Number
unfolding is_number
returns-in-Number c =
    ap is_number
    (of_kind c.args.self.now.text.now c.front.result (front (left c.args.self.now)) c.front.ensures kind.Number c.in-Number.is)

pub returns-in_default : goal.returns-in_default
returns-in_default c =
    (no_number c.args.self.now.text.now c.front.result (front (left c.args.self.now)) c.front.ensures c.in_default.not-Number).0
