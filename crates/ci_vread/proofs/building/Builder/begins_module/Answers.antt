use Rattle.std.proofs.Common.{ap}
use Rattle.ci_vread.specs.declared.tokens.Kind.TheVariants as kind
use Rattle.ci_vread.specs.private.Building.{front, left, is_cycles}
use Rattle.ci_vread.proofs.FrontTokens.{of_kind, no_cycles}
use Rattle.ci_vread.proofs.building.Builder.begins_module.Goals as goal

pub returns-in-Cycles : goal.returns-in-Cycles
unfolding is_cycles
returns-in-Cycles c =
    ap is_cycles
    (of_kind c.args.self.now.text.now c.front.result (front (left c.args.self.now)) c.front.ensures kind.Cycles c.in-Cycles.is)

pub returns-in_default : goal.returns-in_default
returns-in_default c =
    (no_cycles c.args.self.now.text.now c.front.result (front (left c.args.self.now)) c.front.ensures c.in_default.not-Cycles).0
