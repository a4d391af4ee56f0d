use Rattle.std.proofs.Common.{arith}
use Rattle.ci_plan.proofs.NameLaws.{wire_stands}
use Rattle.ci_plan.proofs.names.Scope.wire.Goals as goal

pub returns-clause-found : goal.returns-clause-found
returns-clause-found c =
    wire_stands c.args.self.now.module.now c.expr.new.draft c.in_ok-place.place c.args.wire.now c.requires.is_module c.requires.is_there
    (omega arith) c.in_ok-place.ensures.stands
