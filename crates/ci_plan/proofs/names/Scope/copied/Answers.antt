use Rattle.std.proofs.lemmas.Option.{IfSome_then}
use Rattle.ci_verilog.specs.Values.{simple_bits}
use Rattle.ci_plan.proofs.names.Scope.copied.Goals as goal

pub returns-clause-found : goal.returns-clause-found
returns-clause-found c =
    IfSome_then c.copies.result c.copies.ensures.found
    (λ found stands. stands c.args.self.now.module.now (λ names. simple_bits names c.args.simple.now) c.in_ok-one.ensures.found)
