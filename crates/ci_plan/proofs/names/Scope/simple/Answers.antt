use Rattle.std.proofs.Common.{subst, sym}
use Rattle.std.proofs.lemmas.Option.{IfSome_then}
use Rattle.ci_verilog.specs.Values.{simple_bits}
use Rattle.ci_plan.specs.private.Drafts.{StandsFor}
use Rattle.ci_plan.proofs.names.Scope.simple.Goals as goal

pub returns-in_ok-from-in-Bits-clause-found : goal.returns-in_ok-from-in-Bits-clause-found
returns-in_ok-from-in-Bits-clause-found c =
    let m = c.args.self.now.module.now in
    IfSome_then c.part.result c.part.ensures.found
    (λ found stands.
    subst (λ s. StandsFor m c.part.new.draft found.place found.width (λ names. simple_bits names s)) (sym c.in-Bits.is)
    (stands m (λ names. names c.in-Bits.name) (c.in_ok-from-in-Bits.ensures c.args.draft.now c.requires)))

pub returns-in-Number-clause-found : goal.returns-in-Number-clause-found
returns-in-Number-clause-found c =
    let m = c.args.self.now.module.now in
    IfSome_then c.constant.result c.constant.ensures.found
    (λ found stands.
    subst (λ s. StandsFor m c.constant.new.draft found.place found.width (λ names. simple_bits names s)) (sym c.in-Number.is)
    (stands m))
