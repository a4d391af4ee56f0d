use Rattle.std.proofs.Common.{subst, sym, map}
use Rattle.std.proofs.lemmas.Option.{IfSome_then}
use Rattle.ci_verilog.specs.Values.{term_bits, item_bits, joined}
use Rattle.ci_plan.specs.private.Drafts.{StandsFor}
use Rattle.ci_plan.proofs.names.Scope.term.Goals as goal

pub returns-in-Join-clause-found : goal.returns-in-Join-clause-found
returns-in-Join-clause-found c =
    let m = c.args.self.now.module.now in
    IfSome_then c.items.result c.items.ensures.found
    (λ found stands.
    subst (λ t. StandsFor m c.items.new.draft found.place found.width (λ names. term_bits names t)) (sym c.in-Join.is)
    (subst (λ is. StandsFor m c.items.new.draft found.place found.width (λ names. joined (map (item_bits names) is))) c.as_slice.ensures stands))
