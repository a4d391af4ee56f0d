use Rattle.std.proofs.Common.{◌∷◌, [], sym, ap, ◌∙◌, subst}
use Rattle.ci_netlist.specs.Netlists.{bit_value, results_of}
use Rattle.ci_netlist.specs.private.Settled.{Holds}
use Rattle.ci_netlist.proofs.SettledLaws.{names_given, has_value}
use Rattle.ci_netlist.proofs.values.value.Goals as goal

pub results-requires-clause-are_bits : goal.results-requires-clause-are_bits
results-requires-clause-are_bits c =
    let given = c.in_ok-given in
    names_given c.args.net.now c.gates.ensures.kept _ c.gates.result.now given.given.items c.gates.ensures.value
    given.ensures c.deref.result.now c.outputs.result.now c.deref.ensures.value c.outputs.ensures.value

pub returns : goal.returns
returns c =
    let arguments = c.args.a ∷ c.args.b ∷ c.args.c ∷ c.args.d ∷ c.args.e ∷ [] in
    let given = c.in_ok-given in
    has_value c.args.net.now c.gates.ensures.kept arguments c.gates.result.now given.given.items c.gates.ensures.value
    given.ensures _
    (λ gives holds.
    c.results.ensures gives (subst (Holds gives) (sym c.deref.ensures.value) holds)
    ∙ ap (results_of (bit_value arguments gives)) c.outputs.ensures.value)
