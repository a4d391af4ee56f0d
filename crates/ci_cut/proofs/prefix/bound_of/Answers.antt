use Rattle.std.proofs.Common.{◌∙◌, arith, rules, w64, SFits}
use Rattle.std.proofs.lemmas.Int.{to_z-of_z}
use Rattle.ci_cut.specs.Gain.{saved_cycles}
use Rattle.ci_cut.proofs.MemberSums.{further_words-le}
use Rattle.ci_cut.proofs.prefix.bound_of.Goals as goal

pub saved_cycles-requires-clause-further : goal.saved_cycles-requires-clause-further
saved_cycles-requires-clause-further c =
    omega (arith, c.further_words.ensures, further_words-le c.args.ports.now.inputs c.args.ports.now.outputs 256 c.requires.outputs (omega arith))

pub returns : goal.returns
returns c =
    let fits : SFits w64 c.saved_cycles.result = search rules in
    to_z-of_z w64 c.saved_cycles.result fits
    ∙ c.saved_cycles.ensures
    ∙ (λ i. saved_cycles c.args.graph.now.read c.args.graph.now.pad c.args.software (c.in_cycles.ensures i) (c.further_words.ensures i) c.args.size)
