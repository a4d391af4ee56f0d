use Rattle.std.proofs.Common.{◌∙◌, refl, rules, w64, SFits}
use Rattle.std.proofs.lemmas.Int.{to_z-of_z}
use Rattle.ci_cut.proofs.MemberSums.{saved_from_parts}
use Rattle.ci_cut.specs.Prefixes.{taken, possible}
use Rattle.ci_cut.proofs.Represented.{hardware_is}
use Rattle.ci_cut.proofs.prefix.PrefixTerms.bound.Goals as goal

pub returns : goal.returns
returns c prefix delays represents =
    let graph = c.args.graph.now in
    let terms = c.args.self.now in
    let fits : SFits w64 terms.bound = search rules in
    to_z-of_z w64 terms.bound fits
    ∙ represents.bound_is
    ∙ saved_from_parts graph (possible graph prefix) (taken graph prefix) graph.read graph.pad terms.software _
    terms.settled terms.outputs _ terms.size
    refl refl represents.software_is (hardware_is graph prefix terms delays represents) represents.settled_are
    represents.outputs_are refl represents.size_is
