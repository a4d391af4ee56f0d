use Rattle.std.proofs.Common.{◌∙◌, ap, sym, refl, true≢false, subst, rules, w64, SFits}
use Rattle.std.proofs.lemmas.Int.{to_z-of_z}
use Rattle.ci_cut.specs.Gain.{Fits, gain}
use Rattle.ci_cut.proofs.MemberSums.{within_same}
use Rattle.ci_cut.proofs.Represented.{whole_fits, whole_within, whole_gain, same_taken}
use Rattle.ci_cut.proofs.prefix.PrefixTerms.fitting_gain.Goals as goal
use Rattle.ci_cut.proofs.prefix.PrefixTerms.fitting_gain.Goals.{else-self-via-then-self+else-are_within, else-self-via-else-self}

pub returns-then-are_within : goal.returns-then-are_within
returns-then-are_within c =
    let graph = c.args.graph.now in
    let prefix = c.requires.0 in
    let terms = c.args.self.now in
    let represents = c.requires.2 in
    let whole = c.requires.3 in
    let fits : SFits w64 c.bound.result = search rules in
    let same = sym (same_taken graph prefix terms c.requires.1 represents) in (
      subst (Fits graph c.args.limits.now) same
          (whole_fits graph prefix terms c.requires.1 represents c.args.limits.now whole c.if-self.true
          (within_same c.args.limits.now c.ports.result.inputs c.ports.result.outputs _ _ terms.size c.ports.ensures.inputs c.ports.ensures.outputs
          (c.if-are_within.ensures.0 refl))),
      to_z-of_z w64 c.bound.result fits ∙ c.bound.ensures prefix c.requires.1 represents ∙ whole_gain graph prefix whole ∙ ap (gain graph) same,
    )

pub returns-else-self : goal.returns-else-self
returns-else-self c fits =
    let graph = c.args.graph.now in
    let prefix = c.requires.0 in
    let terms = c.args.self.now in
    let represents = c.requires.2 in
    let here = subst (Fits graph c.args.limits.now) (same_taken graph prefix terms c.requires.1 represents) fits in
    elim c.else-self.branch [
      | else-self-via-then-self+else-are_within w ↦
          true≢false (sym (w.are_within.ensures.1
          (within_same c.args.limits.now terms.settled terms.outputs _ _ terms.size (sym w.ports.ensures.inputs) (sym w.ports.ensures.outputs)
          (whole_within graph prefix terms c.requires.1 represents c.args.limits.now c.requires.3 here))) ∙ w.if-are_within.false)
      | else-self-via-else-self w ↦ true≢false (sym (represents.is_convex.1 here.convex) ∙ w.if-self.false)
    ]
