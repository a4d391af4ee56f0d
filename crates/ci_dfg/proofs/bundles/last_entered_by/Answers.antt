use Rattle.std.proofs.Common.{sym, ◌∙◌}
use Rattle.ci_dfg.specs.BlockGraph.{is_joined}
use Rattle.ci_dfg.proofs.BundleEnds.{entered_by_bundle}
use Rattle.ci_dfg.proofs.bundles.last_entered_by.Goals as goal

pub returns-else-is_joined-clause-all : goal.returns-else-is_joined-clause-all
returns-else-is_joined-clause-all c = λ l.
    entered_by_bundle (is_joined c.args.insns.now) c.args.k c.last_of_bundle.result l c.last_of_bundle.ensures.one
    (sym c.is_joined.ensures ∙ c.if-is_joined.false) c.last_of_bundle.ensures.ends
