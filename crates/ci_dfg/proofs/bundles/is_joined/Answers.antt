use Rattle.std.proofs.Common.{◌∙◌}
use Rattle.ci_dfg.proofs.BundleEnds.{joined_there}
use Rattle.ci_dfg.proofs.bundles.is_joined.Goals as goal

pub returns-then-k-gt0 : goal.returns-then-k-gt0
returns-then-k-gt0 c =
    c.stay_together.ensures
    ∙ joined_there c.args.insns.now c.args.k c.index-insns-k.result c.index-insns-k-then-k-gt0.result c.if-k-gt0.true c.requires
    c.index-insns-k.is c.index-insns-k-then-k-gt0.is
