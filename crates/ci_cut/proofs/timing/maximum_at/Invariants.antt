use Rattle.std.proofs.Common.{take}
use Rattle.ci_cut.specs.private.ChainDelays.{IsMaximumAt}
use Rattle.ci_cut.proofs.timing.maximum_at.Given as goal

abbrev pub invariant-loop-source : goal.invariant-loop-source
invariant-loop-source l = IsMaximumAt l.delays (take l.source-index l.sources) l.maximum
