use Rattle.ci_live.specs.private.Flows.{AreFlows}
use Rattle.ci_live.proofs.flow.flows.Given as goal

abbrev pub invariant-loop-block : goal.invariant-loop-block
invariant-loop-block l = AreFlows l.leaders l.blocks l.block-index l.flows.items
