use Rattle.std.proofs.Common.{◌↔◌, List, ◌+◌, subst, sym}
use Rattle.ci_live.specs.declared.flow.Flow.{Flow}
use Rattle.ci_isa.specs.Sequences.{ReadFirst, Write}
use Rattle.ci_live.specs.private.Flows.{AreFlows, Has}
use Rattle.ci_live.proofs.PushLaws.{flows_more}
use Rattle.ci_live.proofs.flow.flows.Goals as goal

pub loop-block-preserved : goal.loop-block-preserved
loop-block-preserved c =
    subst (λ (xs : List Flow). AreFlows c.args.leaders.now c.args.blocks.now (c.loop-block.block-index + 1) xs) (sym c.in_ok-push.ensures.items)
    (flows_more c.args.leaders.now c.args.blocks.now c.loop-block.block-index c.loop-block.flows.items c.block-item.result _ c.loop-block-test.true
    (sym c.block-item.is) c.loop-block.invariant
    (record {
      uses = λ r. subst (λ insns. Has c.effects-uses.result.0 r ↔ ReadFirst insns r) c.deref.ensures.value (c.effects-uses.ensures.uses r);
      defs = λ r. subst (λ insns. Has c.effects-uses.result.1 r ↔ Write insns r) c.deref.ensures.value (c.effects-uses.ensures.defs r);
      successors = c.successors_of.ensures;
    }))
