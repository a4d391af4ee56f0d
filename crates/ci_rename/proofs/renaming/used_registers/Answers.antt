use Rattle.std.proofs.Common.{ap, ◌∙◌}
use Rattle.std.specs.FinSet as finite
use Rattle.ci_isa.specs.RegisterSets.{registers_written}
use Rattle.ci_dfg.proofs.InstructionLaws.{insn_there}
use Rattle.ci_rename.proofs.UsedRegisters.{none_used, one_more_used}
use Rattle.ci_rename.proofs.renaming.used_registers.Goals as goal

pub loop-insn-init : goal.loop-insn-init
loop-insn-init c r = ap (λ s. finite.contains s r) c.empty-used.ensures ∙ none_used c.args.insns.now r

pub loop-insn-preserved : goal.loop-insn-preserved
loop-insn-preserved c r =
    let insns = c.args.insns.now in
    let here = insn_there insns c.loop-insn.insn-index c.insn-item.result c.loop-insn-test.true c.insn-item.is in
    ap (λ s. finite.contains s r)
    (c.union-used.ensures.value
    ∙ (λ i. finite.union (c.union.ensures.value i) (c.writes.ensures i))
    ∙ ap (λ s. finite.union (finite.union c.loop-insn.used s) (registers_written c.insn-item.result)) c.reads.ensures)
    ∙ one_more_used insns c.loop-insn.used c.loop-insn.insn-index c.insn-item.result here c.loop-insn.invariant r
