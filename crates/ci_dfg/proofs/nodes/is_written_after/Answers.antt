use Rattle.std.proofs.Common.{◌≡◌, ◌<◌, false, sym, ap, ◌∙◌}
use borrow.Author.Count.{below_more}
use Rattle.ci_isa.specs.Effects.{writes_register}
use Rattle.ci_isa.specs.Sequences.{nth_insn}
use Rattle.ci_dfg.proofs.InstructionLaws.{insn_there}
use Rattle.ci_dfg.proofs.nodes.is_written_after.Goals as goal

pub loop-j-preserved : goal.loop-j-preserved
loop-j-preserved c i later below =
    let insns = c.args.insns.now in
    let here = insn_there insns c.loop-j.j c.index-insns-j.result c.loop-j-test.true c.index-insns-j.is in
    below_more (λ i. c.args.k < i → writes_register (nth_insn insns i) c.args.register ≡ false) c.loop-j.j
    (λ i lower behind. c.loop-j.invariant i behind lower)
    (λ _. ap (λ insn. writes_register insn c.args.register) here ∙ sym c.writes_register.ensures ∙ c.if-writes_register.false)
    i below later
