use Rattle.std.proofs.Common.{◌≡◌, ◌<◌, false, sym, ap, ◌∙◌, below_more}
use Rattle.ci_isa.specs.Effects.{writes_register}
use Rattle.ci_dfg.proofs.InstructionLaws.{insn_there}
use Rattle.ci_rename.specs.private.ValueTests.{writes_at}
use Rattle.ci_rename.proofs.renaming.last_reader.Goals as goal

pub loop-k-preserved : goal.loop-k-preserved
loop-k-preserved c j behind below =
    let insns = c.args.insns.now in
    let here = insn_there insns c.loop-k.k c.index-insns-k.result c.loop-k-test.true c.index-insns-k.is in
    below_more (λ j. c.args.i < j → writes_at insns j c.args.register ≡ false) c.loop-k.k
    (λ j lower behind. c.loop-k.invariant j behind lower)
    (λ _. ap (λ insn. writes_register insn c.args.register) here ∙ sym c.writes_register.ensures ∙ c.if-writes_register.false)
    j below behind
