use Rattle.std.proofs.Common.{arith}
use Rattle.ci_block.proofs.BlockLaws.{no_insns, one_more_insn, stretch_word}
use Rattle.ci_block.proofs.blocks.insns_from.Goals as goal

pub insn_in-requires : goal.insn_in-requires
insn_in-requires c = stretch_word c.args.image.now c.args.start _ c.loop-word.word c.requires (omega arith)

pub loop-word-init : goal.loop-word-init
loop-word-init c = rw c.in_ok-insns.ensures.items (no_insns c.args.image.now c.args.start)

pub loop-word-preserved : goal.loop-word-preserved
loop-word-preserved c =
    rw c.in_ok-push.ensures.items
    (one_more_insn c.args.image.now c.args.start c.loop-word.word c.loop-word.insns.items c.insn_in.result c.loop-word.invariant
    c.insn_in.ensures.stands)
