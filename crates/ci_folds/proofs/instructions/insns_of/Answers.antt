use Rattle.std.proofs.Common.{◌+◌, sym, subst}
use Rattle.ci_isa.proofs.WellFormed.{fields_fit}
use Rattle.ci_rewrite.specs.Blocks.{AllFieldsFit}
use Rattle.ci_folds.proofs.Fields.{fit_more}
use Rattle.ci_folds.proofs.instructions.insns_of.Goals as goal

pub loop-word-preserved : goal.loop-word-preserved
loop-word-preserved c =
    subst AllFieldsFit (sym c.in_ok-push.ensures.items)
    (fit_more c.loop-word.insns.items c.insn_of.result c.loop-word.invariant (fields_fit c.insn_of.result c.insn_of.ensures))
