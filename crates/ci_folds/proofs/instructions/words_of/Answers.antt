use Rattle.std.proofs.Common.{sym, subst}
use Rattle.std.proofs.lemmas.List.{get_or_read}
use Rattle.ci_isa.specs.declared.instruction.Insn.TheVariants.{Ebreak}
use Rattle.ci_isa.specs.FieldBounds.{FieldsFit}
use Rattle.ci_isa.proofs.WellFormed.{well_formed}
use Rattle.ci_folds.proofs.instructions.words_of.Goals as goal

pub encode-requires : goal.encode-requires
encode-requires c =
    let k = c.loop-insn.insn-index in
    well_formed c.insn-item.result
    (subst FieldsFit (sym (get_or_read c.args.insns.now k c.insn-item.result c.loop-insn-test.true c.insn-item.is Ebreak)) (c.requires k c.loop-insn-test.true))
