use Rattle.std.proofs.Common.{arith}
use Rattle.ci_isa.proofs.RowCompleteness.{word_well_formed}
use Rattle.ci_folds.proofs.instructions.insn_of.Goals as goal

pub returns : goal.returns
returns c = rw c.unwrap_or.ensures (word_well_formed c.decode_x.result c.args.word (omega arith) c.decode_x.ensures.well_formed)
