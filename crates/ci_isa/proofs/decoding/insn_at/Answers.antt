use Rattle.std.proofs.Common.{arith}
use Rattle.ci_isa.proofs.RowCompleteness.{word_well_formed}
use Rattle.ci_isa.proofs.decoding.insn_at.Goals as goal

pub returns-clause-well_formed : goal.returns-clause-well_formed
returns-clause-well_formed c = rw c.unwrap_or.ensures (word_well_formed c.decode.result c.args.word (omega arith) c.decode.ensures.well_formed)
