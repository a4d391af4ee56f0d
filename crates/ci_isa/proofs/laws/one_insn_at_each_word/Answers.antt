use Rattle.ci_isa.proofs.TableLaws.{one_insn_at_each_word}
use Rattle.ci_isa.proofs.laws.one_insn_at_each_word.Goals as goal

pub returns : goal.returns
returns c = one_insn_at_each_word
