use Rattle.ci_isa.proofs.TableLaws.{tables_agree}
use Rattle.ci_isa.proofs.laws.tables_agree.Goals as goal

pub returns : goal.returns
returns c = tables_agree
