use Rattle.ci_isa.proofs.WellFormed.{well_formed, fields_fit}
use Rattle.ci_isa.proofs.laws.well_formed_where_fields_fit.Goals as goal

pub returns : goal.returns
returns c = λ insn. (fields_fit insn, well_formed insn)
