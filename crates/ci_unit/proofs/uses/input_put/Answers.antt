use Rattle.ci_isa.specs.declared.instruction.Insn.TheVariants.{Cput}
use Rattle.ci_isa.proofs.WellFormed.{well_formed}
use Rattle.ci_unit.proofs.uses.input_put.Goals as goal

pub returns-clause-well_formed : goal.returns-clause-well_formed
returns-clause-well_formed c =
    well_formed (Cput c.register_or_zero-rs1.result c.register_or_zero-rs2.result)
    (c.register_or_zero-rs1.ensures.below, c.register_or_zero-rs2.ensures.below)
