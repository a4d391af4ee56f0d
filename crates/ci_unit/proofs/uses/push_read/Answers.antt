use Rattle.std.proofs.Common.{All, subst, sym, arith}
use Rattle.std.proofs.lemmas.List.Elements.{All-push}
use Rattle.ci_isa.specs.declared.instruction.Insn.TheVariants.{Cread}
use Rattle.ci_isa.specs.Table.{IsWellFormed}
use Rattle.ci_isa.proofs.WellFormed.{well_formed}
use Rattle.ci_unit.proofs.uses.push_read.Goals as goal

pub returns-in-Some-clause-well_formed : goal.returns-in-Some-clause-well_formed
returns-in-Some-clause-well_formed c all =
    subst (All IsWellFormed) (sym c.push_reserved.ensures.items)
    (All-push IsWellFormed c.args.reads.now.items (Cread c.register_of-rd.result c.args.index) all
    (well_formed (Cread c.register_of-rd.result c.args.index) (omega (arith, c.number.ensures.value, c.number.ensures.below), c.requires.index)))
