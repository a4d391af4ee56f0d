use Rattle.std.proofs.Common.{sym, arith}
use Rattle.ci_region.proofs.CellLaws.{only_all}
use Rattle.ci_region.proofs.cells.Cells.vacate.Goals as goal

pub loop-left-init : goal.loop-left-init
loop-left-init g c = (omega (arith, c.requires), sym (only_all c.args.self.now c.args.count c.requires))
