use Rattle.std.proofs.Common.{sym}
use Rattle.ci_region.proofs.CellLaws.{used_is}
use Rattle.ci_region.proofs.Region.used.Goals as goal

pub returns-clause-value : goal.returns-clause-value
returns-clause-value g c = sym (used_is _ _ _ _ _ _ _ c.self.view_is c.self.invariant.0 c.self.invariant.1)
