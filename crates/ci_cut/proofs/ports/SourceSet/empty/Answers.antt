use Rattle.ci_cut.proofs.SourceSetLaws.{holds-empty}
use Rattle.ci_cut.proofs.ports.SourceSet.empty.Goals as goal

pub returns : goal.returns
returns c source = rw (c.empty.ensures, c.empty-2.ensures) (holds-empty source)
