use Rattle.ci_cut.proofs.SourceSetLaws.{holds-entry, holds-made}
use Rattle.ci_cut.proofs.ports.SourceSet.insert.Goals as goal

pub returns-in-Entry : goal.returns-in-Entry
returns-in-Entry c other = rw (c.insert.ensures, c.in-Entry.is) (holds-entry c.args.self.now c.in-Entry.register other)

pub returns-in-Made : goal.returns-in-Made
returns-in-Made c other = rw (c.insert-in-Made.ensures, c.in-Made.is) (holds-made c.args.self.now c.in-Made.node other)
