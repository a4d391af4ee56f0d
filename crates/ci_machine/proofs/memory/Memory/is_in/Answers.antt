use Rattle.std.proofs.Common.{arith}
use Rattle.ci_isa.specs.Effects.{width_bytes}
use Rattle.ci_machine.proofs.MemoryWrites.{width_some}
use Rattle.ci_machine.proofs.WindowLaws.{access_inside, access_mapped, access_there}
use Rattle.ci_machine.proofs.memory.Memory.is_in.Goals as goal

pub returns-clause-there : goal.returns-clause-there
returns-clause-there c = λ is.
    access_there _ _ c.args.window c.requires c.args.address (width_bytes c.args.width) (width_some c.args.width)
    (c.holds.ensures.from is) (omega (arith, c.holds.ensures.to is, c.bytes.ensures))

pub returns-clause-on_page : goal.returns-clause-on_page
returns-clause-on_page c = λ is.
    access_inside _ _ c.args.window c.requires c.args.address (width_bytes c.args.width) (width_some c.args.width)
    (c.holds.ensures.from is) (omega (arith, c.holds.ensures.to is, c.bytes.ensures))

pub returns-clause-mapped : goal.returns-clause-mapped
returns-clause-mapped c = λ is.
    access_mapped _ _ c.args.window c.requires c.args.address (width_bytes c.args.width) (width_some c.args.width)
    (c.holds.ensures.from is) (omega (arith, c.holds.ensures.to is, c.bytes.ensures))
