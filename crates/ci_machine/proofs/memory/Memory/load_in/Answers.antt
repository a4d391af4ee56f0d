use Rattle.std.proofs.Common.{ap, sym, ◌∙◌, Some, arith}
use Rattle.std.specs.Option.{option_map}
use Rattle.ci_isa.specs.Effects.{width_bytes}
use Rattle.ci_machine.specs.Accesses.{number_of_bytes}
use Rattle.ci_machine.proofs.MemoryWrites.{seen_run}
use Rattle.ci_machine.proofs.memory.Memory.load_in.Goals as goal

pub returns-then-is_in : goal.returns-then-is_in
returns-then-is_in c =
    ap (option_map number_of_bytes)
    (seen_run c.args.self.now (width_bytes c.args.width) c.args.address (omega (arith, c.is_in.ensures.on_page c.if-is_in.true))
    (c.is_in.ensures.mapped c.if-is_in.true))
    ∙ sym (ap Some c.load_at.ensures)
