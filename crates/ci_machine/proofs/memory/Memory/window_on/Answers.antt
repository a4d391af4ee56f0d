use Rattle.std.proofs.Common.{◌-◌, ◌%◌, sym, subst, refl}
use Rattle.ci_machine.specs.Windows.{IsWindow}
use Rattle.ci_machine.specs.Memories.{is_mapped}
use Rattle.ci_machine.proofs.WindowLaws.{part_on_page}
use Rattle.ci_machine.proofs.memory.Memory.window_on.Goals as goal

pub returns : goal.returns
returns c =
    subst (IsWindow c.args.self.now.pages.table.items (is_mapped c.args.self.now)) (sym c.of.ensures)
    (part_on_page _ _ c.mapped_around.result c.args.address (c.args.address - c.args.address % 4096) c.args.place
    c.mapped_around.ensures refl c.requires)
