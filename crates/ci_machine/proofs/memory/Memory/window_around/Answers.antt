use Rattle.std.proofs.Common.{sym, subst}
use Rattle.ci_machine.specs.Windows.{IsWindow}
use Rattle.ci_machine.specs.Memories.{is_mapped}
use Rattle.ci_machine.proofs.WindowLaws.{no_window}
use Rattle.ci_machine.proofs.memory.Memory.window_around.Goals as goal

pub returns-in-None : goal.returns-in-None
returns-in-None c = subst (IsWindow c.args.self.now.pages.table.items (is_mapped c.args.self.now)) (sym c.none.ensures) (no_window _ _)
