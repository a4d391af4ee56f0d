use Rattle.std.proofs.Common.{◌/◌, ◌%◌, arith}
use Rattle.ci_machine.specs.Memories.{is_mapped}
use Rattle.ci_machine.specs.Windows.{HasWindows}
use Rattle.ci_machine.proofs.memory.Memory.window.Goals as goal

pub returns : goal.returns
unfolding is_mapped HasWindows
returns c = c.args.self.now.seen.all (c.args.address / 4096 % 256) (omega arith)
