use Rattle.std.proofs.Common.{take}
use Rattle.std.specs.List.{AllZip}
use Rattle.ci_gates.specs.Modules.{IsNetlistOf}
use Rattle.ci_commands.proofs.gates.netlists.Given as goal

abbrev pub invariant-loop-module : goal.invariant-loop-module
invariant-loop-module l = AllZip IsNetlistOf (take l.module-index l.modules) l.nets.items
