use Rattle.std.proofs.Common.{◌≤◌, take}
use Rattle.ci_commands.specs.GatesCommand.{HaveTogether}
use Rattle.ci_commands.proofs.gates.counted.Given as goal

abbrev pub invariant-loop-number : goal.invariant-loop-number
invariant-loop-number l = record {
  together : HaveTogether (take l.number l.modules) l.gates;
  few : l.gates ≤ 4194304;
}
