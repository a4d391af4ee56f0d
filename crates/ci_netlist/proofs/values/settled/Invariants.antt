use Rattle.ci_netlist.proofs.SettledLaws.{SettlesFirst}
use Rattle.ci_netlist.proofs.values.settled.Given as goal

abbrev pub invariant-loop-gate : goal.invariant-loop-gate
invariant-loop-gate l = SettlesFirst l.gates l.arguments l.given.items l.gate-index
