use Rattle.std.proofs.Common.{◌≡◌, ◌++◌, take}
use Rattle.std.specs.List.{flat_map}
use Rattle.ci_netlist.specs.Texts.{gate_text}
use Rattle.ci_netlist.proofs.writing.push_netlist.Given as goal

abbrev pub invariant-loop-gate : goal.invariant-loop-gate
invariant-loop-gate l = l.text.items ≡ l.initial.text.items ++ flat_map gate_text (take l.gate-index l.gates)
