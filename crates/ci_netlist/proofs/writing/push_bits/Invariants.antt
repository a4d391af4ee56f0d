use Rattle.std.proofs.Common.{◌≡◌, ◌++◌, take}
use Rattle.std.specs.List.{flat_map}
use Rattle.ci_netlist.specs.Texts.{spaced_text}
use Rattle.ci_netlist.proofs.writing.push_bits.Given as goal

abbrev pub invariant-loop-bit : goal.invariant-loop-bit
invariant-loop-bit l = l.text.items ≡ l.initial.text.items ++ flat_map spaced_text (take l.bit-index l.bits)
