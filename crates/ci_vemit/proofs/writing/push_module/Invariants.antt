use Rattle.std.proofs.Common.{◌≡◌, ◌++◌, take}
use Rattle.std.specs.List.{flat_map}
use Rattle.ci_vemit.specs.Texts.{wire_text}
use Rattle.ci_vemit.proofs.writing.push_module.Given as goal

abbrev pub invariant-loop-wire : goal.invariant-loop-wire
invariant-loop-wire l = l.text.items ≡ l.initial.text.items ++ flat_map wire_text (take l.wire-index l.module.wires.list)
