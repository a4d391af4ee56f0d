use Rattle.std.proofs.Common.{◌≤◌, drop}
use Rattle.ci_verilog.specs.Modules.{known_by}
use Rattle.ci_verilog.proofs.WidthLaws.{Leaves}
use Rattle.ci_verilog.proofs.wires.Wires.items_width.Given as goal

abbrev pub invariant-loop-item : goal.invariant-loop-item
invariant-loop-item l =
    record { narrow : l.sum ≤ 64; leaves : Leaves (known_by l.self) l.items (drop l.item-index l.items) l.sum }
