use Rattle.std.proofs.Common.{drop}
use Rattle.ci_verilog.specs.Modules.{wires_of}
use Rattle.ci_verilog.specs.private.Held.{InRange, IsHeld}
use Rattle.ci_verilog.proofs.ScopeLaws.{IsAbove}
use Rattle.ci_verilog.proofs.evaluation.Scope.items.Given as goal

abbrev pub invariant-loop-item : goal.invariant-loop-item
invariant-loop-item l =
    record {
      in_range : InRange l.bits;
      is_above :
          (held : IsHeld l.self.arguments (wires_of l.self.wide l.self.wires.now) l.self.values.now)
          → IsAbove l.self.arguments (wires_of l.self.wide l.self.wires.now) l.self.values.now held l.bits (drop l.item-index l.items) l.items;
    }
