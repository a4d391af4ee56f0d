use Rattle.std.specs.Prelude.{map, take}
use Rattle.ci_verilog.specs.Values.{joined, item_bits}
use Rattle.ci_gates.specs.private.Scopes.{Stands}
use Rattle.ci_verilog.specs.Modules.{wires_of}
use Rattle.ci_gates.proofs.scopes.Scope.items.Given as goal

abbrev pub invariant-loop-item : goal.invariant-loop-item
invariant-loop-item l =
    Stands (wires_of l.self.wide l.self.wires.now) l.self.words.now l.bits.items (λ names. joined (map (item_bits names) (take l.item-index l.items)))
