use Rattle.std.specs.Prelude.{ℕ, List, replicate}
use Rattle.ci_verilog.specs.declared.vectors.Vector.{Vector}
use Rattle.ci_verilog.specs.Values.{joined}
use Rattle.ci_netlist.specs.declared.bits.Bit.{Bit}
use Rattle.ci_verilog.specs.Modules.{WireList}
use Rattle.ci_gates.specs.private.Scopes.{Stands}
use Rattle.ci_gates.proofs.scopes.repeated.Given as goal

abbrev pub invariant-loop : goal.invariant-loop
invariant-loop l =
    (wires : WireList) (words : List Bit) (of : (List ℕ → Vector) → Vector) → Stands wires words l.word of
    → Stands wires words l.copies.items (λ names. joined (replicate l.counter (of names)))
