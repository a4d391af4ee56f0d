use Rattle.std.proofs.Common.{◌≡◌, replicate}
use Rattle.ci_verilog.specs.Values.{joined}
use Rattle.ci_verilog.proofs.vectors.Vector.repeated.Given as goal

abbrev pub invariant-loop : goal.invariant-loop
invariant-loop l = l.copies ≡ joined (replicate l.counter l.self)
