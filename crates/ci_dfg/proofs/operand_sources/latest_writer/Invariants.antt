use Rattle.std.proofs.Common.{◌≡◌, ◌≤◌}
use Rattle.ci_isa.specs.Sequences.{latest_writer}
use Rattle.ci_dfg.proofs.operand_sources.latest_writer.Given as goal

abbrev pub invariant-loop-j : goal.invariant-loop-j
invariant-loop-j l = record { below : l.j ≤ l.k; same : latest_writer l.insns l.register l.k ≡ latest_writer l.insns l.register l.j }

abbrev pub decreases-loop-j : goal.decreases-loop-j
decreases-loop-j l = l.j
