use Rattle.std.proofs.Common.{◌≡◌, ℕ, ◌<◌, false}
use Rattle.ci_isa.specs.Effects.{writes_register}
use Rattle.ci_isa.specs.Sequences.{nth_insn}
use Rattle.ci_dfg.proofs.nodes.is_written_after.Given as goal

abbrev pub invariant-loop-j : goal.invariant-loop-j
invariant-loop-j l =
    (i : ℕ) → l.k < i → i < l.j → writes_register (nth_insn l.insns i) l.register ≡ false
