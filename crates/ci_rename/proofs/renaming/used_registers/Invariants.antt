use Rattle.std.proofs.Common.{◌≡◌, ℕ}
use Rattle.std.specs.FinSet as finite
use Rattle.ci_rename.specs.private.ValueTests.{is_used}
use Rattle.ci_rename.proofs.renaming.used_registers.Given as goal

abbrev pub invariant-loop-insn : goal.invariant-loop-insn
invariant-loop-insn l = (r : ℕ) → finite.contains l.used r ≡ is_used l.insns l.insn-index r
