use Rattle.std.proofs.Common.{take}
use Rattle.ci_gen.specs.private.Pushed.{ArePushed}
use Rattle.ci_gen.proofs.text.push_ending.Given as goal

-- so many instructions were appended
abbrev pub invariant-loop-insn : goal.invariant-loop-insn
invariant-loop-insn l = ArePushed l.initial.text.items l.text.items (take l.insn-index l.insn-items)
