use Rattle.std.proofs.Common.{◌≡◌, ◌++◌, take}
use Rattle.ci_elf.specs.Frames.{halves}
use Rattle.ci_elf.proofs.frames.push_halves.Given as goal

abbrev pub invariant-loop-number : goal.invariant-loop-number
invariant-loop-number l = l.bytes.items ≡ l.initial.bytes.items ++ halves (take l.number-index l.numbers)
