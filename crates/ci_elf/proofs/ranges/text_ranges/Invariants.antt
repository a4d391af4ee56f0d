use Rattle.std.proofs.Common.{◌≡◌}
use Rattle.ci_elf.specs.Executables.{has_words}
use Rattle.ci_elf.specs.Executables.{range_of}
use Rattle.ci_reading.specs.Broken.{those_below}
use Rattle.ci_elf.proofs.ranges.text_ranges.Given as goal

abbrev pub invariant-loop-n : goal.invariant-loop-n
invariant-loop-n l = l.ranges.items ≡ those_below l.n (has_words l.bytes) (range_of l.bytes)
