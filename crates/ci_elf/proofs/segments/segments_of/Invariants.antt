use Rattle.std.proofs.Common.{◌≡◌}
use Rattle.ci_elf.specs.Fields.{is_loadable}
use Rattle.ci_elf.specs.Executables.{segment_of}
use Rattle.ci_reading.specs.Broken.{those_below}
use Rattle.ci_elf.proofs.segments.segments_of.Given as goal

abbrev pub invariant-loop-n : goal.invariant-loop-n
invariant-loop-n l = l.segments.items ≡ those_below l.n (is_loadable l.bytes) (segment_of l.bytes)
