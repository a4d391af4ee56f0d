use Rattle.std.proofs.Common.{◌≡◌, ◌+◌, drop, map}
use Rattle.ci_elf.specs.MemoryMap.{stack_size}
use Rattle.ci_machine.specs.Programs.{extent_of, loaded_size}
use Rattle.ci_machine.proofs.start.loaded_size.Given as goal

abbrev pub invariant-loop-segment : goal.invariant-loop-segment
invariant-loop-segment l =
    l.size + loaded_size (map extent_of (drop l.segment-index l.segments))
    ≡ loaded_size (map extent_of l.segments) + stack_size
