use Rattle.std.proofs.Common.{◌≡◌}
use Rattle.ci_elf.specs.private.Parts.{parts_below, text_of}
use Rattle.ci_elf.proofs.sections.text_parts.Given as goal

abbrev pub invariant-loop-n : goal.invariant-loop-n
invariant-loop-n l = l.parts.items ≡ parts_below l.n (text_of l.bytes)
