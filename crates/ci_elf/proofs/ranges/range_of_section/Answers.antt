use Rattle.std.proofs.Common.{◌+◌, ◌≤◌, subst, sym}
use Rattle.ci_elf.specs.Fields.{is_text}
use Rattle.ci_elf.specs.MemoryMap.{memory_top}
use Rattle.ci_elf.specs.private.SectionChecks.{section_of}
use Rattle.ci_elf.proofs.SegmentLaws.{chosen}
use Rattle.ci_elf.proofs.RangeLaws.{text_top}
use Rattle.ci_elf.proofs.ranges.range_of_section.Goals as goal

pub words_in-range-requires : goal.words_in-range-requires
words_in-range-requires c =
    let is = chosen (is_text c.args.bytes.now c.args.n) c.in_ok-text.text (section_of c.args.bytes.now c.args.n) c.in_ok-text.ensures in
    subst (λ s. s.address + s.size ≤ memory_top) (sym is.1)
    (text_top c.args.bytes.now c.requires.segments c.requires.sections c.args.n c.requires.exists is.0)
