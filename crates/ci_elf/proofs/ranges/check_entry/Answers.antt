use Rattle.ci_elf.proofs.RangeLaws.{text_held}
use Rattle.ci_elf.proofs.ranges.check_entry.Goals as goal

pub returns-in-Some : goal.returns-in-Some
returns-in-Some c = (c.if-entry-ne0.false, text_held c.args.ranges.now c.args.entry _ c.in-Some.ensures)
