use Rattle.std.proofs.Common.{sym, subst}
use Rattle.ci_elf.specs.Executables.{in_text as has_text}
use Rattle.ci_emu.specs.private.Fetched.{IsTextBelow}
use Rattle.ci_emu.proofs.TextEnds.{below_last, none_below}
use Rattle.ci_emu.proofs.touches.text_end.Goals as goal

pub returns-in-Some : goal.returns-in-Some
returns-in-Some c =
    subst (IsTextBelow (has_text c.args.text.now)) (sym c.range_end.ensures)
    (below_last c.args.text.now c.requires c.in-Some.range.now (sym c.in-Some.ensures.value))

pub returns-in-None : goal.returns-in-None
returns-in-None c = none_below c.args.text.now (sym c.in-None.ensures.value)
