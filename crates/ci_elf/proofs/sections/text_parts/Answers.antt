use Rattle.std.proofs.Common.{◌≡◌, sym, ◌∙◌, ap, arith}
use Rattle.ci_elf.specs.Fields.{e_shnum}
use Rattle.ci_elf.specs.private.Parts.{parts_below, text_of}
use Rattle.ci_reading.proofs.BrokenLaws.{each_below_none}
use Rattle.ci_elf.proofs.PairRuleLaws.{parts_step}
use Rattle.ci_elf.proofs.sections.text_parts.Goals as goal

pub loop-n-init : goal.loop-n-init
loop-n-init c = c.new-parts.ensures.items ∙ sym (each_below_none _)

pub loop-n-preserved : goal.loop-n-preserved
loop-n-preserved c =
    c.in_ok-push.ensures.items ∙ parts_step (text_of c.args.bytes.now) c.loop-n.n _ _ c.loop-n.invariant c.text_part.ensures

pub returns : goal.returns
returns c =
    let all : c.loop-n.n ≡ e_shnum c.args.bytes.now = omega arith in
    c.loop-n.invariant ∙ ap (λ n. parts_below n (text_of c.args.bytes.now)) all
