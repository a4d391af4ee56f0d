use Rattle.std.proofs.Common.{sym, ◌∙◌, ap, ◌++◌}
use Rattle.std.proofs.lemmas.List.{append-nil}
use Rattle.byteorder.specs.Endian.{little_bytes}
use Rattle.ci_elf.specs.Frames.{halves}
use Rattle.ci_elf.proofs.FrameLaws.{pushed_more, pushed_all}
use Rattle.ci_elf.proofs.frames.push_halves.Goals as goal

pub loop-number-init : goal.loop-number-init
loop-number-init c = sym (append-nil _)

pub loop-number-preserved : goal.loop-number-preserved
loop-number-preserved c =
    c.in_ok-push_half.ensures
    ∙ pushed_more (little_bytes 2) c.args.numbers.now c.loop-number.number-index c.args.bytes.now.items _ c.loop-number-test.true c.loop-number.invariant

pub returns : goal.returns
returns c = c.loop-number.invariant ∙ ap (λ l. c.args.bytes.now.items ++ halves l)
    (pushed_all c.args.numbers.now c.loop-number.number-index c.loop-number-test.false)
