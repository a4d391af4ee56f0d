use Rattle.std.specs.Prelude.{◌≢◌}
use Rattle.std.proofs.Common.{sym, arith}
use Rattle.ci_rename.proofs.ReadValues.{stays_before, stays_other}
use Rattle.ci_rename.proofs.renaming.moved.Goals as goal

pub returns-then-number-value : goal.returns-then-number-value
returns-then-number-value c =
    let value = c.args.value in
    let differs : c.args.register ≢ value.from = λ same. omega (arith, c.number.ensures.value) in
    sym (stays_other c.args.insns.now value.node value.from value.last c.args.to c.args.k c.requires.up_to c.requires.there c.args.register differs)

pub returns-then-k-value : goal.returns-then-k-value
returns-then-k-value c =
    let value = c.args.value in
    sym (stays_before c.args.insns.now value.node value.from value.last c.args.to c.args.k c.requires.up_to c.requires.there c.args.register
    (omega arith))
