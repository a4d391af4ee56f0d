use Rattle.std.proofs.Common.{◌≡◌, false, sym, ◌∙◌, below_more, arith}
use Rattle.ci_rename.specs.private.ValueTests as tests
use Rattle.ci_rename.proofs.ValueTests.{none_called}
use Rattle.ci_rename.proofs.renaming.is_called.Goals as goal

pub loop-k-preserved : goal.loop-k-preserved
loop-k-preserved c j below =
    below_more (λ j. tests.is_read_by_call c.args.insns.now c.args.i c.args.register j ≡ false) c.loop-k.k c.loop-k.invariant
    (sym c.is_read_by_call.ensures ∙ c.if-is_read_by_call.false) j below

pub returns-clause-uncalled : goal.returns-clause-uncalled
returns-clause-uncalled c wrote none =
    none_called c.args.insns.now c.args.i c.args.register wrote (λ k below. c.loop-k.invariant k (omega arith))
